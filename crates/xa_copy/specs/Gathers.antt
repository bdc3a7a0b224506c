-- What was gathered, up to where it is written.
use Rattle.std.specs.Prelude.{◌≡◌, ℕ, ◌+◌, List, ◌++◌, length, take}
use Rattle.xa_copy.specs.declared.gather.Gather.{Gather}

-- what is written to a file, and what is gathered after it, are this text
pub record Gathers (text file : List ℕ) (gather : Gather) : Type 0 where
  pub all : file ++ take gather.pending gather.buffer.items ≡ text
  pub written : gather.written ≡ length file

-- how many bytes are written or gathered
abbrev pub end_of : Gather → ℕ
end_of gather = gather.written + gather.pending
