use Rattle.std.proofs.Common.{◌≡◌, ◌+◌, ◌*◌, ◌++◌, length}
use Rattle.std.specs.Option.{option_map}
use Rattle.xa_script.specs.Hexadecimal.{bytes_of}
use Rattle.xa_script.proofs.hexadecimal.read_bytes.Given as goal

-- the bytes so far, and those of what is left
abbrev pub invariant-loop-rest : goal.invariant-loop-rest
invariant-loop-rest l = record {
  same : bytes_of l.digits ≡ option_map (λ bytes. l.bytes.items ++ bytes) (bytes_of l.rest);
  half : 2 * length l.bytes.items + length l.rest ≡ length l.digits;
}

abbrev pub decreases-loop-rest : goal.decreases-loop-rest
decreases-loop-rest l = length l.rest
