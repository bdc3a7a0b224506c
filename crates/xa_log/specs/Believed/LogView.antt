-- What a log's contracts speak of.
use Rattle.std.specs.Prelude.{ℕ, Bool, List}
use Rattle.xa_log.specs.declared.format.Format.{Format}

pub record LogView (D : Type 0) : Type 0 where
  -- the disk of the current file, which has the records
  pub disk : D
  -- that of the other one, where a checkpoint goes
  pub other : D
  -- the current file is the first of the two
  pub on_first : Bool
  -- the current file's format
  pub format : Format
  -- how many bytes each file may have
  pub log_bytes : ℕ
  -- where the next record begins
  pub end : ℕ
  -- the digest of the record before it
  pub digest : List ℕ
  -- the number in the current file's first body, 0 if it has no record
  pub generation : ℕ
  -- how far the current file is known to reach, and how far the other one is
  pub known : ℕ
  pub other_known : ℕ
  -- how many bytes of one record are written without taking memory, with what goes after it
  pub room : ℕ
  -- an append or a checkpoint was lost, and no rescan has succeeded since
  pub lost : Bool
