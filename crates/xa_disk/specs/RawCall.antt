-- The calls of the system on an open file.
use Rattle.std.specs.Prelude.{ℕ, List}

pub data RawCall : Type 0 where
  -- how many bytes it has
  Measures : RawCall
  -- this many bytes are read from an offset on
  Gets : (at count : ℕ) → RawCall
  -- these bytes are written at an offset
  Puts : (at : ℕ) (bytes : List ℕ) → RawCall
  -- it is cut to this many bytes
  Cuts : (to : ℕ) → RawCall
  -- what was written is made durable
  Syncs : RawCall
  -- the answer of a sync by a handle of the file, made after the last write, is taken
  Takes : RawCall
