-- Which indices of an array of bits are free.
use Rattle.std.specs.Prelude.{ℕ, ◌/◌, ◌%◌, ◌==◌, Bool, List, slice_index}
use Rattle.std.specs.Int.{bit_at}

-- 64 indices a word: an index is free if its bit is set
abbrev pub is_free : List ℕ → ℕ → Bool
is_free words k = bit_at (slice_index words (k / 64)) (k % 64) == 1
