-- A log's generation, by which the current one of two files is known.
use Rattle.std.specs.Prelude.{ℕ, ◌-◌, nat_le, if◌then◌else◌, List, [], ◌∷◌, length, take, drop}
use Rattle.std.specs.Int.{w32, from_be_bytes}
use Rattle.xa_log.specs.declared.looking.TheConstants.{NUMBER_OFFSET, NUMBER_END}

-- the number in bytes 1 to 4 of a body, 0 in a shorter one
unfoldable pub number_in : List ℕ → ℕ
number_in body =
    if nat_le NUMBER_END (length body)
    then from_be_bytes w32 (take (NUMBER_END - NUMBER_OFFSET) (drop NUMBER_OFFSET body)) else 0

-- a log's generation: the number in its first body, 0 if it has none
abbrev pub generation : List (List ℕ) → ℕ
generation [] = 0
generation (body ∷ bodies) = number_in body
