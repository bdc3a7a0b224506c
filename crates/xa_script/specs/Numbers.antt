-- Decimal numbers of a script, without leading zeros: from 1 to 2^64 - 1, and those of smaller ranges.
use Rattle.std.specs.Prelude.{ℕ, ◌+◌, ◌-◌, ◌*◌, ◌^◌, ◌==◌, nat_lt, nat_le, Bool, false, not, ◌&&◌, if◌then◌else◌}
use Rattle.std.specs.Prelude.{List, [], ◌∷◌, Option, Some, None, option_and_then, bytes_eq, codes}

abbrev pub is_digit : ℕ → Bool
is_digit c = nat_le 48 c && nat_le c 57

-- the value of digits after a number
abbrev pub value_from : ℕ → List ℕ → Option ℕ
value_from n [] = Some n
value_from n (c ∷ cs) = if is_digit c then value_from (10 * n + (c - 48)) cs else None

-- a digit that isn't 0 at the front
abbrev pub begins_well : List ℕ → Bool
begins_well [] = false
begins_well (c ∷ cs) = not (c == 48)

abbrev pub below_limit : Option ℕ → Option ℕ
below_limit None = None
below_limit (Some n) = if nat_lt n (2 ^ 64) then Some n else None

abbrev pub number_of : List ℕ → Option ℕ
number_of word = if begins_well word then below_limit (value_from 0 word) else None

-- a number up to a limit
abbrev pub up_to : ℕ → List ℕ → Option ℕ
up_to limit word = option_and_then (λ n. if nat_le n limit then Some n else None) (number_of word)

-- a count of XIDs or of seconds: from 0 to 2^32 - 1
abbrev pub count_of : List ℕ → Option ℕ
count_of word = if bytes_eq word (codes "0") then Some 0 else up_to 4_294_967_295 word

-- a moment: from 0 to 2^64 - 1
abbrev pub moment_of : List ℕ → Option ℕ
moment_of word = if bytes_eq word (codes "0") then Some 0 else number_of word

-- which of a disk's calls is to fail, counted from now: the next one is 1, the last one 1,000
abbrev pub call_number_of : List ℕ → Option ℕ
call_number_of word = up_to 1_000 word

-- how many bytes a crash keeps: from 0 to 16,777,216
abbrev pub byte_count_of : List ℕ → Option ℕ
byte_count_of word = if bytes_eq word (codes "0") then Some 0 else up_to 16_777_216 word
