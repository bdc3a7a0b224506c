-- The permissions of a file, as `chmod` has them: a digit each for its owner, its group and others.
use Rattle.std.specs.Prelude.{◌+◌, ◌*◌, ◌-◌, ℕ, List, [], ◌∷◌, Option, Some, None, nat_eq, nat_le, option_and_then, option_map, ◌&&◌}
use Rattle.std.specs.Prelude.{if◌then◌else◌}
use Rattle.clap.specs.Walk.{Text}

-- the value of an octal digit
abbrev pub octal_of : ℕ → Option ℕ
octal_of digit = if nat_le 48 digit && nat_le digit 55 then Some (digit - 48) else None

abbrev pub mode_by : ℕ → ℕ → ℕ → Option ℕ
mode_by owner group others =
    option_and_then (λ o. option_and_then (λ g. option_map (λ rest. 64 * o + 8 * g + rest) (octal_of others)) (octal_of group))
    (octal_of owner)

-- three octal digits, or four of which the first is 0
abbrev pub mode_of : Text → Option ℕ
mode_of (owner ∷ group ∷ others ∷ []) = mode_by owner group others
mode_of (first ∷ owner ∷ group ∷ others ∷ []) = if nat_eq first 48 then mode_by owner group others else None
mode_of _ = None
