-- The flags of a word: `TMNOFLAGS`, or names of flags joined by bars, each at most once, or hexadecimal digits after
-- 0x.
use Rattle.std.specs.Prelude.{ℕ, ◌+◌, ◌*◌, ◌==◌, ◌&&◌, nat_le, nat_eq, bit_and, bit_or, if◌then◌else◌, bytes_eq, codes}
use Rattle.std.specs.Prelude.{List, [], ◌∷◌, length, drop, find, Option, Some, None, option_and_then}
use Rattle.std.specs.Option.{option_map}
use Rattle.std.specs.List.{starts_with}
use Rattle.xa_script.specs.Parts.{parts}
use Rattle.xa_script.specs.Hexadecimal.{digit_of}

-- the flags' names and values (C193)
abbrev pub named_flags : List (List ℕ × ℕ)
named_flags =
    (codes "TMASYNC", 0x8000_0000)
    ∷ (codes "TMONEPHASE", 0x4000_0000)
    ∷ (codes "TMFAIL", 0x2000_0000)
    ∷ (codes "TMNOWAIT", 0x1000_0000)
    ∷ (codes "TMRESUME", 0x0800_0000)
    ∷ (codes "TMSUCCESS", 0x0400_0000)
    ∷ (codes "TMSUSPEND", 0x0200_0000)
    ∷ (codes "TMSTARTRSCAN", 0x0100_0000)
    ∷ (codes "TMENDRSCAN", 0x0080_0000)
    ∷ (codes "TMMULTIPLE", 0x0040_0000)
    ∷ (codes "TMJOIN", 0x0020_0000)
    ∷ (codes "TMMIGRATE", 0x0010_0000)
    ∷ []

abbrev pub flag_of : List ℕ → Option ℕ
flag_of name = option_map (λ entry. entry.1) (find (λ entry. bytes_eq entry.0 name) named_flags)

-- flags, with those of names that aren't among them yet
abbrev pub joined_from : ℕ → List (List ℕ) → Option ℕ
joined_from flags [] = Some flags
joined_from flags (name ∷ names) =
    option_and_then
    (λ flag. if bit_and flags flag == 0 then joined_from (bit_or flags flag) names else None)
    (flag_of name)

-- a number with more digits after it
abbrev pub bits_from : ℕ → List ℕ → Option ℕ
bits_from n [] = Some n
bits_from n (c ∷ cs) = option_and_then (λ d. bits_from (16 * n + d) cs) (digit_of c)

-- 1 to 8 digits
abbrev pub bits_of : List ℕ → Option ℕ
bits_of digits = if nat_le 1 (length digits) && nat_le (length digits) 8 then bits_from 0 digits else None

abbrev pub flags_of : List ℕ → Option ℕ
flags_of word =
    if bytes_eq word (codes "TMNOFLAGS") then Some 0
    else if starts_with nat_eq word (codes "0x") then bits_of (drop 2 word)
    else joined_from 0 (parts 124 word)
