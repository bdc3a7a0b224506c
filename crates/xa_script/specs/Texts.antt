-- Bytes as text in quotes: a byte from a blank to ~ is itself, a quote and a backslash have a backslash in front, and any
-- other is \x and two digits.
use Rattle.std.specs.Prelude.{ℕ, ◌==◌, ◌||◌, ◌&&◌, nat_le, Bool, true, false, not, if◌then◌else◌}
use Rattle.std.specs.Prelude.{List, [], ◌∷◌, ◌++◌, flat_map, Option, Some, None, option_and_then}
use Rattle.std.specs.Option.{option_map}
use Rattle.xa_script.specs.Hexadecimal.{byte_of}
use Rattle.xa_script.specs.declared.text.Stage.{Stage}
use Rattle.xa_script.specs.declared.text.Stage.TheVariants.{Between, Escaped, Hexadecimal, Digit, Ended}
use Rattle.xa_xid.specs.Spelling.{hex}

-- a quote and a backslash
abbrev pub is_marked : ℕ → Bool
is_marked c = (c == 34) || (c == 92)

abbrev pub is_plain : ℕ → Bool
is_plain c = (nat_le 32 c && nat_le c 126) && not (is_marked c)

abbrev pub spelled_byte : ℕ → List ℕ
spelled_byte b =
    if is_plain b then b ∷ []
    else if is_marked b then 92 ∷ b ∷ []
    else 92 ∷ 120 ∷ hex (b ∷ [])

abbrev pub spelled : List ℕ → List ℕ
spelled bytes = flat_map spelled_byte bytes

abbrev pub quoted : List ℕ → List ℕ
quoted bytes = 34 ∷ spelled bytes ++ 34 ∷ []

-- where a reading is after one more character, and the byte whose spelling that ends: any byte may be spelled by \x
abbrev pub next_of : Stage → ℕ → Option (Stage × Option ℕ)
next_of Between c =
    if is_plain c then Some (Between, Some c)
    else if c == 34 then Some (Ended, None)
    else if c == 92 then Some (Escaped, None)
    else None
next_of Escaped c =
    if is_marked c then Some (Between, Some c)
    else if c == 120 then Some (Hexadecimal, None)
    else None
next_of Hexadecimal c = Some (Digit c, None)
next_of (Digit high) c = option_map (λ byte. (Between, Some byte)) (byte_of high c)
next_of Ended c = None

abbrev pub is_end : Stage → Bool
is_end Ended = true
is_end _ = false

-- a byte more in front, if there is one
abbrev pub in_front : Option ℕ → List ℕ → List ℕ
in_front None bytes = bytes
in_front (Some byte) bytes = byte ∷ bytes

-- the bytes of the characters that are left, from where a reading is
abbrev pub text_by : Stage → List ℕ → Option (List ℕ)
text_by stage [] = if is_end stage then Some [] else None
text_by stage (c ∷ cs) =
    option_and_then (λ next. option_map (in_front next.1) (text_by next.0 cs)) (next_of stage c)

-- a word that begins with a quote is text
abbrev pub is_quoted : List ℕ → Bool
is_quoted [] = false
is_quoted (c ∷ cs) = c == 34

-- the bytes of such a word
abbrev pub text_of : List ℕ → Option (List ℕ)
text_of [] = None
text_of (c ∷ cs) = text_by Between cs
