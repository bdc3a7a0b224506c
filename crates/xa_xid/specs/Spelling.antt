-- The bytes and the text of an XID.
use Rattle.std.specs.Prelude.{◌≡◌, ◌≢◌, ◌⊎◌, ℕ, ◌+◌, ◌/◌, ◌%◌, ◌≤◌, List, [], ◌∷◌, ◌++◌, length, take, slice_index, flat_map, All, nat_lt, if◌then◌else◌}
use Rattle.std.specs.Int.{w32, to_be_bytes, cast_unsigned, IsInRange}
use Rattle.std.specs.Fmt.{signed_decimal}
use Rattle.xa_xid.specs.Triple.{Triple, IsWithinLimits}

-- the format number in four bytes, two's complement, the greatest first; the lengths of the parts; the parts
abbrev pub bytes_of : Triple → List ℕ
bytes_of x = to_be_bytes w32 (cast_unsigned w32 x.format) ++ (length x.gtrid ∷ length x.bqual ∷ (x.gtrid ++ x.bqual))

-- the first n bytes are those of the XID
pub record BeginsWith (bytes : List ℕ) (x : Triple) (n : ℕ) : Type 0 where
  pub limits : IsWithinLimits x
  pub front : take n bytes ≡ bytes_of x
  pub len : n ≡ length (bytes_of x)
  pub fits : n ≤ length bytes

-- 0 to 9, then a to f
abbrev pub hex_digit : ℕ → ℕ
hex_digit n = if nat_lt n 10 then 48 + n else 87 + n

-- a byte as two digits
abbrev pub hex_byte : ℕ → List ℕ
hex_byte b = hex_digit (b / 16) ∷ hex_digit (b % 16) ∷ []

abbrev pub hex : List ℕ → List ℕ
hex bytes = flat_map hex_byte bytes

-- the format number in decimal and the parts in lower case hexadecimal, with colons between them
abbrev pub text_of : Triple → List ℕ
text_of x = signed_decimal x.format ++ (58 ∷ (hex x.gtrid ++ (58 ∷ hex x.bqual)))

abbrev pub HasNoColon : List ℕ → Type 0
HasNoColon text = All (λ b. b ≢ 58) text

-- 0, or digits of which the first isn't 0, with a minus sign or not
abbrev pub IsPlain : List ℕ → Type 0
IsPlain text =
    (text ≡ 48 ∷ [])
    ⊎ IsInRange 49 57 (slice_index text 0)
    ⊎ ((slice_index text 0 ≡ 45) × IsInRange 49 57 (slice_index text 1))
