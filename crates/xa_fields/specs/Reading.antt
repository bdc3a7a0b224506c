-- Reading a field from the front of bytes: its value and the bytes after it, or why none stands there.
use Rattle.std.specs.Prelude.{◌≡◌, ℕ, List, [], ◌∷◌, ◌++◌, length, take, drop, Option, Some, None, Result, Ok, Err, nat_lt, ◌==◌, ◌||◌, if◌then◌else◌}
use Rattle.std.specs.Int.{w16}
use Rattle.std.specs.Option.{ok_or}
use Rattle.xa_bytes.specs.Numbers.{number_at, AreBytes}
use Rattle.xa_codes.specs.declared.direction.Direction.{Direction}
use Rattle.xa_codes.specs.declared.direction.Direction.TheVariants.{Commit, Rollback}
use Rattle.xa_limits.specs.declared.TheConstants.{MOST_KEY, MOST_VALUE}
use Rattle.xa_xid.specs.Triple.{Triple}
use Rattle.xa_xid.specs.Reading.{xid_at}
use Rattle.xa_fields.specs.declared.fault.FieldFault.{FieldFault}
use Rattle.xa_fields.specs.declared.fault.FieldFault.TheVariants.{Cut, Limit}

infixl 10 ◌>>=◌
abbrev pub ◌>>=◌ : {A B F : Type 0} → Result A F → (A → Result B F) → Result B F
(Ok x) >>= f = f x
(Err e) >>= f = Err e

abbrev pub Reads : Type 0 → Type 0
Reads A = List ℕ → Result (A × List ℕ) FieldFault

-- this many bytes
abbrev pub bytes_at : ℕ → Reads (List ℕ)
bytes_at n bytes = if nat_lt (length bytes) n then Err Cut else Ok (take n bytes, drop n bytes)

unfoldable pub short_at : Reads (List ℕ)
short_at [] = Err Cut
short_at (n ∷ rest) = bytes_at n rest

unfoldable pub key_at : Reads (List ℕ)
key_at [] = Err Cut
key_at (n ∷ rest) = if (n == 0) || nat_lt MOST_KEY n then Err Limit else bytes_at n rest

unfoldable pub value_at : Reads (List ℕ)
value_at bytes = do
  n ← ok_or (number_at w16 bytes) Cut
  if nat_lt MOST_VALUE n.0 then Err Limit else bytes_at n.0 n.1

unfoldable pub direction_at : Reads Direction
direction_at [] = Err Cut
direction_at (b ∷ rest) = if b == 1 then Ok (Commit, rest) else if b == 2 then Ok (Rollback, rest) else Err Limit

abbrev pub named : List ℕ → Option (Triple × ℕ) → Result (Triple × List ℕ) FieldFault
named bytes None = Err Limit
named bytes (Some x) = Ok (x.0, drop x.1 bytes)

-- an XID
unfoldable pub name_at : Reads Triple
name_at bytes = named bytes (xid_at bytes)

-- what is read is spelled there and within the limits; what is within them and spelled is read
pub record ReadsBack (A : Type 0) (at : Reads A) (spell : A → List ℕ) (fits : A → Type 0) : Type 0 where
  pub found : (bytes : List ℕ) (x : A) (rest : List ℕ) → AreBytes bytes → at bytes ≡ Ok (x, rest)
      → (bytes ≡ spell x ++ rest) × fits x
  pub again : (x : A) (rest : List ℕ) → fits x → at (spell x ++ rest) ≡ Ok (x, rest)
