-- Reading a record's body from left to right. A field is a value and the bytes after it.
use Rattle.std.specs.Prelude.{ℕ, zero, suc, List, [], ◌∷◌, length, Option, Some, None, option_map, ◌&&◌, ◌==◌, nat_le, if◌then◌else◌}
use Rattle.std.specs.Cmp.Lexicographic.{slice_cmp}
use Rattle.std.specs.Int.{w16, w32, w64}
use Rattle.std.specs.Ordering.{nat_cmp, is_lt}
use Rattle.std.specs.Result.{result_ok}
use Rattle.xa_bytes.specs.Numbers.{number_at}
use Rattle.xa_codes.specs.declared.direction.Direction.{Direction}
use Rattle.xa_limits.specs.declared.TheConstants.{MOST_WRITES}
use Rattle.xa_codes.specs.declared.write.Write.{Write}
use Rattle.xa_xid.specs.Triple.{Triple}
use Rattle.xa_fields.specs.Reading.{key_at, value_at, direction_at, name_at}
use Rattle.xa_record.specs.declared.record.Record.{Record}
use Rattle.xa_record.specs.declared.record.Record.TheVariants.{Opened, Prepared, Committed, Completed, Decided, Forgotten, Base, Held, Known}

infixl 10 ◌>>=◌
abbrev pub ◌>>=◌ : {A B : Type 0} → Option A → (A → Option B) → Option B
(Some x) >>= f = f x
None >>= f = None

-- all of the bytes
abbrev pub ended : {A : Type 0} → A → List ℕ → Option A
ended x bytes = if length bytes == 0 then Some x else None

unfoldable pub xid_front : List ℕ → Option (Triple × List ℕ)
xid_front bytes = result_ok (name_at bytes)

-- a direction that is all of the bytes
unfoldable pub last_direction : List ℕ → Option Direction
last_direction bytes = do
  direction ← result_ok (direction_at bytes)
  ended direction.0 direction.1

-- a key above the one before
unfoldable pub next_key : List ℕ → List ℕ → Option (List ℕ × List ℕ)
next_key previous bytes = do
  key ← result_ok (key_at bytes)
  if is_lt (slice_cmp nat_cmp previous key.0) then Some key else None

-- what is left at a key
unfoldable pub left_at : List ℕ → Option (Option (List ℕ) × List ℕ)
left_at [] = None
left_at (zero ∷ rest) = Some (None, rest)
left_at (suc zero ∷ rest) = option_map (λ value. (Some value.0, value.1)) (result_ok (value_at rest))
left_at (suc (suc b) ∷ rest) = None

unfoldable pub write_at : List ℕ → List ℕ → Option (Write × List ℕ)
write_at previous bytes = do
  key ← next_key previous bytes
  value ← left_at key.1
  Some (record { key = key.0; value = value.0 }, value.1)

-- this many writes above this key, and nothing after them
unfoldable pub writes_at : ℕ → List ℕ → List ℕ → Option (List Write)
writes_at zero previous bytes = ended [] bytes
writes_at (suc n) previous bytes = do
  w ← write_at previous bytes
  ws ← writes_at n w.0.key w.1
  Some (w.0 ∷ ws)

-- what stands before the writes: the timestamp, the count
unfoldable pub head_at : List ℕ → Option (ℕ × ℕ × List ℕ)
head_at bytes = do
  t ← number_at w64 bytes
  n ← number_at w16 t.1
  if nat_le 1 n.0 && nat_le n.0 MOST_WRITES then Some (t.0, n.0, n.1) else None

unfoldable pub stamped_at : List ℕ → Option (ℕ × List Write)
stamped_at bytes = do
  head ← head_at bytes
  ws ← writes_at head.1 [] head.2
  Some (head.0, ws)

unfoldable pub opened_at : List ℕ → Option Record
opened_at bytes = do
  boot ← number_at w32 bytes
  if nat_le 1 boot.0 && length boot.1 == 0 then Some (Opened boot.0) else None

unfoldable pub branch_at : List ℕ → Option (Triple × ℕ × List Write)
branch_at bytes = do
  x ← xid_front bytes
  s ← stamped_at x.1
  Some (x.0, s.0, s.1)

unfoldable pub directed_at : List ℕ → Option (Triple × Direction)
directed_at bytes = do
  x ← xid_front bytes
  direction ← last_direction x.1
  Some (x.0, direction)

unfoldable pub forgotten_at : List ℕ → Option Triple
forgotten_at bytes = do
  x ← xid_front bytes
  ended x.0 x.1

-- the record that these bytes are the body of, by its kind
unfoldable pub record_at : List ℕ → Option Record
record_at [] = None
record_at (zero ∷ rest) = None
record_at (suc zero ∷ rest) = opened_at rest
record_at (suc (suc zero) ∷ rest) = option_map (λ b. Prepared b.0 b.1 b.2) (branch_at rest)
record_at (suc (suc (suc zero)) ∷ rest) = option_map (λ b. Committed b.0 b.1 b.2) (branch_at rest)
record_at (suc (suc (suc (suc zero))) ∷ rest) = option_map (λ d. Completed d.0 d.1) (directed_at rest)
record_at (suc (suc (suc (suc (suc zero)))) ∷ rest) = option_map (λ d. Decided d.0 d.1) (directed_at rest)
record_at (suc (suc (suc (suc (suc (suc zero))))) ∷ rest) = option_map (λ x. Forgotten x) (forgotten_at rest)
record_at (suc (suc (suc (suc (suc (suc (suc zero)))))) ∷ rest) = option_map (λ s. Base s.0 s.1) (stamped_at rest)
record_at (suc (suc (suc (suc (suc (suc (suc (suc zero))))))) ∷ rest) =
    option_map (λ b. Held b.0 b.1 b.2) (branch_at rest)
record_at (suc (suc (suc (suc (suc (suc (suc (suc (suc zero)))))))) ∷ rest) =
    option_map (λ d. Known d.0 d.1) (directed_at rest)
record_at (suc (suc (suc (suc (suc (suc (suc (suc (suc (suc kind))))))))) ∷ rest) = None
