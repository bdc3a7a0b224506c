-- Changes of a list of branches keep the order of their timestamps.
use Rattle.std.proofs.Common.{◌≡◌, ℕ, ◌≤◌, Bool, true, false, cond, List, [], ◌∷◌, arith}
use Rattle.std.specs.Prelude.{map}
use Rattle.xa_model.specs.State.{Branch, change, without}
use Rattle.xa_model.specs.Invariants.Sound.{Descends}

-- a change that leaves the timestamps
pub record KeepsTimestamp (f : Branch → Branch) : Type 0 where
  pub same : (b : Branch) → (f b).timestamp ≡ b.timestamp

pub descends_below : (low high : ℕ) (bs : List Branch) → low ≤ high → Descends low bs → Descends high bs
descends_below low high [] le h = tt
descends_below low high (b ∷ bs) le h = (h.0, omega (arith, h.1), h.2)

changed_by : (f : Branch → Branch) (k : KeepsTimestamp f) (p : Branch → Bool) (limit : ℕ) (b : Branch) (bs : List Branch) (c : Bool) → Descends limit (b ∷ bs)
    → Descends b.timestamp (change p f bs) → Descends limit (cond c (f b ∷ bs) (b ∷ change p f bs))
changed_by f k p limit b bs true h rest = rw (k.same b) h
changed_by f k p limit b bs false h rest = (h.0, h.1, rest)

pub change_descends : (f : Branch → Branch) (k : KeepsTimestamp f) (p : Branch → Bool) (limit : ℕ) (bs : List Branch) → Descends limit bs → Descends limit (change p f bs)
change_descends f k p limit [] h = tt
change_descends f k p limit (b ∷ bs) h = changed_by f k p limit b bs (p b) h (change_descends f k p b.timestamp bs h.2)

pub map_descends : (f : Branch → Branch) (k : KeepsTimestamp f) (limit : ℕ) (bs : List Branch) → Descends limit bs → Descends limit (map f bs)
map_descends f k limit [] h = tt
map_descends f k limit (b ∷ bs) h = rw (k.same b) (h.0, h.1, map_descends f k b.timestamp bs h.2)

left_by : (p : Branch → Bool) (limit : ℕ) (b : Branch) (bs : List Branch) (c : Bool) → Descends limit (b ∷ bs) → Descends b.timestamp (without p bs) → Descends limit (cond c bs (b ∷ without p bs))
left_by p limit b bs true h rest = descends_below b.timestamp limit bs (omega (arith, h.1)) h.2
left_by p limit b bs false h rest = (h.0, h.1, rest)

pub without_descends : (p : Branch → Bool) (limit : ℕ) (bs : List Branch) → Descends limit bs → Descends limit (without p bs)
without_descends p limit [] h = tt
without_descends p limit (b ∷ bs) h = left_by p limit b bs (p b) h (without_descends p b.timestamp bs h.2)
