-- What lasts of branches, where a change leaves each its name and what lasts of it.
use Rattle.std.proofs.Common.{◌≡◌, ℕ, Bool, true, false, cond, Option, Some, List, [], ◌∷◌, refl, ap, ◌∙◌}
use Rattle.std.specs.Prelude.{map}
use Rattle.xa_codes.specs.declared.direction.Direction.{Direction}
use Rattle.xa_xid.specs.Triple.{Triple}
use Rattle.xa_model.specs.State.{Branch, name_of, is_with, is_known_as, known_of, change}
use Rattle.xa_model.specs.Logging.{is_in_doubt}
use Rattle.xa_model.specs.Invariants.LowWater.{is_known_at}
use Rattle.xa_model.proofs.Counts.{count_same, count_map}
use Rattle.xa_branch.specs.Branches.{lasting_in, lasting_among, prepared_among}
use Rattle.xa_branch.proofs.Timed.{times_change, times_map}

pub record KeepsLasting (f : Branch → Branch) : Type 0 where
  pub name : (b : Branch) → name_of (f b).phase ≡ name_of b.phase
  pub lasts : (b : Branch) → lasting_in (f b) ≡ lasting_in b
  pub plain : (b : Branch) → is_in_doubt (f b).phase ≡ is_in_doubt b.phase
  pub time : (b : Branch) → (f b).timestamp ≡ b.timestamp

called_same : (f : Branch → Branch) → KeepsLasting f → (q : Triple) (b : Branch) → is_known_as q (f b) ≡ is_known_as q b
called_same f k q b = ap (λ (o : Option Triple). is_with q o) (k.name b)

here_by : (b b' : Branch) (d : Option Direction) (o : Option Branch) (c : Bool) → lasting_in b' ≡ lasting_in b → lasting_among (cond c (Some b') o) d ≡ lasting_among (cond c (Some b) o) d
here_by b b' d o true e = e
here_by b b' d o false e = refl

there_by : (b : Branch) (d : Option Direction) (o o' : Option Branch) (c : Bool) → lasting_among o' d ≡ lasting_among o d → lasting_among (cond c (Some b) o') d ≡ lasting_among (cond c (Some b) o) d
there_by b d o o' true e = refl
there_by b d o o' false e = e

first_same : (f : Branch → Branch) → KeepsLasting f → (q : Triple) (d : Option Direction) (b : Branch) (o : Option Branch)
    → lasting_among (cond (is_known_as q (f b)) (Some (f b)) o) d ≡ lasting_among (cond (is_known_as q b) (Some b) o) d
first_same f k q d b o = ap (λ (c : Bool). lasting_among (cond c (Some (f b)) o) d) (called_same f k q b) ∙ here_by b (f b) d o (is_known_as q b) (k.lasts b)

changed_by : (f : Branch → Branch) → KeepsLasting f → (q : Triple) (d : Option Direction) (b : Branch) (bs bs' : List Branch) (c : Bool) → lasting_among (known_of bs' q) d ≡ lasting_among (known_of bs q) d
    → lasting_among (known_of (cond c (f b ∷ bs) (b ∷ bs')) q) d ≡ lasting_among (cond (is_known_as q b) (Some b) (known_of bs q)) d
changed_by f k q d b bs bs' true rest = first_same f k q d b (known_of bs q)
changed_by f k q d b bs bs' false rest = there_by b d (known_of bs q) (known_of bs' q) (is_known_as q b) rest

pub lasting_change : (p : Branch → Bool) (f : Branch → Branch) → KeepsLasting f → (q : Triple) (d : Option Direction) (bs : List Branch)
    → lasting_among (known_of (change p f bs) q) d ≡ lasting_among (known_of bs q) d
lasting_change p f k q d [] = refl
lasting_change p f k q d (b ∷ bs) = changed_by f k q d b bs (change p f bs) (p b) (lasting_change p f k q d bs)

pub lasting_map : (f : Branch → Branch) → KeepsLasting f → (q : Triple) (d : Option Direction) (bs : List Branch) → lasting_among (known_of (map f bs) q) d ≡ lasting_among (known_of bs q) d
lasting_map f k q d [] = refl
lasting_map f k q d (b ∷ bs) = first_same f k q d b (known_of (map f bs) q) ∙ there_by b d (known_of bs q) (known_of (map f bs) q) (is_known_as q b) (lasting_map f k q d bs)

-- as many are prepared

pub prepared_change : (p : Branch → Bool) (f : Branch → Branch) → KeepsLasting f → (bs : List Branch) → prepared_among (change p f bs) ≡ prepared_among bs
prepared_change p f k bs = count_same p f (λ b. is_in_doubt b.phase) k.plain bs

pub prepared_map : (f : Branch → Branch) → KeepsLasting f → (bs : List Branch) → prepared_among (map f bs) ≡ prepared_among bs
prepared_map f k bs = count_map f (λ b. is_in_doubt b.phase) k.plain bs

-- they are known at the same timestamps

pub timed_change : (p : Branch → Bool) (f : Branch → Branch) → KeepsLasting f → (t : ℕ) (bs : List Branch) → is_known_at t (change p f bs) ≡ is_known_at t bs
timed_change p f k t bs = times_change p f k.name k.time t bs

pub timed_map : (f : Branch → Branch) → KeepsLasting f → (t : ℕ) (bs : List Branch) → is_known_at t (map f bs) ≡ is_known_at t bs
timed_map f k t bs = times_map f k.name k.time t bs
