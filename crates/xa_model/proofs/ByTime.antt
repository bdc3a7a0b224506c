-- Branches that are put in the order of their timestamps, the greatest first.
use Rattle.std.proofs.Common.{◌≡◌, ℕ, ◌+◌, ◌<◌, ◌==◌, Bool, true, false, cond, List, [], ◌∷◌, ◌++◌, Option, Some, None, refl, ap, sym, ◌∙◌, subst, arith}
use Rattle.std.specs.Prelude.{nat_lt}
use Rattle.std.specs.List.{AllByRecursion}
use Rattle.std.proofs.lemmas.Bool.{ltb-true}
use Rattle.std.proofs.lemmas.Bool.Decides.{nat_tests}
use Rattle.xa_model.specs.State.{Branch, count}
use Rattle.xa_model.specs.Invariants.Sound.{Descends}
use Rattle.xa_model.specs.Durable.{insert}
use Rattle.xa_model.specs.Restarting.{later_first, by_time}
use Rattle.xa_model.proofs.Inserts.{all_imply, all_front, insert_all}
use Rattle.xa_model.proofs.Splits.{parts, parts_append, parts_none, parts_some, parts_all}
use Rattle.xa_model.proofs.Applied.{below_all}

-- no two have the same timestamp
abbrev pub AreApart : List Branch → Type 0
AreApart [] = Unit {0}
AreApart (b ∷ bs) = AllByRecursion (λ (c : Branch). (b.timestamp == c.timestamp) ≡ false) bs × AreApart bs

abbrev pub AreWithin : ℕ → List Branch → Type 0
AreWithin limit bs = AllByRecursion (λ (b : Branch). (0 < b.timestamp) × (b.timestamp < limit)) bs

-- what holds of all, and how many pass

pub all_by_time : (P : Branch → Type 0) (bs : List Branch) → AllByRecursion P bs → AllByRecursion P (by_time bs)
all_by_time P [] h = tt
all_by_time P (b ∷ bs) h = insert_all P later_first b (by_time bs) h.0 (all_by_time P bs h.1)

count_inserted_by : (p : Branch → Bool) (b y : Branch) (ys zs : List Branch) (c : Bool) → count p zs ≡ count p (b ∷ ys)
    → count p (cond c (y ∷ zs) (b ∷ y ∷ ys)) ≡ count p (b ∷ y ∷ ys)
count_inserted_by p b y ys zs true h = omega (arith, h)
count_inserted_by p b y ys zs false h = refl

count_inserted : (p : Branch → Bool) (b : Branch) (ys : List Branch) → count p (insert later_first b ys) ≡ count p (b ∷ ys)
count_inserted p b [] = refl
count_inserted p b (y ∷ ys) = count_inserted_by p b y ys (insert later_first b ys) (later_first y b) (count_inserted p b ys)

pub count_by_time : (p : Branch → Bool) (bs : List Branch) → count p (by_time bs) ≡ count p bs
count_by_time p [] = refl
count_by_time p (b ∷ bs) =
    let rest : count p (by_time bs) ≡ count p bs = count_by_time p bs in count_inserted p b (by_time bs) ∙ ap (λ n. cond (p b) 1 0 + n) rest

-- they descend

not_above : (t u : ℕ) → nat_lt t u ≡ false → (t == u) ≡ false → u < t
not_above t u e apart = grind (arith, nat_tests)

descend_by : (limit : ℕ) (b y : Branch) (ys : List Branch) (c : Bool) → later_first y b ≡ c → (b.timestamp == y.timestamp) ≡ false
    → (0 < b.timestamp) × (b.timestamp < limit) → Descends limit (y ∷ ys)
    → (b.timestamp < y.timestamp → Descends y.timestamp (insert later_first b ys))
    → Descends limit (cond c (y ∷ insert later_first b ys) (b ∷ y ∷ ys))
descend_by limit b y ys true e apart within h rest = (h.0, h.1, rest (ltb-true b.timestamp y.timestamp e))
descend_by limit b y ys false e apart within h rest = (within.0, within.1, (h.0, not_above b.timestamp y.timestamp e apart, h.2))

insert_descends : (limit : ℕ) (b : Branch) (ys : List Branch) → (0 < b.timestamp) × (b.timestamp < limit)
    → AllByRecursion (λ (c : Branch). (b.timestamp == c.timestamp) ≡ false) ys → Descends limit ys
    → Descends limit (insert later_first b ys)
insert_descends limit b [] within apart h = (within.0, within.1, tt)
insert_descends limit b (y ∷ ys) within apart h =
    descend_by limit b y ys (later_first y b) refl apart.0 within h (λ less. insert_descends y.timestamp b ys (within.0, less) apart.1 h.2)

apart_by_time : (b : Branch) (bs : List Branch) → AllByRecursion (λ (c : Branch). (b.timestamp == c.timestamp) ≡ false) bs
    → AllByRecursion (λ (c : Branch). (b.timestamp == c.timestamp) ≡ false) (by_time bs)
apart_by_time b bs h = all_by_time (λ (c : Branch). (b.timestamp == c.timestamp) ≡ false) bs h

pub by_time_descends : (limit : ℕ) (bs : List Branch) → AreWithin limit bs → AreApart bs → Descends limit (by_time bs)
by_time_descends limit [] within apart = tt
by_time_descends limit (b ∷ bs) within apart =
    insert_descends limit b (by_time bs) within.0 (apart_by_time b bs apart.0) (by_time_descends limit bs within.1 apart.1)

-- one takes its place

record IsPlaced (b : Branch) (ys : List Branch) : Type 0 where
  front : List Branch
  back : List Branch
  whole : ys ≡ front ++ back
  placed : insert later_first b ys ≡ front ++ b ∷ back
  below : AllByRecursion (λ (c : Branch). c.timestamp < b.timestamp) back

placed_by : (limit : ℕ) (b y : Branch) (ys : List Branch) (c : Bool) → later_first y b ≡ c → (b.timestamp == y.timestamp) ≡ false
    → Descends limit (y ∷ ys) → IsPlaced b ys → IsPlaced b (y ∷ ys)
placed_by limit b y ys true e apart h k = record {
  front = y ∷ k.front;
  back = k.back;
  whole = ap (λ l. y ∷ l) k.whole;
  placed = rw e (ap (λ l. y ∷ l) k.placed);
  below = k.below;
}
placed_by limit b y ys false e apart h k =
    let less : y.timestamp < b.timestamp = not_above b.timestamp y.timestamp e apart in
    record {
      front = [];
      back = y ∷ ys;
      whole = refl;
      placed = rw e refl;
      below = (
        less,
        all_imply (λ (c : Branch). c.timestamp < y.timestamp) (λ (c : Branch). c.timestamp < b.timestamp)
            (λ c lower. omega (arith, less, lower)) ys (below_all y.timestamp ys h.2),
      );
    }

place : (limit : ℕ) (b : Branch) (ys : List Branch) → AllByRecursion (λ (c : Branch). (b.timestamp == c.timestamp) ≡ false) ys → Descends limit ys
    → IsPlaced b ys
place limit b [] apart h = record { front = []; back = []; whole = refl; placed = refl; below = tt }
place limit b (y ∷ ys) apart h = placed_by limit b y ys (later_first y b) refl apart.0 h (place y.timestamp b ys apart.1 h.2)

-- what is made of them

pub record IsTimed {A : Type 0} (h : Branch → Option A) (time : A → ℕ) : Type 0 where
  pub timed : (b : Branch) (x : A) → h b ≡ Some x → time x ≡ b.timestamp

nobody : {A : Type 0} (time : A → ℕ) (t : ℕ) (xs : List A) → AllByRecursion (λ x. t < time x) xs → AllByRecursion (λ x. time x < t) xs → xs ≡ []
nobody time t [] h k = refl
nobody time t (x ∷ xs) h k = absurd (omega (arith, h.0, k.0))

-- one that is before all others in time
pub add_least : {A : Type 0} (h : Branch → Option A) (time : A → ℕ) (timed : IsTimed h time) (limit : ℕ) (b : Branch) (bs : List Branch) (x : A) (xs : List A) → AreWithin limit bs → AreApart (b ∷ bs)
    → h b ≡ Some x → parts h (by_time bs) ≡ xs → AllByRecursion (λ y. b.timestamp < time y) xs → parts h (by_time (b ∷ bs)) ≡ x ∷ xs
add_least h time timed limit b bs x xs within apart made same later =
    let k = place limit b (by_time bs) (apart_by_time b bs apart.0) (by_time_descends limit bs within apart.1) in
    let both : parts h k.back ++ parts h k.front ≡ xs = sym (ap (parts h) k.whole ∙ parts_append h k.front k.back) ∙ same in
    let above = all_front (λ y. b.timestamp < time y) (parts h k.back) (parts h k.front)
    (subst (AllByRecursion (λ y. b.timestamp < time y)) (sym both) later) in
    let below = parts_all (λ (c : Branch). c.timestamp < b.timestamp) (λ y. time y < b.timestamp) h
    (λ c y e less. omega (arith, timed.timed c y e, less)) k.back k.below in
    let none : parts h k.back ≡ [] = nobody time b.timestamp (parts h k.back) above below in
    let rest : parts h k.front ≡ xs = sym (ap (λ l. l ++ parts h k.front) none) ∙ both in
    ap (parts h) k.placed ∙ parts_some h k.front b k.back x made ∙ ap (λ l. l ++ x ∷ parts h k.front) none ∙ ap (λ l. x ∷ l) rest

-- one of whom nothing is made
pub add_none : {A : Type 0} (h : Branch → Option A) (limit : ℕ) (b : Branch) (bs : List Branch) → AreWithin limit bs → AreApart (b ∷ bs)
    → h b ≡ None → parts h (by_time (b ∷ bs)) ≡ parts h (by_time bs)
add_none h limit b bs within apart none =
    let k = place limit b (by_time bs) (apart_by_time b bs apart.0) (by_time_descends limit bs within apart.1) in
    ap (parts h) k.placed ∙ parts_none h k.front b k.back none ∙ sym (ap (parts h) k.whole ∙ parts_append h k.front k.back)
