-- At which timestamps branches are known, where one is, changes or leaves.
use Rattle.std.proofs.Common.{◌≡◌, ℕ, ◌+◌, ◌<◌, ◌≤◌, ◌==◌, Bool, true, false, ◌&&◌, ◌||◌, cond, Some, List, [], ◌∷◌, refl, sym, ◌∙◌, subst, arith, rules}
use Rattle.std.specs.Prelude.{map}
use Rattle.std.specs.BTreeSet.{BTreeSet, contains}
use Rattle.std.specs.Cmp.Rules.{comparing}
use Rattle.std.specs.List.{list_any}
use Rattle.std.specs.Ordering.{nat_cmp, is_eq}
use Rattle.std.proofs.lemmas.Bool.Decides.{nat_tests}
use Rattle.xa_xid.specs.Triple.{Triple}
use Rattle.xa_model.specs.State.{Branch, name_of, is_known_as, known_of, known_count, without, change}
use Rattle.xa_model.specs.Phases.{as_committed}
use Rattle.xa_model.specs.Invariants.LowWater.{is_known, is_known_at}
use Rattle.xa_model.specs.Invariants.Sound.{Descends}
use Rattle.xa_model.proofs.Times.{known_below}
use Rattle.xa_model.proofs.Xids.{and_false}
use Rattle.xa_branch.specs.Changes.{SetsTime}

pub number_is : (n k : ℕ) → is_eq (nat_cmp n k) ≡ (n == k)
number_is n k = search (comparing, rules) depth 9

-- Any of a list, after a change

any_changed_by : {A : Type 0} (f : A → A) (r : A → Bool) (h : (x : A) → r (f x) ≡ r x) (x : A) (xs ys : List A) (c : Bool) → list_any r ys ≡ list_any r xs
    → list_any r (cond c (f x ∷ xs) (x ∷ ys)) ≡ (r x || list_any r xs)
any_changed_by f r h x xs ys true rest = rw (h x) refl
any_changed_by f r h x xs ys false rest = rw rest refl

any_change : {A : Type 0} (p : A → Bool) (f : A → A) (r : A → Bool) (h : (x : A) → r (f x) ≡ r x) (xs : List A) → list_any r (change p f xs) ≡ list_any r xs
any_change p f r h [] = refl
any_change p f r h (x ∷ xs) = any_changed_by f r h x xs (change p f xs) (p x) (any_change p f r h xs)

any_map : {A : Type 0} (f : A → A) (r : A → Bool) (h : (x : A) → r (f x) ≡ r x) (xs : List A) → list_any r (map f xs) ≡ list_any r xs
any_map f r h [] = refl
any_map f r h (x ∷ xs) = rw (h x, any_map f r h xs) refl

-- A change that leaves each branch its name and its timestamp

one_same : (f : Branch → Branch) → ((b : Branch) → name_of (f b).phase ≡ name_of b.phase) → ((b : Branch) → (f b).timestamp ≡ b.timestamp) → (t : ℕ) (b : Branch)
    → (is_known (f b) && ((f b).timestamp == t)) ≡ (is_known b && (b.timestamp == t))
one_same f name time t b = rw (name b, time b) refl

pub times_change : (p : Branch → Bool) (f : Branch → Branch) → ((b : Branch) → name_of (f b).phase ≡ name_of b.phase) → ((b : Branch) → (f b).timestamp ≡ b.timestamp) → (t : ℕ) (bs : List Branch)
    → is_known_at t (change p f bs) ≡ is_known_at t bs
times_change p f name time t bs = any_change p f (λ b. is_known b && (b.timestamp == t)) (one_same f name time t) bs

pub times_map : (f : Branch → Branch) → ((b : Branch) → name_of (f b).phase ≡ name_of b.phase) → ((b : Branch) → (f b).timestamp ≡ b.timestamp) → (t : ℕ) (bs : List Branch)
    → is_known_at t (map f bs) ≡ is_known_at t bs
times_map f name time t bs = any_map f (λ b. is_known b && (b.timestamp == t)) (one_same f name time t) bs

-- None is known

none_by : (b : Branch) (t n : ℕ) (q c : Bool) → is_known b ≡ c → cond c 1 0 + n ≡ 0 → (n ≡ 0 → q ≡ false) → ((is_known b && (b.timestamp == t)) || q) ≡ false
none_by b t n q true e none rest = absurd (omega (arith, none))
none_by b t n q false e none rest = rw (e, rest (omega (arith, none))) refl

pub times_none : (t : ℕ) (bs : List Branch) → known_count bs ≡ 0 → is_known_at t bs ≡ false
times_none t [] none = refl
times_none t (b ∷ bs) none = none_by b t (known_count bs) (is_known_at t bs) (is_known b) refl none (times_none t bs)

-- A known branch leaves its name: no other has its timestamp

times_above : (limit t : ℕ) (bs : List Branch) → Descends limit bs → limit ≤ t → is_known_at t bs ≡ false
times_above limit t [] h less = refl
times_above limit t (b ∷ bs) h less =
    let apart : (b.timestamp == t) ≡ false = grind (arith, nat_tests, h.1, less) in
    let rest : is_known_at t bs ≡ false = times_above b.timestamp t bs h.2 (omega (arith, h.1, less)) in
    rw (and_false (is_known b) (b.timestamp == t) apart, rest) refl

-- the first that passes is there
gone_here : (c : Branch) (limit t : ℕ) (bs : List Branch) (r : Bool) → (c.timestamp == t) ≡ r → Descends limit (c ∷ bs) → is_known_at t bs ≡ cond r false (is_known_at t (c ∷ bs))
gone_here c limit t bs true e h = times_above c.timestamp t bs h.2 (grind (arith, nat_tests, e))
gone_here c limit t bs false e h = rw (and_false (is_known c) (c.timestamp == t) e) refl

gone_there : (b c : Branch) (t : ℕ) (bs ys : List Branch) (r : Bool) → (b.timestamp == t) ≡ r → b.timestamp < c.timestamp → is_known_at t ys ≡ cond r false (is_known_at t bs)
    → is_known_at t (c ∷ ys) ≡ cond r false (is_known_at t (c ∷ bs))
gone_there b c t bs ys true e less rest =
    let apart : (c.timestamp == t) ≡ false = grind (arith, nat_tests, e, less) in
    rw (and_false (is_known c) (c.timestamp == t) apart, rest) refl
gone_there b c t bs ys false e less rest = rw rest refl

gone_by : (xid : Triple) (b c : Branch) (limit t : ℕ) (bs : List Branch) (q : Bool) → Descends limit (c ∷ bs) → cond q (Some c) (known_of bs xid) ≡ Some b
    → (known_of bs xid ≡ Some b → is_known_at t (without (is_known_as xid) bs) ≡ cond (b.timestamp == t) false (is_known_at t bs))
    → is_known_at t (cond q bs (c ∷ without (is_known_as xid) bs)) ≡ cond (b.timestamp == t) false (is_known_at t (c ∷ bs))
gone_by xid b c limit t bs true h found rest =
    let same : c ≡ b = cc found in
    subst (λ (x : Branch). is_known_at t bs ≡ cond (x.timestamp == t) false (is_known_at t (c ∷ bs))) same (gone_here c limit t bs (c.timestamp == t) refl h)
gone_by xid b c limit t bs false h found rest =
    gone_there b c t bs (without (is_known_as xid) bs) (b.timestamp == t) refl (known_below xid b c.timestamp bs h.2 found) (rest found)

pub times_left : (xid : Triple) (b : Branch) (limit t : ℕ) (bs : List Branch) → Descends limit bs → known_of bs xid ≡ Some b
    → is_known_at t (without (is_known_as xid) bs) ≡ cond (b.timestamp == t) false (is_known_at t bs)
times_left xid b limit t [] h found = absurd (cc found)
times_left xid b limit t (c ∷ bs) h found = gone_by xid b c limit t bs (is_known_as xid c) h found (times_left xid b c.timestamp t bs h.2)

-- one that is committed is known no more
committed_by : (t : ℕ) (c : Branch) (bs ys zs : List Branch) (q : Bool) → is_known_at t ys ≡ is_known_at t zs → is_known_at t (cond q (as_committed c ∷ bs) (c ∷ ys)) ≡ is_known_at t (cond q bs (c ∷ zs))
committed_by t c bs ys zs true rest = refl
committed_by t c bs ys zs false rest = rw rest refl

pub times_committed : (xid : Triple) (t : ℕ) (bs : List Branch) → is_known_at t (change (is_known_as xid) as_committed bs) ≡ is_known_at t (without (is_known_as xid) bs)
times_committed xid t [] = refl
times_committed xid t (c ∷ bs) =
    committed_by t c bs (change (is_known_as xid) as_committed bs) (without (is_known_as xid) bs) (is_known_as xid c) (times_committed xid t bs)

-- Sets of timestamps

-- where the timestamp is the same, and so is what was
pub set_time : (ts after : BTreeSet ℕ) (t u k : ℕ) (b was now : Bool) → SetsTime ts t b after → t ≡ u → contains nat_cmp ts k ≡ was → now ≡ cond (u == k) b was → contains nat_cmp after k ≡ now
set_time ts after t u k b was now sets same e f = sets k ∙ rw (same, e) (sym f)

or_here : (c q : Bool) → cond c true q ≡ (c || q)
or_here true q = refl
or_here false q = refl

-- a new one is known
pub begun_time : (t k : ℕ) (q : Bool) → ((t == k) || q) ≡ cond (t == k) true q
begun_time t k q = sym (or_here (t == k) q)
