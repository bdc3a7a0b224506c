-- When branches run out of time, where one begins, changes or leaves.
use Rattle.std.proofs.Common.{◌≡◌, ℕ, ◌+◌, ◌^◌, ◌<◌, ◌≤◌, ◌==◌, Bool, true, false, not, ◌&&◌, ◌||◌, cond, Option, Some, None, List, [], ◌∷◌, refl, ap, sym, ◌∙◌, arith}
use Rattle.std.specs.Prelude.{is_some, option_and_then, nat_lt, slice_get, SomeIff}
use Rattle.std.specs.BTreeSet.{BTreeSet, contains}
use Rattle.std.specs.declared.cmp.Ordering.{Ordering}
use Rattle.std.specs.declared.cmp.Ordering.TheVariants.{Less, Equal, Greater}
use Rattle.std.specs.Ordering.{nat_cmp, ordering_then, is_eq, is_gt}
use Rattle.std.proofs.lemmas.Bool.Decides.{nat_tests}
use Rattle.xa_xid.specs.Triple.{Triple, xid_eq, xid_cmp}
use Rattle.xa_xid.proofs.Same.{xid_same}
use Rattle.xa_model.specs.State.{State, Branch, Phase, Working, Prepared, Committed, Association, name_of, is_with, is_known_as, known_of, change, is_working, is_at_work}
use Rattle.xa_model.proofs.Xids.{cmp_is_eq}
use Rattle.xa_branch.specs.declared.branches.Branches.{Branches}
use Rattle.xa_branch.specs.declared.working.Working.{Working as Kept}
use Rattle.xa_branch.specs.Branches.{working_at, working_by, working_in, working_known}
use Rattle.xa_branch.specs.Due.{told, due_of, due_phase, due_in, due_named, work_of, due_kept, is_then, due_cmp, due_among, GainsDue, LosesDue}
use Rattle.xa_branch.proofs.Setting.{none_at}
use Rattle.xa_branch.proofs.Timed.{number_is}

-- Moments with XIDs

both_eq : (a b : Ordering) → is_eq (ordering_then a b) ≡ (is_eq a && is_eq b)
both_eq Less b = refl
both_eq Equal b = refl
both_eq Greater b = refl

pair_is : (t u : ℕ) (x q : Triple) → is_eq (due_cmp (t, x) (u, q)) ≡ ((t == u) && xid_eq x q)
pair_is t u x q =
    both_eq (nat_cmp t u) (xid_cmp x q) ∙ ap (λ (b : Bool). b && is_eq (xid_cmp x q)) (number_is t u) ∙ ap (λ (b : Bool). (t == u) && b) (cmp_is_eq x q)

or_cond : (c b : Bool) → cond c true b ≡ (b || c)
or_cond true true = refl
or_cond true false = refl
or_cond false true = refl
or_cond false false = refl

and_cond : (c b : Bool) → cond c false b ≡ (b && not c)
and_cond true true = refl
and_cond true false = refl
and_cond false true = refl
and_cond false false = refl

-- a set that one pair comes to, or leaves

pub gains_one : (due due' : BTreeSet (ℕ × Triple)) (t : ℕ) (xid : Triple)
    → ((k : ℕ × Triple) → contains due_cmp due' k ≡ cond (is_eq (due_cmp (t, xid) k)) true (contains due_cmp due k)) → GainsDue due xid (Some t) due'
gains_one due due' t xid h = λ u q.
    h (u, q) ∙ ap (λ (c : Bool). cond c true (due_among due u q)) (pair_is t u xid q) ∙ or_cond ((t == u) && xid_eq xid q) (due_among due u q)

pub loses_one : (due due' : BTreeSet (ℕ × Triple)) (t : ℕ) (xid : Triple)
    → ((k : ℕ × Triple) → contains due_cmp due' k ≡ cond (is_eq (due_cmp (t, xid) k)) false (contains due_cmp due k)) → LosesDue due xid (Some t) due'
loses_one due due' t xid h = λ u q.
    h (u, q) ∙ ap (λ (c : Bool). cond c false (due_among due u q)) (pair_is t u xid q) ∙ and_cond ((t == u) && xid_eq xid q) (due_among due u q)

or_nothing : (b : Bool) → b ≡ (b || false)
or_nothing true = refl
or_nothing false = refl

and_nothing : (b : Bool) → b ≡ (b && true)
and_nothing true = refl
and_nothing false = refl

pub gains_none : (due : BTreeSet (ℕ × Triple)) (xid : Triple) (o : Option ℕ) → o ≡ None → GainsDue due xid o due
gains_none due xid o e = λ t q. rw e (or_nothing (due_among due t q))

pub loses_none : (due : BTreeSet (ℕ × Triple)) (xid : Triple) (o : Option ℕ) → o ≡ None → LosesDue due xid o due
loses_none due xid o e = λ t q. rw e (and_nothing (due_among due t q))

-- no pair is below the first
first_by : (a t : ℕ) (x q : Triple) → is_gt (ordering_then (nat_cmp a t) (xid_cmp x q)) ≡ false → a ≤ t
first_by a t x q e = by_order (nat_lt a t) (a == t) refl refl e
  where
    by_order : (c d : Bool) → nat_lt a t ≡ c → (a == t) ≡ d → is_gt (ordering_then (cond c Less (cond d Equal Greater)) (xid_cmp x q)) ≡ false → a ≤ t
    by_order true d e f h = grind (arith, nat_tests, e)
    by_order false true e f h = grind (arith, nat_tests, f)
    by_order false false e f h = absurd (cc h)

pub first_is : (a t : ℕ) (x q : Triple) → is_gt (due_cmp (a, x) (t, q)) ≡ false → a ≤ t
first_is a t x q e = first_by a t x q e

-- the first that is seen is the one that is taken
pub same_first : (keys rest : List (ℕ × Triple)) (k first : ℕ × Triple) → keys ≡ k ∷ rest → slice_get keys 0 ≡ Some first → k.0 ≡ first.0
same_first keys rest k first removal is =
    let here : Some k ≡ Some first = sym (ap (λ (ks : List (ℕ × Triple)). slice_get ks 0) removal) ∙ is in
    let same : k ≡ first = cc here in
    ap (λ (p : ℕ × Triple). p.0) same

-- the sum that the code answers
pub summed : (o : Option ℕ) (n : ℕ) → SomeIff o (n < 2 ^ 64) n → o ≡ told n
summed None n small = by_test (nat_lt n (2 ^ 64)) refl
  where
    by_test : (c : Bool) → nat_lt n (2 ^ 64) ≡ c → None ≡ cond c (Some n) None
    by_test true e = absurd (small (grind (arith, nat_tests, e)))
    by_test false e = refl
summed (Some k) n is = by_test (nat_lt n (2 ^ 64)) refl
  where
    by_test : (c : Bool) → nat_lt n (2 ^ 64) ≡ c → Some k ≡ cond c (Some n) None
    by_test true e = ap Some is.1
    by_test false e = let late : 2 ^ 64 ≤ n = grind (arith, nat_tests, e) in absurd (omega (arith, late, is.0))

pub due_now : (w : Kept) (o : Option ℕ) → is_some w.mark ≡ false → (w.limit == 0) ≡ false → SomeIff o (w.start + w.limit < 2 ^ 64) (w.start + w.limit) → o ≡ due_of (work_of w)
due_now w o unmarked limited is = rw (unmarked, limited) (summed o (w.start + w.limit) is)

pub due_never : (w : Kept) → (is_some w.mark || w.limit == 0) ≡ true → None ≡ due_of (work_of w)
due_never w e = rw e refl

-- What is kept of a branch at work

pub idle_phase : (p : Phase) → is_working p ≡ false → due_phase p ≡ None
idle_phase (Working x work) e = absurd (cc e)
idle_phase (Prepared x) e = refl
idle_phase Committed e = refl

idle_by : (o : Option Branch) → is_at_work o ≡ false → option_and_then due_in o ≡ None
idle_by None e = refl
idle_by (Some b) e = idle_phase b.phase e

pub idle_due : (bs : List Branch) (xid : Triple) → is_at_work (known_of bs xid) ≡ false → due_named bs xid ≡ None
idle_due bs xid e = idle_by (known_of bs xid) e

kept_by : (held : List Association) (q : Triple) (t : ℕ) (p : Phase) → due_kept (working_by held q t p) ≡ due_phase p
kept_by held q t (Working x work) = refl
kept_by held q t (Prepared x) = refl
kept_by held q t Committed = refl

kept_in : (held : List Association) (q : Triple) (o : Option Branch) → due_kept (option_and_then (working_in held q) o) ≡ option_and_then due_in o
kept_in held q None = refl
kept_in held q (Some b) = kept_by held q b.timestamp b.phase

pub kept_due : (m : Branches) (s : State) (q : Triple) → working_at m q ≡ working_known s q → due_kept (working_at m q) ≡ due_named s.branches q
kept_due m s q e = ap due_kept e ∙ kept_in s.associations q (known_of s.branches q)

pub working_due : (m : Branches) (s : State) (xid : Triple) (w : Kept) → working_at m xid ≡ working_known s xid → working_at m xid ≡ Some w → due_of (work_of w) ≡ due_named s.branches xid
working_due m s xid w e is = sym (ap due_kept is) ∙ kept_due m s xid e

pub unworking_due : (m : Branches) (s : State) (xid : Triple) → working_at m xid ≡ working_known s xid → working_at m xid ≡ None → due_named s.branches xid ≡ None
unworking_due m s xid e is = sym (kept_due m s xid e) ∙ ap due_kept is

-- One branch runs out of time no more

lost_same : (a b c : Bool) → a ≡ b → c ≡ true → (a && not (b && c)) ≡ false
lost_same true b c e f = rw (← e, f) refl
lost_same false b c e f = refl

lost_other : (a b c : Bool) → c ≡ false → (a && not (b && c)) ≡ a
lost_other true true c f = rw f refl
lost_other true false c f = refl
lost_other false b c f = refl

lost : (due due' : BTreeSet (ℕ × Triple)) (bs : List Branch) (xid q : Triple) (t : ℕ) (o : Option ℕ) (c : Bool) → xid_eq xid q ≡ c → ((t : ℕ) (q : Triple) → due_among due t q ≡ is_then (due_named bs q) t)
    → o ≡ due_named bs xid → LosesDue due xid o due' → due_among due' t q ≡ cond c false (is_then (due_named bs q) t)
lost due due' bs xid q t o true e at is loses =
    let had : due_among due t q ≡ is_then o t = at t q ∙ ap (λ (x : Triple). is_then (due_named bs x) t) (sym (xid_same xid q e)) ∙ ap (λ (p : Option ℕ). is_then p t) (sym is) in
    loses t q ∙ lost_same (due_among due t q) (is_then o t) (xid_eq xid q) had e
lost due due' bs xid q t o false e at is loses = loses t q ∙ lost_other (due_among due t q) (is_then o t) (xid_eq xid q) e ∙ at t q

then_by : (c : Bool) (p : Option ℕ) (t : ℕ) → is_then (cond c None p) t ≡ cond c false (is_then p t)
then_by true p t = refl
then_by false p t = refl

pub lost_stands : (due due' : BTreeSet (ℕ × Triple)) (bs after : List Branch) (xid : Triple) (o : Option ℕ) → ((t : ℕ) (q : Triple) → due_among due t q ≡ is_then (due_named bs q) t) → o ≡ due_named bs xid → LosesDue due xid o due'
    → ((q : Triple) → due_named after q ≡ cond (xid_eq xid q) None (due_named bs q)) → (t : ℕ) (q : Triple) → due_among due' t q ≡ is_then (due_named after q) t
lost_stands due due' bs after xid o at is loses named = λ t q.
    lost due due' bs xid q t o (xid_eq xid q) refl at is loses ∙ sym (ap (λ (p : Option ℕ). is_then p t) (named q) ∙ then_by (xid_eq xid q) (due_named bs q) t)

-- the same, of a branch that didn't
pub stayed_due : (due : BTreeSet (ℕ × Triple)) (bs after : List Branch) (xid : Triple) → ((t : ℕ) (q : Triple) → due_among due t q ≡ is_then (due_named bs q) t) → due_named bs xid ≡ None
    → ((q : Triple) → due_named after q ≡ cond (xid_eq xid q) None (due_named bs q)) → (t : ℕ) (q : Triple) → due_among due t q ≡ is_then (due_named after q) t
stayed_due due bs after xid at none named = λ t q.
    at t q ∙ ap (λ (p : Option ℕ). is_then p t) (none_at (due_named bs) xid q (xid_eq xid q) refl none ∙ sym (named q))

-- One branch more

more_here : (a b c : Bool) → a ≡ false → c ≡ true → (a || (b && c)) ≡ b
more_here a true c e f = rw (e, f) refl
more_here a false c e f = rw e refl

more_other : (a b c : Bool) → c ≡ false → (a || (b && c)) ≡ a
more_other true b c f = refl
more_other false true c f = f
more_other false false c f = refl

pub more_due : (due due' : BTreeSet (ℕ × Triple)) (bs : List Branch) (xid q : Triple) (b : Branch) (t : ℕ) (c : Bool) → xid_eq xid q ≡ c → ((t : ℕ) (q : Triple) → due_among due t q ≡ is_then (due_named bs q) t)
    → due_named bs xid ≡ None → GainsDue due xid (due_in b) due' → due_among due' t q ≡ is_then (option_and_then due_in (cond c (Some b) (known_of bs q))) t
more_due due due' bs xid q b t true e at none gains =
    let free : due_among due t q ≡ false = at t q ∙ ap (λ (x : Triple). is_then (due_named bs x) t) (sym (xid_same xid q e)) ∙ ap (λ (p : Option ℕ). is_then p t) none in
    gains t q ∙ more_here (due_among due t q) (is_then (due_in b) t) (xid_eq xid q) free e
more_due due due' bs xid q b t false e at none gains = gains t q ∙ more_other (due_among due t q) (is_then (due_in b) t) (xid_eq xid q) e ∙ at t q

-- that isn't kept after all
given_up : (a b c : Bool) → (a && not (b && c)) ≡ a → ((a || (b && c)) && not (b && c)) ≡ a
given_up true b c e = e
given_up false true true e = refl
given_up false true false e = refl
given_up false false c e = refl

pub same_due : (due between due' : BTreeSet (ℕ × Triple)) (bs : List Branch) (xid : Triple) (o : Option ℕ) → ((t : ℕ) (q : Triple) → due_among due t q ≡ is_then (due_named bs q) t) → due_named bs xid ≡ None
    → GainsDue due xid o between → LosesDue between xid o due' → (t : ℕ) (q : Triple) → due_among due' t q ≡ due_among due t q
same_due due between due' bs xid o at none gains loses = λ t q.
    loses t q ∙ ap (λ (a : Bool). a && not (is_then o t && xid_eq xid q)) (gains t q) ∙ given_up (due_among due t q) (is_then o t) (xid_eq xid q) (free t q (xid_eq xid q) refl)
  where
    free : (t : ℕ) (q : Triple) (c : Bool) → xid_eq xid q ≡ c → (due_among due t q && not (is_then o t && c)) ≡ due_among due t q
    free t q true e =
        let out : due_among due t q ≡ false = at t q ∙ ap (λ (x : Triple). is_then (due_named bs x) t) (sym (xid_same xid q e)) ∙ ap (λ (p : Option ℕ). is_then p t) none in
        rw out refl
    free t q false e = lost_other (due_among due t q) (is_then o t) false refl

-- A change of a branch that leaves its name, and when it runs out of time

first_same : (b b' : Branch) (o : Option Branch) (c d : Bool) → d ≡ c → due_in b' ≡ due_in b → option_and_then due_in (cond d (Some b') o) ≡ option_and_then due_in (cond c (Some b) o)
first_same b b' o true d e f = rw e f
first_same b b' o false d e f = rw e refl

changed_by : (f : Branch → Branch) (q : Triple) (b : Branch) (bs ys : List Branch) (c : Bool) → is_known_as q (f b) ≡ is_known_as q b → due_in (f b) ≡ due_in b → due_named ys q ≡ due_named bs q
    → due_named (cond c (f b ∷ bs) (b ∷ ys)) q ≡ option_and_then due_in (cond (is_known_as q b) (Some b) (known_of bs q))
changed_by f q b bs ys true name due rest = first_same b (f b) (known_of bs q) (is_known_as q b) (is_known_as q (f b)) name due
changed_by f q b bs ys false name due rest = rest_by (is_known_as q b)
  where
    rest_by : (d : Bool) → option_and_then due_in (cond d (Some b) (known_of ys q)) ≡ option_and_then due_in (cond d (Some b) (known_of bs q))
    rest_by true = refl
    rest_by false = rest

pub due_change : (p : Branch → Bool) (f : Branch → Branch) → ((b : Branch) → name_of (f b).phase ≡ name_of b.phase) → ((b : Branch) → due_in (f b) ≡ due_in b) → (q : Triple) (bs : List Branch)
    → due_named (change p f bs) q ≡ due_named bs q
due_change p f name due q [] = refl
due_change p f name due q (b ∷ bs) =
    changed_by f q b bs (change p f bs) (p b) (ap (λ (o : Option Triple). is_with q o) (name b)) (due b) (due_change p f name due q bs)
