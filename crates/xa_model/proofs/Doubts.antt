-- A state stays sound where a branch is prepared, where the operator completes it, and where that is forgotten.
use Rattle.std.proofs.Common.{◌≡◌, ◌+◌, ◌≤◌, Bool, true, false, cond, List, [], ◌∷◌, length, Option, Some, None, refl, ap, ◌∙◌, arith}
use Rattle.std.specs.Prelude.{is_some}
use Rattle.std.specs.List.{list_any}
use Rattle.xa_codes.specs.declared.direction.Direction.{Direction}
use Rattle.xa_codes.specs.declared.direction.Direction.TheVariants as direction
use Rattle.xa_xid.specs.Triple.{Triple, xid_eq}
use Rattle.xa_xid.proofs.Same.{xid_same}
use Rattle.xa_model.specs.State.{State, Branch, Phase, Working, Prepared, Committed, InDoubt, count, change, without, name_of, is_with, is_known_as, known_by, known_among, known_as, known_of, known_count, decided_of, or_completed, holders_of, timestamp_of, is_working, is_at_work}
use Rattle.xa_model.specs.Phases.{prepared_phase, as_prepared, prepared, as_committed, completed, decided_by, is_decision_of, forgotten}
use Rattle.xa_model.specs.Invariants.Sound.{IsSound, named, most_known}
use Rattle.xa_model.proofs.Counts.{count_same, count_without}
use Rattle.xa_model.proofs.Leaving.{count_left, count_turned, found_any}
use Rattle.xa_model.proofs.Lists.{find_change_other}
use Rattle.xa_model.proofs.Names.{called_apart, gone_sound, committed_sound, bound_beside}
use Rattle.xa_model.proofs.Order.{KeepsTimestamp, change_descends}
use Rattle.xa_model.proofs.Parts.{with_branches, with_decided}

-- Prepared

pub prepared_name : (p : Phase) → name_of (prepared_phase p) ≡ name_of p
prepared_name (Working x work) = refl
prepared_name (Prepared x) = refl
prepared_name Committed = refl

pub prepared_known : (xid : Triple) (b : Branch) → is_known_as xid (as_prepared b) ≡ is_known_as xid b
prepared_known xid b = ap (λ (o : Option Triple). is_with xid o) (prepared_name b.phase)

prepared_keeps : KeepsTimestamp as_prepared
prepared_keeps = record { same = λ b. refl }

-- a branch that nobody holds
pub prepared_sound : (s : State) (xid : Triple) → IsSound s → holders_of s.associations xid ≡ 0 → IsSound (prepared s xid)
prepared_sound s xid h free = with_branches s (change (is_known_as xid) as_prepared s.branches) h (record {
  descends = change_descends as_prepared prepared_keeps (is_known_as xid) (timestamp_of s.boot s.given + 1) s.branches h.descends;
  names = λ q. omega (arith, count_same (is_known_as xid) as_prepared (is_known_as q) (prepared_known q) s.branches);
  known = omega (arith, count_same (is_known_as xid) as_prepared (λ b. is_some (name_of b.phase)) (λ b. ap (λ (o : Option Triple). is_some o) (prepared_name b.phase)) s.branches);
  bound = λ q none. bound_beside s (change (is_known_as xid) as_prepared s.branches) xid q h free
      (λ e. find_change_other (is_known_as xid) (is_known_as q) as_prepared (λ b is. (called_apart xid q b e is, prepared_known q b ∙ called_apart xid q b e is)) s.branches)
      none;
})

-- Completed by the operator

same_name_by : (x q : Triple) (o : Option Triple) → is_with x o ≡ true → is_with q o ≡ xid_eq x q
same_name_by x q None is = absurd (cc is)
same_name_by x q (Some y) is = ap (λ (z : Triple). xid_eq z q) (xid_same y x is)

-- who is called by one XID is called by another that is the same
pub same_name : (x q : Triple) (b : Branch) → is_known_as x b ≡ true → is_known_as q b ≡ xid_eq x q
same_name x q b is = same_name_by x q (name_of b.phase) is

some_name_by : (x : Triple) (o : Option Triple) → is_with x o ≡ true → is_some o ≡ true
some_name_by x None is = absurd (cc is)
some_name_by x (Some y) is = refl

pub some_name : (x : Triple) (b : Branch) → is_known_as x b ≡ true → is_some (name_of b.phase) ≡ true
some_name x b is = some_name_by x (name_of b.phase) is

-- what is counted of the known branches: a branch that is completed is counted no more
pub completed_count : (s : State) (direction : Direction) (xid : Triple) (r : Branch → Bool) (b : Bool) → ((x : Branch) → is_known_as xid x ≡ true → r x ≡ b) → ((x : Branch) → r (as_committed x) ≡ false)
    → list_any (is_known_as xid) s.branches ≡ true → count r (completed s direction xid).branches + cond b 1 0 ≡ count r s.branches
completed_count s direction.Commit xid r b h gone any =
    let fewer = count_left (is_known_as xid) r b h s.branches any in
    let same = count_turned (is_known_as xid) r as_committed false (λ x passes. gone x) s.branches any in omega (arith, fewer, same)
completed_count s direction.Rollback xid r b h gone any = count_left (is_known_as xid) r b h s.branches any

pub completed_sound : (s : State) (direction : Direction) (xid : Triple) → IsSound s → holders_of s.associations xid ≡ 0 → IsSound (completed s direction xid)
completed_sound s direction.Commit xid h free = committed_sound s xid h free
completed_sound s direction.Rollback xid h free = gone_sound s xid h free

abbrev with_decision : State → Direction → Triple → State
with_decision t direction xid = record t { decided = record { xid = xid; direction = direction } ∷ t.decided }

noted_sound : (t : State) (direction : Direction) (xid : Triple) → IsSound t → ((q : Triple) → named t q + cond (xid_eq xid q) 1 0 ≤ 1) → known_count t.branches + length t.decided + 1 ≤ most_known
    → IsSound (with_decision t direction xid)
noted_sound t direction xid h distinct room =
    with_decided t (record { xid = xid; direction = direction } ∷ t.decided) h (λ q. omega (arith, distinct q)) (omega (arith, room))

held_decided : (s : State) (direction : Direction) (xid : Triple) → IsSound s → list_any (is_known_as xid) s.branches ≡ true → holders_of s.associations xid ≡ 0 → IsSound (decided_by s direction xid)
held_decided s direction.Commit xid h any free =
    noted_sound (completed s direction.Commit xid) direction.Commit xid (completed_sound s direction.Commit xid h free)
    (λ q. omega (arith, h.distinct q, completed_count s direction.Commit xid (is_known_as q) (xid_eq xid q) (same_name xid q) (λ b. refl) any))
    (omega (arith, h.known, completed_count s direction.Commit xid (λ b. is_some (name_of b.phase)) true (some_name xid) (λ b. refl) any))
held_decided s direction.Rollback xid h any free =
    noted_sound (completed s direction.Rollback xid) direction.Rollback xid (completed_sound s direction.Rollback xid h free)
    (λ q. omega (arith, h.distinct q, completed_count s direction.Rollback xid (is_known_as q) (xid_eq xid q) (same_name xid q) (λ b. refl) any))
    (omega (arith, h.known, completed_count s direction.Rollback xid (λ b. is_some (name_of b.phase)) true (some_name xid) (λ b. refl) any))

-- a branch in doubt is there, and nobody holds it

idle_phase : (p : Phase) → known_by p ≡ InDoubt → is_working p ≡ false
idle_phase (Working x work) e = absurd (cc e)
idle_phase (Prepared x) e = refl
idle_phase Committed e = absurd (cc e)

no_doubt : (o : Option Direction) → or_completed o ≡ InDoubt → ⊥
no_doubt None e = cc e
no_doubt (Some direction) e = cc e

doubt_by : (s : State) (xid : Triple) (o : Option Branch) → known_of s.branches xid ≡ o → known_among o (decided_of s.decided xid) ≡ InDoubt → (list_any (is_known_as xid) s.branches ≡ true) × (is_at_work o ≡ false)
doubt_by s xid None found e = absurd (no_doubt (decided_of s.decided xid) e)
doubt_by s xid (Some b) found e = (found_any (is_known_as xid) b s.branches found, idle_phase b.phase e)

pub in_doubt : (s : State) (xid : Triple) → known_as s xid ≡ InDoubt → (list_any (is_known_as xid) s.branches ≡ true) × (is_at_work (known_of s.branches xid) ≡ false)
in_doubt s xid e = doubt_by s xid (known_of s.branches xid) refl e

pub decided_sound : (s : State) (direction : Direction) (xid : Triple) → IsSound s → known_as s xid ≡ InDoubt → IsSound (decided_by s direction xid)
decided_sound s direction xid h e = let there = in_doubt s xid e in held_decided s direction xid h there.0 (h.bound xid there.1)

-- Forgotten

fewer_by : {A : Type 0} (x : A) (xs ys : List A) (c : Bool) → length ys ≤ length xs → length (cond c xs (x ∷ ys)) ≤ length (x ∷ xs)
fewer_by x xs ys true less = omega arith
fewer_by x xs ys false less = omega arith

fewer : {A : Type 0} (p : A → Bool) (xs : List A) → length (without p xs) ≤ length xs
fewer p [] = omega arith
fewer p (x ∷ xs) = fewer_by x xs (without p xs) (p x) (fewer p xs)

pub forgotten_sound : (s : State) (xid : Triple) → IsSound s → IsSound (forgotten s xid)
forgotten_sound s xid h =
    with_decided s (without (is_decision_of xid) s.decided) h
    (λ q. omega (arith, h.distinct q, count_without (is_decision_of xid) (λ d. xid_eq d.xid q) s.decided))
    (omega (arith, h.known, fewer (is_decision_of xid) s.decided))
