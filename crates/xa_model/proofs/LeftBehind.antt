-- A hang-up marks branches, and no more.
use Rattle.std.proofs.Common.{◌≡◌, ℕ, Bool, true, false, cond, List, [], ◌∷◌, Option, Some, None, refl, sym, ap, subst, ◌∙◌}
use Rattle.std.specs.Prelude.{find, map, option_map}
use Rattle.xa_codes.specs.declared.codes.TheConstants.{XA_RBCOMMFAIL}
use Rattle.xa_codes.specs.declared.direction.Direction.{Direction}
use Rattle.xa_xid.specs.Triple.{Triple}
use Rattle.xa_model.specs.State.{Association, Branch, Phase, Working, Prepared, Committed, InDoubt, known_of, known_by, known_among, is_known_as, is_with}
use Rattle.xa_model.specs.Associations.{with_mark, marked_phase, left_behind, is_worked_by, timestamp_by}
use Rattle.xa_model.specs.Phases.{as_committed, as_prepared}
use Rattle.xa_model.specs.Logging.{writes_by}
use Rattle.xa_model.specs.Completions.{is_completed}
use Rattle.xa_model.proofs.Marks.{left_keeps}

found_map_by : (p : Branch → Bool) (f : Branch → Branch) (b : Branch) (bs : List Branch) (c d : Bool) → c ≡ d → find p (map f bs) ≡ option_map f (find p bs)
    → cond c (Some (f b)) (find p (map f bs)) ≡ option_map f (cond d (Some b) (find p bs))
found_map_by p f b bs true true e rest = refl
found_map_by p f b bs false false e rest = rest
found_map_by p f b bs true false e rest = absurd (cc e)
found_map_by p f b bs false true e rest = absurd (cc e)

-- what is found after a change of all that keeps who passes
pub found_map : (p : Branch → Bool) (f : Branch → Branch) → ((b : Branch) → p (f b) ≡ p b) → (bs : List Branch) → find p (map f bs) ≡ option_map f (find p bs)
found_map p f same [] = refl
found_map p f same (b ∷ bs) = found_map_by p f b bs (p (f b)) (p b) (same b) (found_map p f same bs)

pub left_known : (held : List Association) (n : ℕ) (xid : Triple) (bs : List Branch) → known_of (map (left_behind held n) bs) xid ≡ option_map (left_behind held n) (known_of bs xid)
left_known held n xid bs = found_map (is_known_as xid) (left_behind held n) (λ b. ap (is_with xid) ((left_keeps held n).name b)) bs

pub left_time : (held : List Association) (n : ℕ) (o : Option Branch) → timestamp_by (option_map (left_behind held n) o) ≡ timestamp_by o
left_time held n None = refl
left_time held n (Some b) = (left_keeps held n).time.same b

pub left_writes : (held : List Association) (n : ℕ) (o : Option Branch) → writes_by (option_map (left_behind held n) o) ≡ writes_by o
left_writes held n None = refl
left_writes held n (Some b) = by_test b (is_worked_by held n b.phase)
  where
    by_test : (b : Branch) (c : Bool) → writes_by (Some (cond c (with_mark XA_RBCOMMFAIL b) b)) ≡ writes_by (Some b)
    by_test b true = refl
    by_test b false = refl

doubtful_by : (p : Phase) (c : Bool) → known_by p ≡ InDoubt → known_by (cond c (marked_phase XA_RBCOMMFAIL p) p) ≡ InDoubt
doubtful_by (Working x work) c e = absurd (cc e)
doubtful_by (Prepared x) true e = refl
doubtful_by (Prepared x) false e = refl
doubtful_by Committed c e = absurd (cc e)

left_phase : (b : Branch) (c : Bool) → (cond c (with_mark XA_RBCOMMFAIL b) b).phase ≡ cond c (marked_phase XA_RBCOMMFAIL b.phase) b.phase
left_phase b true = refl
left_phase b false = refl

pub left_doubtful : (held : List Association) (n : ℕ) (o : Option Branch) (d : Option Direction) → known_among o d ≡ InDoubt → known_among (option_map (left_behind held n) o) d ≡ InDoubt
left_doubtful held n None d e = e
left_doubtful held n (Some b) d e = ap known_by (left_phase b (is_worked_by held n b.phase)) ∙ doubtful_by b.phase (is_worked_by held n b.phase) e

never_completed : (p : Phase) → is_completed (known_by p) ≡ true → ⊥
never_completed (Working x work) e = cc e
never_completed (Prepared x) e = cc e
never_completed Committed e = cc e

pub left_completed : (held : List Association) (n : ℕ) (o : Option Branch) (d : Option Direction) → is_completed (known_among o d) ≡ true → is_completed (known_among (option_map (left_behind held n) o) d) ≡ true
left_completed held n None d e = e
left_completed held n (Some b) d e = absurd (never_completed b.phase e)

-- a branch that is prepared or committed isn't marked

prepared_by : (held : List Association) (n : ℕ) (b : Branch) (p : Phase) (c : Bool) → b.phase ≡ p → c ≡ is_worked_by held n p
    → as_prepared (cond c (with_mark XA_RBCOMMFAIL b) b) ≡ left_behind held n (as_prepared b)
prepared_by held n b (Working x work) true e f =
    subst (λ (q : Phase). as_prepared (with_mark XA_RBCOMMFAIL (record b { phase = q })) ≡ left_behind held n (as_prepared (record b { phase = q }))) (sym e) refl
prepared_by held n b (Working x work) false e f =
    subst (λ (q : Phase). as_prepared (record b { phase = q }) ≡ left_behind held n (as_prepared (record b { phase = q }))) (sym e) refl
prepared_by held n b (Prepared x) true e f = absurd (cc f)
prepared_by held n b (Prepared x) false e f =
    subst (λ (q : Phase). as_prepared (record b { phase = q }) ≡ left_behind held n (as_prepared (record b { phase = q }))) (sym e) refl
prepared_by held n b Committed true e f = absurd (cc f)
prepared_by held n b Committed false e f =
    subst (λ (q : Phase). as_prepared (record b { phase = q }) ≡ left_behind held n (as_prepared (record b { phase = q }))) (sym e) refl

pub left_prepared : (held : List Association) (n : ℕ) (b : Branch) → as_prepared (left_behind held n b) ≡ left_behind held n (as_prepared b)
left_prepared held n b = prepared_by held n b b.phase (is_worked_by held n b.phase) refl refl

committed_by : (b : Branch) (c : Bool) → as_committed (cond c (with_mark XA_RBCOMMFAIL b) b) ≡ as_committed b
committed_by b true = refl
committed_by b false = refl

pub left_committed : (held : List Association) (n : ℕ) (b : Branch) → as_committed (left_behind held n b) ≡ left_behind held n (as_committed b)
left_committed held n b = committed_by b (is_worked_by held n b.phase)
