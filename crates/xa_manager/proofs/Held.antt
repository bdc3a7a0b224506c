-- Of which kind the association is that a session takes up or leaves, as the tables tell it.
use Rattle.std.proofs.Common.{◌≡◌, ℕ, ◌+◌, not, ◌&&◌, ◌||◌, Bool, true, false, cond, List, [], ◌∷◌, Option, Some, None, refl, ap, sym, ◌∙◌, arith}
use Rattle.std.specs.Prelude.{nat_lt}
use Rattle.std.specs.List.{list_any}
use Rattle.std.proofs.lemmas.Bool.Decides.{nat_tests}
use Rattle.xa_codes.specs.declared.codes.TheConstants.{XAER_NOTA, XAER_PROTO}
use Rattle.xa_xid.specs.Triple.{Triple}
use Rattle.xa_model.specs.State.{State, count, is_with, active_of, known_as, owns, suspends, works_in, is_loose_with, loose_of}
use Rattle.xa_model.specs.Answer.{plain}
use Rattle.xa_model.specs.Associations.{is_unknown, can_end}
use Rattle.xa_model.proofs.Rows.{passed}
use Rattle.xa_assoc.specs.Seats.{active_at, owns_at, suspends_at}
use Rattle.xa_assoc.specs.Sessions.{resume_refusal_of, suspend_refusal_of, leave_refusal_of}
use Rattle.xa_assoc.proofs.Facts.{suspends_is}
use Rattle.xa_assoc.proofs.Follows.{resume_passed, working_where}
use Rattle.xa_assoc.proofs.Held.{works_somewhere, works_nowhere}
use Rattle.xa_branch.specs.declared.kind.Kind.{Kind}
use Rattle.xa_branch.specs.declared.kind.Kind.TheVariants as kind
use Rattle.xa_branch.specs.Kinds.{resumed_kind, ended_kind}
use Rattle.xa_manager.specs.View.{View}
use Rattle.xa_manager.specs.Stands.{StandsFor}

any_by : (c b : Bool) (n : ℕ) → b ≡ nat_lt 0 n → (c || b) ≡ nat_lt 0 (cond c 1 0 + n)
any_by true b n e = grind (arith, nat_tests)
any_by false b n e = e ∙ ap (nat_lt 0) (omega arith)

-- some pass just where more than none do
pub any_counted : {A : Type 0} (p : A → Bool) (xs : List A) → list_any p xs ≡ nat_lt 0 (count p xs)
any_counted p [] = refl
any_counted p (x ∷ xs) = any_by (p x) (list_any p xs) (count p xs) (any_counted p xs)

pub loose_told : (s : State) (xid : Triple) (n : ℕ) → n ≡ loose_of s.associations xid → list_any (is_loose_with xid) s.associations ≡ nat_lt 0 n
loose_told s xid n e = any_counted (is_loose_with xid) s.associations ∙ ap (nat_lt 0) (sym e)

-- which of several kinds, over plain variables
of_first : (a : Bool) (x : Kind) (others : Option Kind) → a ≡ true → cond a (Some x) others ≡ Some x
of_first a x others e = rw e refl

of_second : (a b : Bool) (x y : Kind) (others : Option Kind) → a ≡ false → b ≡ true → cond a (Some x) (cond b (Some y) others) ≡ Some y
of_second a b x y others e h = rw (e, h) refl

of_third : (a b c : Bool) (x y z : Kind) → a ≡ false → b ≡ false → c ≡ true → cond a (Some x) (cond b (Some y) (cond c (Some z) None)) ≡ Some z
of_third a b c x y z e h k = rw (e, h, k) refl

other_of : (a b : Bool) → (a || b) ≡ true → a ≡ false → b ≡ true
other_of true b e h = absurd (cc h)
other_of false b e h = e

not_false : (b : Bool) → not b ≡ false → b ≡ true
not_false true e = refl
not_false false e = absurd (cc e)

-- Start with TMRESUME

suspends_told : (m : View) (s : State) (n : ℕ) (xid : Triple) (b : Bool) → StandsFor m s → suspends_at m.sessions n xid ≡ b → list_any (suspends n xid) s.associations ≡ b
suspends_told m s n xid b st e = sym (suspends_is m.sessions s n xid st.recoverable.sound st.sessions) ∙ e

pub resumes_own : (m : View) (s : State) (n : ℕ) (xid : Triple) → StandsFor m s → suspends_at m.sessions n xid ≡ true → resumed_kind s.associations n xid ≡ Some kind.Suspended
resumes_own m s n xid st e = of_first (list_any (suspends n xid) s.associations) kind.Suspended _ (suspends_told m s n xid true st e)

pub resumes_loose : (m : View) (s : State) (n : ℕ) (xid : Triple) → StandsFor m s → suspends_at m.sessions n xid ≡ false → resume_refusal_of s n xid ≡ None
    → resumed_kind s.associations n xid ≡ Some kind.Loose
resumes_loose m s n xid st e free =
    let none = suspends_told m s n xid false st e in
    of_second (list_any (suspends n xid) s.associations) (list_any (is_loose_with xid) s.associations) kind.Suspended kind.Loose None none
    (other_of (list_any (suspends n xid) s.associations) (list_any (is_loose_with xid) s.associations) (resume_passed s n xid free).1 none)

-- End

works_told : (m : View) (s : State) (n : ℕ) (xid : Triple) (b : Bool) → StandsFor m s → is_with xid (active_at m.sessions n) ≡ b → is_with xid (active_of s.associations n) ≡ b
works_told m s n xid b st e = ap (is_with xid) (sym (st.sessions.active n)) ∙ e

pub leaves_active : (m : View) (s : State) (n : ℕ) (xid : Triple) → StandsFor m s → is_with xid (active_at m.sessions n) ≡ true → ended_kind s.associations n xid ≡ Some kind.Active
leaves_active m s n xid st e = of_first (list_any (works_in n xid) s.associations) kind.Active _ (works_somewhere n xid s.associations (works_told m s n xid true st e))

idle : (m : View) (s : State) (n : ℕ) (xid : Triple) → StandsFor m s → is_with xid (active_at m.sessions n) ≡ false → list_any (works_in n xid) s.associations ≡ false
idle m s n xid st e = works_nowhere n xid s.associations (works_told m s n xid false st e) (st.recoverable.sound.active n)

suspends_by : (owned at : Bool) → owned ≡ true → at ≡ false → (owned && not at) ≡ true
suspends_by owned at e h = rw (e, h) refl

pub leaves_suspended : (m : View) (s : State) (n : ℕ) (xid : Triple) → StandsFor m s → is_with xid (active_at m.sessions n) ≡ false → owns_at m.sessions n xid ≡ true
    → ended_kind s.associations n xid ≡ Some kind.Suspended
leaves_suspended m s n xid st e own =
    of_second (list_any (works_in n xid) s.associations) (list_any (suspends n xid) s.associations) kind.Active kind.Suspended _ (idle m s n xid st e)
    (suspends_told m s n xid true st (suspends_by (owns_at m.sessions n xid) (is_with xid (active_at m.sessions n)) own e))

can_end_where : (s : State) (n : ℕ) (xid : Triple) → leave_refusal_of s n xid ≡ None → can_end s.associations n xid ≡ true
can_end_where s n xid free =
    not_false (can_end s.associations n xid)
    (passed (not (can_end s.associations n xid)) (plain XAER_PROTO) None (passed (is_unknown (known_as s xid)) (plain XAER_NOTA) (cond (not (can_end s.associations n xid)) (Some (plain XAER_PROTO)) None) free).1).0

no_own : (b c : Bool) → b ≡ false → (b && c) ≡ false
no_own b c e = rw e refl

pub leaves_loose : (m : View) (s : State) (n : ℕ) (xid : Triple) → StandsFor m s → is_with xid (active_at m.sessions n) ≡ false → owns_at m.sessions n xid ≡ false → leave_refusal_of s n xid ≡ None
    → ended_kind s.associations n xid ≡ Some kind.Loose
leaves_loose m s n xid st e own free =
    of_third (list_any (works_in n xid) s.associations) (list_any (suspends n xid) s.associations) (list_any (is_loose_with xid) s.associations) kind.Active kind.Suspended kind.Loose (idle m s n xid st e)
    (suspends_told m s n xid false st (no_own (owns_at m.sessions n xid) (not (is_with xid (active_at m.sessions n))) own))
    (other_of (list_any (owns n xid) s.associations) (list_any (is_loose_with xid) s.associations) (can_end_where s n xid free) (sym (st.sessions.own n xid) ∙ own))

-- a session that may suspend its work for a branch is at work for it
pub works_where : (s : State) (n : ℕ) (xid : Triple) → suspend_refusal_of s n xid ≡ None → list_any (works_in n xid) s.associations ≡ true
works_where s n xid free = works_somewhere n xid s.associations (working_where s n xid free)
