-- What the tables' facts say of a state.
use Rattle.std.proofs.Common.{◌≡◌, ℕ, nat_lt, Bool, true, false, not, ◌&&◌, ◌||◌, List, [], ◌∷◌, length, Option, Some, None, refl, ap, sym, ◌∙◌, arith}
use Rattle.std.specs.Prelude.{is_some}
use Rattle.std.specs.List.{list_any}
use Rattle.std.specs.BTreeMap.{is_at}
use Rattle.std.proofs.lemmas.Bool.Decides.{nat_tests}
use Rattle.xa_xid.specs.Triple.{Triple, xid_cmp, xid_eq}
use Rattle.xa_xid.proofs.Same.{xid_eq_itself}
use Rattle.xa_model.proofs.Xids.{cmp_is_eq}
use Rattle.xa_model.specs.State.{State, Association, active_of, is_own, owns, suspends, is_with}
use Rattle.xa_model.specs.Associations.{is_of_session}
use Rattle.xa_model.specs.Invariants.Sound.{IsSound}
use Rattle.xa_assoc.specs.declared.seat.Seat.{Seat}
use Rattle.xa_assoc.specs.declared.sessions.Sessions.{Sessions}
use Rattle.xa_assoc.specs.Seats.{seat_at, active_at, suspends_at, holds, holds_any, holds_any_at}
use Rattle.xa_assoc.specs.Sessions.{SessionsStandFor}
use Rattle.xa_assoc.proofs.Held.{suspended_is}

pub suspends_is : (m : Sessions) (s : State) (n : ℕ) (xid : Triple) → IsSound s → SessionsStandFor m s → suspends_at m n xid ≡ list_any (suspends n xid) s.associations
suspends_is m s n xid sound st =
    ap (λ (b : Bool). b && not (is_with xid (active_at m n))) (st.own n xid)
    ∙ ap (λ (o : Option Triple). list_any (owns n xid) s.associations && not (is_with xid o)) (st.active n)
    ∙ sym (suspended_is n xid s.associations (sound.active n) (sound.own n xid))

-- of whether the session is at work, and whether it has suspended its work for the XID, comes the same as of the state
pub same_refusal : {A : Type 0} (f : Bool → Bool → A) (m : Sessions) (s : State) (n : ℕ) (xid : Triple) (works has : Bool) → IsSound s → SessionsStandFor m s
    → works ≡ is_some (active_at m n) → has ≡ suspends_at m n xid → f works has ≡ f (is_some (active_of s.associations n)) (list_any (suspends n xid) s.associations)
same_refusal f m s n xid works has sound st e g =
    ap (λ (b : Bool). f b has) (e ∙ ap (λ (o : Option Triple). is_some o) (st.active n))
    ∙ ap (λ (b : Bool). f (is_some (active_of s.associations n)) b) (g ∙ suspends_is m s n xid sound st)

-- any association of the session's own

both_false : (a b : Bool) → (a || b) ≡ false → (a ≡ false) × (b ≡ false)
both_false true b e = absurd (cc e)
both_false false b e = (refl, e)

anyones_none : (n : ℕ) (held : List Association) → ((xid : Triple) → list_any (owns n xid) held ≡ false) → list_any (is_of_session n) held ≡ false
anyones_none n [] h = refl
anyones_none n (a ∷ held) h =
    let here = (both_false (owns n a.xid a) (list_any (owns n a.xid) held) (h a.xid)).0 in
    let own : is_own n a.holder ≡ false = not_own (is_own n a.holder) (xid_eq a.xid a.xid) (xid_eq_itself a.xid) here in
    let rest : list_any (is_of_session n) held ≡ false = anyones_none n held (λ xid. (both_false (owns n xid a) (list_any (owns n xid) held) (h xid)).1) in
    rw (own, rest) refl
  where
    not_own : (b c : Bool) → c ≡ true → (b && c) ≡ false → b ≡ false
    not_own true true e h = h
    not_own true false e h = absurd (cc e)
    not_own false c e h = refl

anyones_by : (n : ℕ) (xid : Triple) (a : Association) (c : Bool) (b d : Bool) → (c && xid_eq a.xid xid || b) ≡ true → (b ≡ true → d ≡ true) → (c || d) ≡ true
anyones_by n xid a true b d e h = refl
anyones_by n xid a false b d e h = h e

anyones_some : (n : ℕ) (xid : Triple) (held : List Association) → list_any (owns n xid) held ≡ true → list_any (is_of_session n) held ≡ true
anyones_some n xid [] e = absurd (cc e)
anyones_some n xid (a ∷ held) e = anyones_by n xid a (is_own n a.holder) (list_any (owns n xid) held) (list_any (is_of_session n) held) e (anyones_some n xid held)

some_keys : (k : Triple) (keys : List Triple) → nat_lt 0 (length (k ∷ keys)) ≡ true
some_keys k keys = grind (arith, nat_tests)

keys_by : (n : ℕ) (held : List Association) (keys : List Triple) → ((xid : Triple) → list_any (is_at (xid_cmp xid)) keys ≡ list_any (owns n xid) held) → nat_lt 0 (length keys) ≡ list_any (is_of_session n) held
keys_by n held [] h = sym (anyones_none n held (λ xid. sym (h xid)))
keys_by n held (k ∷ keys) h =
    let at : is_at (xid_cmp k) k ≡ true = cmp_is_eq k k ∙ xid_eq_itself k in
    let there : list_any (owns n k) held ≡ true = sym (h k) ∙ ap (λ (b : Bool). b || list_any (is_at (xid_cmp k)) keys) at in
    some_keys k keys ∙ sym (anyones_some n k held there)

seat_by : (n : ℕ) (held : List Association) (o : Option Seat) → ((xid : Triple) → holds xid o ≡ list_any (owns n xid) held) → holds_any o ≡ list_any (is_of_session n) held
seat_by n held None h = sym (anyones_none n held (λ xid. sym (h xid)))
seat_by n held (Some x) h = keys_by n held x.own.keys h

pub holds_any_is : (m : Sessions) (s : State) (n : ℕ) → SessionsStandFor m s → holds_any_at m n ≡ list_any (is_of_session n) s.associations
holds_any_is m s n st = seat_by n s.associations (seat_at m n) (λ xid. st.own n xid)
