-- A branch begins, or its begin is undone.
use Rattle.std.proofs.Common.{◌≡◌, ℕ, ◌==◌, ◌&&◌, ◌||◌, Bool, true, cond, List, ◌∷◌, Option, Some, None, refl, sym, ◌∙◌, subst, rules}
use Rattle.std.specs.Prelude.{is_some, option_map, IsSome}
use Rattle.std.specs.List.{list_any}
use Rattle.xa_xid.specs.Triple.{Triple, xid_eq}
use Rattle.xa_model.specs.State.{State, Session, Association, Active, owns, is_loose_with, without, session_of}
use Rattle.xa_model.specs.Answer.{Answer}
use Rattle.xa_model.specs.Associations.{begun, without_one, ended}
use Rattle.xa_model.specs.Invariants.Sound.{IsSound}
use Rattle.xa_model.proofs.Working.{begin_sound}
use Rattle.xa_assoc.specs.declared.sessions.Sessions.{Sessions}
use Rattle.xa_assoc.specs.Seats.{opened_at}
use Rattle.xa_assoc.specs.Sessions.{SessionsStandFor, Follows, begin_refusal_of}
use Rattle.xa_assoc.proofs.Follows.{unmoved}
use Rattle.xa_manager.specs.View.{View}
use Rattle.xa_manager.specs.Stands.{StandsFor}
use Rattle.xa_manager.proofs.Rows.{passed_is}

seated_by : (o : Option Session) → IsSome (option_map (λ x. x.opened) o) → is_some o ≡ true
seated_by None h = absurd (cc h)
seated_by (Some x) h = refl

-- a session that the table has is connected
pub seated : (m : View) (s : State) (n : ℕ) → StandsFor m s → IsSome (opened_at m.sessions n) → is_some (session_of s.sessions n) ≡ true
seated m s n st h = seated_by (session_of s.sessions n) (subst (λ (o : Option Bool). IsSome o) (st.sessions.opened n) h)

pub begun_sound : (m : View) (s : State) (n : ℕ) (xid : Triple) → StandsFor m s → IsSome (opened_at m.sessions n) → begin_refusal_of s n xid ≡ None → IsSound (begun s n xid).after
begun_sound m s n xid st here free =
    subst (λ (a : Answer). IsSound a.after) (passed_is (begin_refusal_of s n xid) s (begun s n xid) free) (begin_sound s n xid st.recoverable.sound (seated m s n st here))

-- the session's new association is the first that ends
first_own : (b : Bool) (a : Association) (held : List Association) (p q : Association → Bool) → p a ≡ b → b ≡ true → (cond (p a || list_any p held) (without p (a ∷ held)) (without q (a ∷ held))) ≡ held
first_own b a held p q e h = let passes : p a ≡ true = e ∙ h in rw passes refl

owned : (n : ℕ) (xid : Triple) → (n == n && xid_eq xid xid) ≡ true
owned n xid = search rules

undone : (n : ℕ) (xid : Triple) (held : List Association) → without_one (record { xid = xid; holder = Active n } ∷ held) n xid ≡ held
undone n xid held = first_own true (record { xid = xid; holder = Active n }) held (owns n xid) (is_loose_with xid) (owned n xid) refl

pub undone_follows : (m m' : Sessions) (s : State) (n : ℕ) (xid : Triple) → IsSound (begun s n xid).after → SessionsStandFor m (begun s n xid).after → Follows m (λ s. ended s n xid) m' → SessionsStandFor m' s
undone_follows m m' s n xid sound st leaves = unmoved m' (ended (begun s n xid).after n xid) s refl (sym (undone n xid s.associations)) (leaves (begun s n xid).after sound st)
