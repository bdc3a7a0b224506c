-- A table of sessions that stood for a state stands for what becomes of it, where both change alike.
use Rattle.std.proofs.Common.{◌≡◌, ℕ, ◌+◌, ◌==◌, Bool, true, false, not, ◌&&◌, ◌||◌, cond, List, [], ◌∷◌, length, Option, Some, None, refl, ap, sym, ◌∙◌}
use Rattle.std.specs.Prelude.{find, option_map, is_some, OnOk, Result, Ok, Err}
use Rattle.std.specs.List.{list_any}
use Rattle.xa_xid.specs.Triple.{Triple, xid_eq}
use Rattle.xa_frame.specs.declared.reply.Reply.{Reply}
use Rattle.xa_model.specs.State.{State, Session, Association, Active, is_with, is_active, owns, suspends, is_loose_with, active_of, session_of, known_as, change, limit_by}
use Rattle.xa_codes.specs.declared.codes.TheConstants.{XAER_PROTO, XAER_NOTA}
use Rattle.xa_model.specs.Answer.{first, plain}
use Rattle.xa_model.specs.Associations.{begun, joined, resumed, not_resumed, suspended, not_suspended, ended, failed, held_by, is_unknown}
use Rattle.xa_model.specs.Recovering.{scan_of}
use Rattle.xa_model.specs.Invariants.Sound.{IsSound}
use Rattle.xa_model.proofs.Rows.{nothing}
use Rattle.xa_assoc.specs.declared.sessions.Sessions.{Sessions}
use Rattle.xa_assoc.specs.Free.{is_free}
use Rattle.xa_assoc.specs.Seats.{active_at, owns_at}
use Rattle.xa_assoc.specs.Changes.{SitsDown, StandsUp, Leaves, ComesToWork, ComesToRest, LosesOwn, IsSameRoom}
use Rattle.xa_assoc.specs.Sessions.{SessionsStandFor, Follows, FollowsIf, CanResume, CanSuspend, resume_refusal_of, suspend_refusal_of}
use Rattle.xa_assoc.proofs.Moves.{AreSeen, IsOnce, begun_sits, resumed_sits, suspended_resumes, loose_resumes, suspended_stands}
use Rattle.xa_assoc.proofs.Leaving.{migrated_leaves, working_leaves, not_resumed_leaves, ended_leaves}

room_follows : (m m' : Sessions) (s s' : State) → SessionsStandFor m s → IsSameRoom m m' → s'.sessions ≡ s.sessions
    → ((n : ℕ) → active_at m' n ≡ active_of s'.associations n) → ((n : ℕ) (xid : Triple) → owns_at m' n xid ≡ list_any (owns n xid) s'.associations) → SessionsStandFor m' s'
room_follows m m' s s' st room same active own = record {
  opened = λ n. room.opened n ∙ st.opened n ∙ ap (λ (xs : List Session). option_map (λ x. x.opened) (session_of xs n)) (sym same);
  active = active;
  own = own;
  scan = λ n. room.scan n ∙ st.scan n ∙ ap (λ (xs : List Session). scan_of xs n) (sym same);
  limit = λ n. room.limit n ∙ st.limit n ∙ ap (λ (xs : List Session). limit_by (session_of xs n)) (sym same);
  connected = room.connected ∙ st.connected ∙ ap (λ (xs : List Session). length xs) (sym same);
  free = λ k below. ap (λ (words : List ℕ). is_free words k) room.free ∙ st.free k below ∙ ap (λ (o : Option Bool). not (is_some o)) (sym (room.opened (k + 1)));
}

-- what changes neither sessions nor associations is no concern of the table
pub unmoved : (m : Sessions) (s s' : State) → s'.sessions ≡ s.sessions → s'.associations ≡ s.associations → SessionsStandFor m s → SessionsStandFor m s'
unmoved m s s' same held st =
    room_follows m m s s' st (record { opened = λ n. refl; scan = λ n. refl; limit = λ n. refl; connected = refl; free = refl }) same
    (λ n. st.active n ∙ ap (λ (xs : List Association). active_of xs n) (sym held))
    (λ n xid. st.own n xid ∙ ap (λ (xs : List Association). list_any (owns n xid) xs) (sym held))

pub sits_follow : (m m' : Sessions) (n : ℕ) (xid : Triple) (s s' : State) → SessionsStandFor m s → IsSameRoom m m' → ComesToWork m n xid m'
    → s'.sessions ≡ s.sessions → AreSeen (λ a o a' o'. SitsDown a o a' o' n xid) s.associations s'.associations → SessionsStandFor m' s'
sits_follow m m' n xid s s' st room d same e = room_follows m m' s s' st room same
    (λ k. d.active k ∙ ap (λ (o : Option Triple). cond (n == k) (Some xid) o) (st.active k) ∙ sym (e.active k))
    (λ k q. d.own k q ∙ ap (λ (b : Bool). b || (n == k && xid_eq xid q)) (st.own k q) ∙ sym (e.own k q))

pub stands_follow : (m m' : Sessions) (n : ℕ) (s s' : State) → SessionsStandFor m s → IsSameRoom m m' → ComesToRest m n m'
    → s'.sessions ≡ s.sessions → AreSeen (λ a o a' o'. StandsUp a o a' o' n) s.associations s'.associations → SessionsStandFor m' s'
stands_follow m m' n s s' st room d same e = room_follows m m' s s' st room same
    (λ k. d.active k ∙ ap (λ (o : Option Triple). cond (n == k) None o) (st.active k) ∙ sym (e.active k))
    (λ k q. d.own k q ∙ st.own k q ∙ sym (e.own k q))

pub leaves_follow : (m m' : Sessions) (n : ℕ) (xid : Triple) (s s' : State) → SessionsStandFor m s → IsSameRoom m m' → LosesOwn m n xid m'
    → s'.sessions ≡ s.sessions → AreSeen (λ a o a' o'. Leaves a o a' o' n xid) s.associations s'.associations → SessionsStandFor m' s'
leaves_follow m m' n xid s s' st room d same e = room_follows m m' s s' st room same
    (λ k. d.active k ∙ ap (λ (o : Option Triple). cond (n == k && is_with xid o) None o) (st.active k) ∙ sym (e.active k))
    (λ k q. d.own k q ∙ ap (λ (b : Bool). b && not (n == k && xid_eq xid q)) (st.own k q) ∙ sym (e.own k q))

-- what soundness says of one session and one XID
pub once : (s : State) (n : ℕ) (xid : Triple) → IsSound s → IsOnce n xid s.associations
once s n xid h = record { active = h.active n; own = h.own n xid }

-- Start

pub begun_follows : (m m' : Sessions) (n : ℕ) (xid : Triple) → IsSameRoom m m' → ComesToWork m n xid m' → Follows m (λ s. (begun s n xid).after) m'
begun_follows m m' n xid room d = λ s sound st. sits_follow m m' n xid s (begun s n xid).after st room d refl (begun_sits n xid s.associations)

pub joined_follows : (m m' : Sessions) (n : ℕ) (xid : Triple) → IsSameRoom m m' → ComesToWork m n xid m' → Follows m (λ s. (joined s n xid).after) m'
joined_follows m m' n xid room d = λ s sound st. sits_follow m m' n xid s (joined s n xid).after st room d refl (begun_sits n xid s.associations)

-- a resume that isn't refused
three_passed : (b u v : Bool) (r q p : Reply) → first ((b, r) ∷ (u, q) ∷ (not v, p) ∷ []) ≡ None → (b ≡ false) × (v ≡ true)
three_passed true u v r q p e = absurd (cc e)
three_passed false true v r q p e = absurd (cc e)
three_passed false false true r q p e = (refl, refl)
three_passed false false false r q p e = absurd (cc e)

two_passed : (u v : Bool) (q p : Reply) → first ((u, q) ∷ (not v, p) ∷ []) ≡ None → v ≡ true
two_passed true v q p e = absurd (cc e)
two_passed false true q p e = refl
two_passed false false q p e = absurd (cc e)

mapped_nothing : {A B : Type 0} (f : A → B) (o : Option A) → option_map f o ≡ None → o ≡ None
mapped_nothing f None e = refl
mapped_nothing f (Some x) e = absurd (cc e)

pub resume_passed : (s : State) (n : ℕ) (xid : Triple) → resume_refusal_of s n xid ≡ None
    → (is_some (active_of s.associations n) ≡ false) × ((list_any (suspends n xid) s.associations || list_any (is_loose_with xid) s.associations) ≡ true)
resume_passed s n xid e =
    three_passed (is_some (active_of s.associations n)) (is_unknown (known_as s xid)) (list_any (suspends n xid) s.associations || list_any (is_loose_with xid) s.associations)
    (plain XAER_PROTO) (plain XAER_NOTA) (plain XAER_PROTO) e

pub idle_where : (s : State) (n : ℕ) (xid : Triple) → resume_refusal_of s n xid ≡ None → active_of s.associations n ≡ None
idle_where s n xid e = nothing (active_of s.associations n) (resume_passed s n xid e).0

resumed_by : (n : ℕ) (xid : Triple) (held : List Association) (c : Bool) → list_any (suspends n xid) held ≡ c → find (λ a. is_active n a.holder) held ≡ None → (c || list_any (is_loose_with xid) held) ≡ true
    → AreSeen (λ a o a' o'. SitsDown a o a' o' n xid) held (change (λ a. cond c (suspends n xid a) (is_loose_with xid a)) (held_by (Active n)) held)
resumed_by n xid held true e idle any = resumed_sits n xid (suspends n xid) held (suspended_resumes n xid) idle e
resumed_by n xid held false e idle any = resumed_sits n xid (is_loose_with xid) held (loose_resumes n xid) idle any

pub resumed_follows : (m m' : Sessions) (n : ℕ) (xid : Triple) → IsSameRoom m m' → ComesToWork m n xid m'
    → FollowsIf m (CanResume n xid) (λ s. (resumed s n xid).after) m'
resumed_follows m m' n xid room d = λ s sound free st.
    let idle = mapped_nothing (λ (a : Association). a.xid) (find (λ a. is_active n a.holder) s.associations) (idle_where s n xid free) in
    sits_follow m m' n xid s (resumed s n xid).after st room d refl (resumed_by n xid s.associations (list_any (suspends n xid) s.associations) refl idle ((resume_passed s n xid free).1))

-- End

pub working_where : (s : State) (n : ℕ) (xid : Triple) → suspend_refusal_of s n xid ≡ None → is_with xid (active_of s.associations n) ≡ true
working_where s n xid e = two_passed (is_unknown (known_as s xid)) (is_with xid (active_of s.associations n)) (plain XAER_NOTA) (plain XAER_PROTO) e

pub suspended_follows : (m m' : Sessions) (n : ℕ) (xid : Triple) → IsSameRoom m m' → ComesToRest m n m'
    → FollowsIf m (CanSuspend n xid) (λ s. suspended s n false xid) m'
suspended_follows m m' n xid room d = λ s sound free st.
    stands_follow m m' n s (suspended s n false xid) st room d refl (suspended_stands n xid s.associations (once s n xid sound) (working_where s n xid free))

pub migrated_follows : (m m' : Sessions) (n : ℕ) (xid : Triple) → IsSameRoom m m' → LosesOwn m n xid m'
    → FollowsIf m (CanSuspend n xid) (λ s. suspended s n true xid) m'
migrated_follows m m' n xid room d = λ s sound free st.
    leaves_follow m m' n xid s (suspended s n true xid) st room d refl (migrated_leaves n xid s.associations (once s n xid sound) (working_where s n xid free))

pub not_suspended_follows : (m m' : Sessions) (n : ℕ) (xid : Triple) → IsSameRoom m m' → LosesOwn m n xid m'
    → FollowsIf m (CanSuspend n xid) (λ s. not_suspended s n xid) m'
not_suspended_follows m m' n xid room d = λ s sound free st.
    leaves_follow m m' n xid s (not_suspended s n xid) st room d refl (working_leaves n xid s.associations (once s n xid sound) (working_where s n xid free))

pub not_resumed_follows : (m m' : Sessions) (n : ℕ) (xid : Triple) → IsSameRoom m m' → LosesOwn m n xid m'
    → FollowsIf m (CanResume n xid) (λ s. not_resumed s n xid) m'
not_resumed_follows m m' n xid room d = λ s sound free st.
    leaves_follow m m' n xid s (not_resumed s n xid) st room d refl (not_resumed_leaves n xid s.associations (once s n xid sound) (ap (is_with xid) (idle_where s n xid free)))

pub ended_follows : (m m' : Sessions) (n : ℕ) (xid : Triple) → IsSameRoom m m' → LosesOwn m n xid m' → Follows m (λ s. ended s n xid) m'
ended_follows m m' n xid room d = λ s sound st. leaves_follow m m' n xid s (ended s n xid) st room d refl (ended_leaves n xid s.associations (once s n xid sound))

pub failed_follows : (m m' : Sessions) (n : ℕ) (xid : Triple) → IsSameRoom m m' → LosesOwn m n xid m' → Follows m (λ s. (failed s n xid).after) m'
failed_follows m m' n xid room d = λ s sound st. leaves_follow m m' n xid s (failed s n xid).after st room d refl (ended_leaves n xid s.associations (once s n xid sound))

-- for an act that may want memory
pub on_ok : {A F : Type 0} (r : Result A F) (P Q R : Type 0) → (P → Q → R) → OnOk r P → OnOk r Q → OnOk r R
on_ok (Ok x) P Q R h p q = h p q
on_ok (Err e) P Q R h p q = tt
