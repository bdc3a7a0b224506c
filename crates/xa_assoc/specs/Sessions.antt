-- What states of the sequential resource manager a table of sessions stands for.
use Rattle.std.specs.Prelude.{ℕ, ◌≡◌, ◌+◌, ◌<◌, Bool, not, Option, None, length, is_some}
use Rattle.std.specs.List.{list_any}
use Rattle.xa_xid.specs.Triple.{Triple}
use Rattle.xa_frame.specs.declared.reply.Reply.{Reply}
use Rattle.xa_model.specs.State.{State, active_of, owns, suspends, is_with, is_loose_with, known_as, known_in, limit_of}
use Rattle.xa_model.specs.Answer.{Answer, answer}
use Rattle.xa_model.specs.Associations.{is_taken, is_unknown, is_lasting, can_end, start_refusal, join_refusal, resume_refusal, end_refusal}
use Rattle.xa_model.specs.Invariants.Sound.{IsSound}
use Rattle.xa_model.specs.Step.{opened_of}
use Rattle.xa_limits.specs.declared.TheConstants.{MOST_SESSIONS}
use Rattle.xa_model.specs.Recovering.{scan_of}
use Rattle.xa_assoc.specs.declared.sessions.Sessions.{Sessions}
use Rattle.xa_assoc.specs.Seats.{connected_in, opened_at, active_at, owns_at, scan_at, limit_at}
use Rattle.xa_assoc.specs.Free.{is_free}

-- The same sessions are connected and opened, and each is at work for the same branch and has the same associations of
-- its own. What it has and isn't at work in is suspended. Each session's recovery scan stands at the same cursor,
-- and its time limit is the same. Of the numbers from 1 to `MOST_SESSIONS` the array tells which are free.
pub record SessionsStandFor (m : Sessions) (s : State) : Type 0 where
  pub opened : (n : ℕ) → opened_at m n ≡ opened_of s n
  pub active : (n : ℕ) → active_at m n ≡ active_of s.associations n
  pub own : (n : ℕ) (xid : Triple) → owns_at m n xid ≡ list_any (owns n xid) s.associations
  pub scan : (n : ℕ) → scan_at m n ≡ scan_of s.sessions n
  pub limit : (n : ℕ) → limit_at m n ≡ limit_of s n
  pub connected : connected_in m ≡ length s.sessions
  pub free : (k : ℕ) → k < MOST_SESSIONS → is_free m.free k ≡ not (is_some (opened_at m (k + 1)))

-- whichever sound state the one stood for, the other stands for what becomes of it
abbrev pub Follows : Sessions → (State → State) → Sessions → Type 0
Follows m act m' = (s : State) → IsSound s → SessionsStandFor m s → SessionsStandFor m' (act s)

-- if this holds of the state
abbrev pub FollowsIf : Sessions → (State → Type 0) → (State → State) → Sessions → Type 0
FollowsIf m P act m' = (s : State) → IsSound s → P s → SessionsStandFor m s → SessionsStandFor m' (act s)

-- each state that it stands for has this
abbrev pub InEach : Sessions → (State → Type 0) → Type 0
InEach m P = (s : State) → SessionsStandFor m s → P s

-- each sound one has
abbrev pub InSound : Sessions → (State → Type 0) → Type 0
InSound m P = (s : State) → IsSound s → SessionsStandFor m s → P s

-- as Follows, whichever state it was, also one that isn't sound
abbrev pub FollowsAlways : Sessions → (State → State) → Sessions → Type 0
FollowsAlways m act m' = InEach m (λ s. SessionsStandFor m' (act s))

-- it stands for whichever state it stood for
abbrev pub Stays : Sessions → Sessions → Type 0
Stays m m' = InEach m (λ s. SessionsStandFor m' s)

-- a row answers with this reply
abbrev pub Replies : Sessions → (State → Answer) → Reply → Type 0
Replies m row reply = InEach m (λ s. (row s).reply ≡ reply)

-- with only this reply: nothing changes
abbrev pub Refuses : Sessions → (State → Answer) → Reply → Type 0
Refuses m row reply = InEach m (λ s. row s ≡ answer reply s)

-- how a start and an end are refused of a session and an XID

abbrev pub begin_refusal_of : State → ℕ → Triple → Option Reply
begin_refusal_of s n xid =
    start_refusal (is_some (active_of s.associations n)) (is_taken (known_as s xid)) (known_in s) s.given

abbrev pub join_refusal_of : State → ℕ → Triple → Option Reply
join_refusal_of s n xid =
    join_refusal (is_some (active_of s.associations n)) (list_any (suspends n xid) s.associations) (known_as s xid)

abbrev pub resume_refusal_of : State → ℕ → Triple → Option Reply
resume_refusal_of s n xid =
    resume_refusal (is_some (active_of s.associations n)) (known_as s xid)
    (list_any (suspends n xid) s.associations) (list_any (is_loose_with xid) s.associations)

abbrev pub suspend_refusal_of : State → ℕ → Triple → Option Reply
suspend_refusal_of s n xid = end_refusal (known_as s xid) (is_with xid (active_of s.associations n))

abbrev pub leave_refusal_of : State → ℕ → Triple → Option Reply
leave_refusal_of s n xid = end_refusal (known_as s xid) (can_end s.associations n xid)

-- none is refused

abbrev pub CanResume : ℕ → Triple → State → Type 0
CanResume n xid s = resume_refusal_of s n xid ≡ None

abbrev pub CanSuspend : ℕ → Triple → State → Type 0
CanSuspend n xid s = suspend_refusal_of s n xid ≡ None

-- What the table of branches tells of an XID: whether it is taken or unknown, whether its branch is prepared or
-- completed, and whether an association with it is loose.

abbrev pub TellsTaken : State → Triple → Bool → Type 0
TellsTaken s xid taken = is_taken (known_as s xid) ≡ taken

abbrev pub TellsUnknown : State → Triple → Bool → Type 0
TellsUnknown s xid unknown = is_unknown (known_as s xid) ≡ unknown

abbrev pub TellsLasting : State → Triple → Bool → Type 0
TellsLasting s xid lasting = is_lasting (known_as s xid) ≡ lasting

abbrev pub TellsLoose : State → Triple → Bool → Type 0
TellsLoose s xid has_loose = list_any (is_loose_with xid) s.associations ≡ has_loose
