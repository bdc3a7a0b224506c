-- What a manager's answers are.
use Rattle.std.specs.Prelude.{ℕ, ℤ, ◌≡◌, ◌⊎◌, Bool, true, false, List, [], ◌∷◌, length, Option, None, Some, Result, Ok, Err, MatchBool, if◌then◌else◌}
use Rattle.xa_disk.specs.declared.disk.Disk.{Ghosts}
use Rattle.xa_codes.specs.declared.codes.TheConstants.{XAER_RMERR, XAER_RMFAIL, XA_RETRY}
use Rattle.xa_codes.specs.declared.detail.Detail.TheVariants as detail
use Rattle.xa_codes.specs.Flags.{has}
use Rattle.xa_codes.specs.declared.flags.TheConstants.{TMONEPHASE}
use Rattle.xa_frame.specs.declared.request.Request.{Request}
use Rattle.xa_frame.specs.declared.request.Request.TheVariants.{Start, Prepare, Commit, Recover, Get, Put, Delete, Restart, Trim, Branches}
use Rattle.xa_frame.specs.declared.reply.Reply.{Reply}
use Rattle.xa_frame.specs.declared.body.Body.TheVariants as body
use Rattle.xa_log.specs.Ahead.{AppendsBy}
use Rattle.xa_log.specs.Answers.{HasRisen}
use Rattle.xa_log.specs.Believed.Stands.{Moves}
use Rattle.xa_log.specs.Believed.TwoFiles.{first_of, second_of}
use Rattle.xa_log.specs.declared.appending.Appended.{Appended}
use Rattle.xa_log.specs.declared.appending.Appended.TheVariants as appended
use Rattle.xa_log.specs.Believed.LogView.{LogView}
use Rattle.xa_model.specs.declared.event.Event.{Event}
use Rattle.xa_model.specs.declared.event.Event.TheVariants.{Connect, Hangup, Call}
use Rattle.xa_model.specs.declared.outcome.Outcome.{Outcome}
use Rattle.xa_model.specs.declared.outcome.Outcome.TheVariants as outcome
use Rattle.xa_model.specs.declared.outcome.Appending.{Appending}
use Rattle.xa_model.specs.declared.outcome.Appending.TheVariants.{Kept, Refused, Lost}
use Rattle.xa_model.specs.State.{State}
use Rattle.xa_model.specs.Answer.{detailed, carrying}
use Rattle.xa_model.specs.Turn.{Asked}
use Rattle.xa_model.specs.Step.{step}
use Rattle.xa_model.specs.History.{Entry, Leads}
use Rattle.xa_model.specs.Events.{is_restart, is_trim}
use Rattle.xa_assoc.specs.Refusals.{is_memory}
use Rattle.xa_assoc.specs.declared.fault.ConnectFault.{ConnectFault}
use Rattle.xa_assoc.specs.declared.fault.ConnectFault.TheVariants.{Memory, Full}
use Rattle.xa_manager.specs.declared.manager.Manager.{Manager}
use Rattle.xa_manager.specs.Believed.Crash.{CrashesAs, CrashesWanting}
use Rattle.xa_manager.specs.Believed.LogStands.{Trusts}
use Rattle.xa_manager.specs.Managed.{ManagerStandsFor, AnswersAs}
use Rattle.xa_manager.specs.Believed.Parts.{log_of, outcome_of}

-- the manager stands for whichever state it stood for
abbrev pub StaysFor : {D : Type 0} → Ghosts D → Manager D → Manager D → Type 0
StaysFor disks m m' = (s : State) → ManagerStandsFor disks m s → ManagerStandsFor disks m' s

-- The answer is the step's, with the outcome that the manager reports, and it stands for the step's new state. What a
-- restart finds in its files is said under the premises on the type of disks.
abbrev pub StepsAs : {D : Type 0} → Ghosts D → Manager D → Event → Reply → Manager D → Type 0
StepsAs disks m event reply m' =
    (s : State) → ManagerStandsFor disks m s → Trusts disks ⊎ (is_restart event ≡ false)
    → AnswersAs disks (step s (Asked event) (outcome_of m')) reply m'

-- if memory ran out, it stands for whichever state it stood for, and tells the outcome of the event before
abbrev pub Answered : {D : Type 0} → Ghosts D → Manager D → Event → Reply → Manager D → Type 0
Answered disks m event reply m' =
    MatchBool (is_memory reply.detail) (StaysFor disks m m' × (outcome_of m' ≡ outcome_of m))
    (StepsAs disks m event reply m')

-- What the device did of each outcome. If it is Quiet no device call was made.

abbrev pub as_appended : Appending → Appended
as_appended Kept = appended.Kept
as_appended Refused = appended.Refused
as_appended Lost = appended.Lost

-- a device call of one of the two files failed, and none of the other; or none of both
abbrev pub OneRises : {D : Type 0} → (D → ℕ) → LogView D → LogView D → Type 0
OneRises failures old new =
    (HasRisen (failures (first_of old)) (failures (first_of new))
    × (failures (second_of new) ≡ failures (second_of old)))
    ⊎ ((failures (first_of new) ≡ failures (first_of old))
    × HasRisen (failures (second_of old)) (failures (second_of new)))

abbrev pub NoneRises : {D : Type 0} → (D → ℕ) → LogView D → LogView D → Type 0
NoneRises failures old new =
    (failures (first_of new) ≡ failures (first_of old))
    × (failures (second_of new) ≡ failures (second_of old))

abbrev pub RisesBy : {D : Type 0} → (D → ℕ) → Option Appending → LogView D → LogView D → Type 0
RisesBy failures None old new = NoneRises failures old new
RisesBy failures (Some Kept) old new = NoneRises failures old new
RisesBy failures (Some Refused) old new = OneRises failures old new
RisesBy failures (Some Lost) old new = OneRises failures old new

-- An outcome that reports a failure has one after it. After a record that is kept there may be one, if zeros were
-- due: of the write with them. No single call joins the append of another.
abbrev pub HasCalled : {D : Type 0} → Ghosts D → Outcome → LogView D → LogView D → Type 0
HasCalled disks outcome.Quiet old new = new ≡ old
HasCalled disks (outcome.Appended appending) old new =
    (new.other ≡ old.other) × (new.on_first ≡ old.on_first)
    × (n : ℕ) × Moves (as_appended appending) n old new × AppendsBy disks n (as_appended appending) old new
HasCalled disks (outcome.Joined appending) old new = ⊥
HasCalled disks outcome.Failed old new = OneRises disks.failures old new
HasCalled disks (outcome.Reread survived appended) old new = RisesBy disks.failures appended old new

-- A trim appends no record, but writes a new log to the other file.
abbrev pub HasCalledToTrim : {D : Type 0} → Ghosts D → Outcome → LogView D → LogView D → Type 0
HasCalledToTrim disks outcome.Quiet old new = new ≡ old
HasCalledToTrim disks (outcome.Appended appending) old new = RisesBy disks.failures (Some appending) old new
HasCalledToTrim disks (outcome.Joined appending) old new = ⊥
HasCalledToTrim disks outcome.Failed old new = ⊥
HasCalledToTrim disks (outcome.Reread survived appended) old new = ⊥

abbrev pub HasCalledFor : {D : Type 0} → Ghosts D → Bool → Outcome → LogView D → LogView D → Type 0
HasCalledFor disks true outcome old new = HasCalledToTrim disks outcome old new
HasCalledFor disks false outcome old new = HasCalled disks outcome old new

-- The device was called as the outcome says. A restart that found its log unreadable says that it failed: only with
-- the premises that is the device's doing.
abbrev pub CallsAs : {D : Type 0} → Ghosts D → Manager D → Event → Outcome → Manager D → Type 0
CallsAs disks m event outcome m' =
    (s : State) → ManagerStandsFor disks m s → Trusts disks ⊎ (is_restart event ≡ false)
    → HasCalledFor disks (is_trim event) outcome (log_of m) (log_of m')

-- Which events may need memory: a request to end what stands never does, except that a commit in one phase has to write
-- what it commits.
abbrev pub may_want : Request → Bool
may_want (Start flags xid) = true
may_want (Prepare flags xid) = true
may_want (Commit flags xid) = has flags TMONEPHASE
may_want (Recover flags count) = true
may_want (Branches count after) = true
may_want (Get key) = true
may_want (Put key value) = true
may_want (Delete key) = true
may_want Restart = true
may_want Trim = true
may_want _ = false

abbrev pub may_want_memory : Event → Bool
may_want_memory Connect = true
may_want_memory (Hangup n) = false
may_want_memory (Call n request) = may_want request

-- the code that says that there was no memory
abbrev pub memory_code : Request → ℤ
memory_code (Commit flags xid) = if has flags TMONEPHASE then XAER_RMFAIL else XA_RETRY
memory_code _ = XAER_RMFAIL

-- the one reply that says so, of an event
abbrev pub wanted_memory : Event → Reply
wanted_memory (Call n request) = detailed (memory_code request) detail.Memory
wanted_memory _ = detailed XAER_RMFAIL detail.Memory

-- if the reply says that there was no memory, it is that one, and the event may need it
abbrev pub IsPinned : Event → Reply → Type 0
IsPinned event reply = is_memory reply.detail ≡ true → (may_want_memory event ≡ true) × (reply ≡ wanted_memory event)

-- what is said of every call
pub record FullyAnswered {D : Type 0} (disks : Ghosts D) (m : Manager D) (event : Event) (reply : Reply)
    (m' : Manager D) : Type 0 where
  pub answered : Answered disks m event reply m'
  pub pinned : IsPinned event reply
  pub called : is_memory reply.detail ≡ false → CallsAs disks m event (outcome_of m') m'
  -- what a crash at any moment of it leaves
  pub crash : is_memory reply.detail ≡ false → CrashesAs disks m event (outcome_of m') m'
  -- if memory ran out, no device call failed, and none was made but by a restart
  pub quiet : is_memory reply.detail ≡ true → NoneRises disks.failures (log_of m) (log_of m')
  pub untouched : is_memory reply.detail ≡ true → is_restart event ≡ false → log_of m' ≡ log_of m
  -- what a crash at any moment of it leaves then
  pub wanting : is_memory reply.detail ≡ true → CrashesWanting disks m event m'

-- each of the events was answered as it is alone, one after another
abbrev pub RunsAll : {D : Type 0} → Ghosts D → Manager D → List Event → List Reply → Manager D → Type 0
RunsAll disks m [] [] m' = m' ≡ m
RunsAll disks m [] (reply ∷ replies) m' = ⊥
RunsAll disks m (event ∷ events) [] m' = ⊥
RunsAll {D} disks m (event ∷ events) (reply ∷ replies) m' =
    (mid : Manager D) × FullyAnswered disks m event reply mid × RunsAll disks mid events replies m'

-- the reply that a connect's result stands for
abbrev pub connect_reply : Result ℕ ConnectFault → Reply
connect_reply (Ok number) = carrying (body.Number number)
connect_reply (Err Full) = detailed XAER_RMERR detail.Limit
connect_reply (Err Memory) = detailed XAER_RMFAIL detail.Memory

-- the events with their outcomes and replies, those that ran out of memory left out
abbrev pub recorded : List Event → List Outcome → List Reply → List Entry
recorded [] outcomes replies = []
recorded (event ∷ events) [] replies = []
recorded (event ∷ events) (o ∷ outcomes) [] = []
recorded (event ∷ events) (o ∷ outcomes) (reply ∷ replies) =
    if is_memory reply.detail then recorded events outcomes replies
    else record { happening = Asked event; outcome = o; reply = reply } ∷ recorded events outcomes replies

abbrev pub no_restart : List Event → Bool
no_restart [] = true
no_restart (event ∷ events) = if is_restart event then false else no_restart events

-- With some outcomes, one for each event, the events and their replies are a legal history. Without a restart among them
-- nothing is asked of the type of disks.
abbrev pub AnswersAll : {D : Type 0} → Ghosts D → Manager D → List Event → List Reply → Manager D → Type 0
AnswersAll disks m events replies m' =
    (s : State) → ManagerStandsFor disks m s → Trusts disks ⊎ (no_restart events ≡ true)
    → (outcomes : List Outcome) × (s' : State) × (length outcomes ≡ length events)
    × Leads s (recorded events outcomes replies) s' × ManagerStandsFor disks m' s'

-- each of the replies is pinned, and there are as many as events
abbrev pub ArePinned : List Event → List Reply → Type 0
ArePinned [] [] = Unit {0}
ArePinned [] (reply ∷ replies) = ⊥
ArePinned (event ∷ events) [] = ⊥
ArePinned (event ∷ events) (reply ∷ replies) = IsPinned event reply × ArePinned events replies
