-- What a manager does with calls that are asked together.
use Rattle.std.specs.Prelude.{ℕ, ◌≡◌, ◌<◌, false, List, [], ◌∷◌, length, map}
use Rattle.std.specs.List.{AllByRecursion}
use Rattle.xa_assoc.specs.Refusals.{is_memory}
use Rattle.xa_codes.specs.declared.codes.TheConstants.{XAER_RMFAIL}
use Rattle.xa_codes.specs.declared.detail.Detail.TheVariants as detail
use Rattle.xa_disk.specs.declared.disk.Disk as disk
use Rattle.xa_frame.specs.Limits.{IsReply}
use Rattle.xa_frame.specs.declared.reply.Reply.{Reply}
use Rattle.xa_manager.specs.Believed.Counted.{RiseBy, failures_in}
use Rattle.xa_manager.specs.Believed.Crash.{LeavesAppend}
use Rattle.xa_manager.specs.Believed.LogStands.{Trusts}
use Rattle.xa_manager.specs.Managed.{ManagerStandsFor}
use Rattle.xa_manager.specs.Believed.Parts.{log_of}
use Rattle.xa_manager.specs.Believed.Together.{asked_at}
use Rattle.xa_manager.specs.declared.manager.Manager.{Manager}
use Rattle.xa_manager.specs.declared.together.Asked.{Asked}
use Rattle.xa_model.specs.Answer.{detailed}
use Rattle.xa_model.specs.History.{Entry, Leads}
use Rattle.xa_model.specs.State.{State}
use Rattle.xa_model.specs.Turn as turn
use Rattle.xa_model.specs.declared.event.Event.{Event}
use Rattle.xa_model.specs.declared.event.Event.TheVariants.{Call}
use Rattle.xa_model.specs.declared.outcome.Appending.{Appending}
use Rattle.xa_model.specs.declared.outcome.Appending.TheVariants.{Lost}
use Rattle.xa_model.specs.declared.outcome.Outcome.{Outcome}
use Rattle.xa_model.specs.declared.outcome.Outcome.TheVariants.{Appended, Joined}
use Rattle.xa_history.specs.Believed.Manages.{Behaviour, Stays}

-- the call at this place among those that were asked
abbrev pub event_at : List Asked → ℕ → Event
event_at calls at = Call (asked_at calls at).session (asked_at calls at).request

-- the calls that were replied
abbrev pub events_of : List Asked → List (ℕ × Reply) → List Event
events_of calls replies = map (λ r. event_at calls r.0) replies

-- the entry that a reply without a place tells of
abbrev pub told_entry : List Asked → Outcome → ℕ × Reply → Entry
told_entry calls outcome told =
    record { happening = turn.Asked (event_at calls told.0); outcome = outcome; reply = told.1 }

-- those of a group if this became of its records
abbrev pub told_entries : List Asked → Appending → ℕ × Reply → List (ℕ × Reply) → List Entry
told_entries calls appending r rs =
    told_entry calls (Appended appending) r ∷ map (told_entry calls (Joined appending)) rs

-- it is a reply to one of the calls, within the limits, and reports no lack of memory
pub record IsToldOf (calls : List Asked) (told : ℕ × Reply) : Type 0 where
  pub within : told.0 < length calls
  pub found : is_memory told.1.detail ≡ false
  pub limits : IsReply told.1

-- no reply has a place in the history yet
abbrev pub AreUnplaced : List (ℕ × Reply) → Type 0
AreUnplaced replies = AllByRecursion (λ r. r.1.place ≡ 0) replies

-- no call was answered: it stands for whichever state it stood for, and no device call failed
pub record AnswersNone {M : Type 0} (m : Behaviour M) (old new : M) : Type 0 where
  pub stays : Stays m.stands old new
  pub counted : RiseBy 0 (m.failures old) (m.failures new)

-- Calls were answered together, one after another in the order of their replies, as a group whose records became
-- this: whichever state it stood for, it stands for the one to which their entries lead. The device was called once,
-- for the first of them, and no more failures are reported than were counted.
pub record ActsTogether {M : Type 0} (m : Behaviour M) (old : M) (calls : List Asked) (r : ℕ × Reply)
    (rs : List (ℕ × Reply)) (appending : Appending) (new : M) : Type 0 where
  pub told : AllByRecursion (IsToldOf calls) (r ∷ rs)
  pub unplaced : AreUnplaced (r ∷ rs)
  pub leads : (s : State) → m.stands old s
      → (t : State) × Leads s (told_entries calls appending r rs) t × m.stands new t
  pub called : (s : State) → m.stands old s → m.has_called (event_at calls r.0) (Appended appending) old new
  -- what a crash at any moment of it leaves
  pub crash : m.crashes_together (events_of calls (r ∷ rs)) old new
  pub counted : (s : State) → m.stands old s
      → RiseBy (failures_in (Appended appending)) (m.failures old) (m.failures new)

-- those that were replied are such a group; or there are none
abbrev pub AnswersTogether : {M : Type 0} → Behaviour M → M → List Asked → List (ℕ × Reply) → M → Type 0
AnswersTogether m old calls [] new = AnswersNone m old new
AnswersTogether m old calls (r ∷ rs) new = (appending : Appending) × ActsTogether m old calls r rs appending new

-- What a crash leaves at any moment of a group, by a manager over a log

-- a call whose record is lost
abbrev pub lost_entry : Outcome → Event → Entry
lost_entry outcome event =
    record { happening = turn.Asked event; outcome = outcome; reply = detailed XAER_RMFAIL detail.Device }

-- calls whose records are lost together
abbrev pub lost_entries : List Event → List Entry
lost_entries [] = []
lost_entries (e ∷ es) = lost_entry (Appended Lost) e ∷ map (lost_entry (Joined Lost)) es

-- the files stand for the state to which the calls lead if their records are lost
abbrev pub CrashesTogether : {D : Type 0} → disk.Ghosts D → List Event → Manager D → Manager D → Type 0
CrashesTogether disks events m m' =
    (s : State) → ManagerStandsFor disks m s → Trusts disks
    → (lost : State) × Leads s (lost_entries events) lost × LeavesAppend disks (log_of m) (log_of m') s lost
