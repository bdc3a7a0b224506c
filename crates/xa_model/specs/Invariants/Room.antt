-- The room that a log keeps, so that what is prepared can always be completed and forgotten.
use Rattle.std.specs.Prelude.{◌≡◌, ◌≢◌, ◌+◌, true, false, Some, List, [], ◌∷◌, length}
use Rattle.xa_record.specs.declared.record.Record.{Record}
use Rattle.xa_model.specs.declared.outcome.Outcome.{Outcome}
use Rattle.xa_model.specs.State.{State, Ended}
use Rattle.xa_model.specs.Answer.{Answer}
use Rattle.xa_model.specs.Logging.{log_room, prepared_count, applied}
use Rattle.xa_model.specs.declared.event.Event.{Event}
use Rattle.xa_model.specs.Turn.{Happening, Asked}
use Rattle.xa_model.specs.Step.{step}
use Rattle.xa_model.specs.Events.{IsEvent, IsHappening, is_restart}
use Rattle.xa_model.specs.Invariants.Loggable.{IsRecoverable}
use Rattle.xa_model.specs.Invariants.Backing.{Backs}
use Rattle.xa_model.specs.Restarting.{can_open}

abbrev pub HasRoom : State → Type 0
HasRoom s = log_room s.log_bytes s.end (prepared_count s) (length s.decided) ≡ true

-- with the first of these records, with the first two, and so on
abbrev pub HasRoomWith : State → List Record → Type 0
HasRoomWith s [] = Unit {0}
HasRoomWith s (r ∷ rs) = HasRoom (applied r s) × HasRoomWith (applied r s) rs

-- the room is there, and is still there however many of the records whose fates are unknown are found in the log
pub record HasRoomAnyway (s : State) : Type 0 where
  pub room : HasRoom s
  pub found : HasRoomWith s s.open_records

-- an opening that was refused may have been asked with too few bytes
abbrev pub IsRoomy : State → Type 0
IsRoomy s = s.standing ≢ Ended → HasRoomAnyway s

-- every event but a restart keeps the room
abbrev pub KeepsRoom : Type 0
KeepsRoom =
    (s : State) (e : Event) (outcome : Outcome) (a : Answer) → IsEvent e → IsRecoverable s → IsRoomy s
    → is_restart e ≡ false
    → step s (Asked e) outcome ≡ Some a → IsRoomy a.after

-- so does a restart, and an opening that succeeds: the new file is no longer than the log that backs the state
abbrev pub RestartKeepsRoom : Type 0
RestartKeepsRoom =
    (rs : List Record) (s : State) (happening : Happening) (outcome : Outcome) (a : Answer) → IsHappening happening
    → IsRecoverable s → Backs rs s → IsRoomy s
    → step s happening outcome ≡ Some a → IsRoomy a.after

-- if records back a state that keeps its room, no trim is refused for lack of it
abbrev pub TrimHasRoom : Type 0
TrimHasRoom =
    (rs : List Record) (s : State) → IsRecoverable s → Backs rs s → HasRoom s
    → can_open s s.log_bytes (s.logged_boot + 1) ≡ true
