-- Laws on every history.
use Rattle.std.specs.Prelude.{◌≡◌, false, Some, List, [], ◌∷◌}
use Rattle.xa_codes.specs.declared.direction.Direction.{Direction}
use Rattle.xa_xid.specs.Triple.{Triple}
use Rattle.xa_model.specs.declared.event.Event.{Event}
use Rattle.xa_model.specs.declared.outcome.Outcome.{Outcome}
use Rattle.xa_model.specs.State.{State, InDoubt, known_as}
use Rattle.xa_model.specs.Answer.{Answer}
use Rattle.xa_model.specs.Phases.{is_associated, prepared, decided_by, forgotten}
use Rattle.xa_model.specs.Turn.{Happening, Asked}
use Rattle.xa_model.specs.Step.{step}
use Rattle.xa_model.specs.Invariants.Sound.{IsSound}
use Rattle.xa_model.specs.History.{Entry, Leads}
use Rattle.xa_model.specs.Events.{begins_boot}
pub mod Total
pub mod Restarts
pub mod LowWater
pub mod Time
pub mod Durable
pub mod Logging
pub mod Backing
pub mod Crash
pub mod Trim
pub mod Groups
pub mod Together

-- what happened in a history, each with its outcome
abbrev pub happened : List Entry → List (Happening × Outcome)
happened [] = []
happened (e ∷ es) = (e.happening, e.outcome) ∷ happened es

-- happenings and outcomes have at most one legal history
abbrev pub OneHistory : Type 0
OneHistory =
    (start : State) (es fs : List Entry) (last end : State) → happened es ≡ happened fs → Leads start es last
    → Leads start fs end → (es ≡ fs) × (last ≡ end)

-- every event that begins no boot keeps a state sound, whatever the device did
abbrev pub KeepsSound : Type 0
KeepsSound =
    (s : State) (e : Event) (outcome : Outcome) (a : Answer) → IsSound s → begins_boot e ≡ false
    → step s (Asked e) outcome ≡ Some a → IsSound a.after

-- a state stays sound if a branch without associations is prepared, if the operator completes one in doubt, and
-- if that is forgotten
abbrev pub KeepsSoundPrepared : Type 0
KeepsSoundPrepared = (s : State) (xid : Triple) → IsSound s → is_associated s xid ≡ false → IsSound (prepared s xid)

abbrev pub KeepsSoundDecided : Type 0
KeepsSoundDecided =
    (s : State) (direction : Direction) (xid : Triple) → IsSound s → known_as s xid ≡ InDoubt
    → IsSound (decided_by s direction xid)

abbrev pub KeepsSoundForgotten : Type 0
KeepsSoundForgotten = (s : State) (xid : Triple) → IsSound s → IsSound (forgotten s xid)
