-- Laws of a trim, besides those of every event: all work goes on, recovery lists the same, and if the log's
-- records back the state no trim is refused for lack of room (`Room`).
use Rattle.std.specs.Prelude.{ℕ, ◌≡◌, Some}
use Rattle.xa_frame.specs.declared.request.Request.TheVariants.{Trim}
use Rattle.xa_xid.specs.Triple.{Triple}
use Rattle.xa_model.specs.declared.event.Event.TheVariants.{Call}
use Rattle.xa_model.specs.declared.outcome.Outcome.{Outcome}
use Rattle.xa_model.specs.State.{State}
use Rattle.xa_model.specs.Answer.{Answer}
use Rattle.xa_model.specs.Durable.{durable}
use Rattle.xa_model.specs.Turn.{Asked}
use Rattle.xa_model.specs.Step.{step}
use Rattle.xa_model.specs.Invariants.Loggable.{IsRecoverable}
use Rattle.xa_model.specs.ListedLaw.{lists}

-- of the state before a session asks for one, and of the state after it, whatever the device did
abbrev pub HoldsOverTrims : (State → State → Type 0) → Type 0
HoldsOverTrims P =
    (s : State) (n : ℕ) (outcome : Outcome) (a : Answer) → IsRecoverable s
    → step s (Asked (Call n Trim)) outcome ≡ Some a → P s a.after

-- sessions and what they work for, branches at work with all that they did, what the operator completed, reads, and the
-- moment stay
abbrev pub TrimGoesOn : Type 0
TrimGoesOn =
    HoldsOverTrims (λ s t.
    (t.sessions ≡ s.sessions) × (t.associations ≡ s.associations) × (t.branches ≡ s.branches) × (t.decided ≡ s.decided)
    × (t.reads ≡ s.reads) × (t.moment ≡ s.moment))

-- recovery lists the same
abbrev pub TrimLists : Type 0
TrimLists = HoldsOverTrims (λ s t. (xid : Triple) → lists xid (durable t) ≡ lists xid (durable s))
