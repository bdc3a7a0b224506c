-- Laws of the moment: nothing that is asked puts it back, and a manager that is opened again begins at 0.
use Rattle.std.specs.Prelude.{ℕ, ◌≡◌, ◌≤◌, Some, List}
use Rattle.xa_model.specs.declared.event.Event.{Event}
use Rattle.xa_model.specs.declared.outcome.Outcome.{Outcome}
use Rattle.xa_model.specs.State.{State, Up}
use Rattle.xa_model.specs.Answer.{Answer}
use Rattle.xa_model.specs.Turn.{Asked, Reopened}
use Rattle.xa_model.specs.Step.{step}

abbrev pub MomentsRise : Type 0
MomentsRise =
    (s : State) (e : Event) (outcome : Outcome) (a : Answer) → step s (Asked e) outcome ≡ Some a
    → s.moment ≤ a.after.moment

abbrev pub OpensAtZero : Type 0
OpensAtZero =
    (s : State) (name : List ℕ) (log_bytes : ℕ) (outcome : Outcome) (a : Answer)
    → step s (Reopened name log_bytes) outcome ≡ Some a
    → a.after.standing ≡ Up → a.after.moment ≡ 0
