-- How a manager with a history is doing.
use Rattle.std.specs.Prelude.{ℕ, ◌≡◌}
use Rattle.xa_frame.specs.declared.status.Status.{Status}
use Rattle.xa_manager.specs.Status.{status_behind}
use Rattle.xa_model.specs.State.{State}
use Rattle.xa_history.specs.Believed.Manages.{Behaviour}

-- by whichever state the manager stands for, and how many entries its history has
abbrev pub Tells : {M : Type 0} → Behaviour M → M → ℕ → Status → Type 0
Tells m now calls status = (s : State) → m.stands now s → status ≡ status_behind s (m.versions now) calls
