-- What holds of a book and of the manager that it is of.
use Rattle.std.specs.Prelude.{ℕ, ◌⊎◌, ◌+◌, ◌≤◌, List, length}
use Rattle.xa_model.specs.State.{State}
use Rattle.xa_model.specs.Events.{HaveHappened}
use Rattle.xa_model.specs.History.{Leads, HasGroups}
use Rattle.xa_manager.specs.Believed.Counted.{RiseBy, failures_of}
use Rattle.xa_history.specs.declared.entry.Entry.{Entry}
use Rattle.xa_history.specs.Believed.Manages.{Behaviour}
use Rattle.xa_history.specs.Believed.Book.{AreNumbered, HasNoRestart, plain_entries}

-- From each starting state the book is a legal history, and the manager stands for its last state. If somebody asked
-- for a restart this holds under the premises on devices.
abbrev pub IsLegal : {M : Type 0} → Behaviour M → (State → Type 0) → M → List Entry → Type 0
IsLegal m start now entries =
    (s : State) → start s → m.trusts ⊎ HasNoRestart entries
    → (t : State) × Leads s (plain_entries entries) t × m.stands now t

-- Under the same premises, the book reports no more failures than were counted since it was begun, and each record in
-- it that joined became what the one before it became.
abbrev pub IsCounted : {M : Type 0} → Behaviour M → (State → Type 0) → ℕ × ℕ → M → List Entry → Type 0
IsCounted m start base now entries =
    (s : State) → start s → m.trusts ⊎ HasNoRestart entries
    → HasGroups (plain_entries entries) × RiseBy (failures_of (plain_entries entries)) base (m.failures now)

-- a book that began at these states, with these failures counted
pub record Upholds {M : Type 0} (m : Behaviour M) (start : State → Type 0) (base : ℕ × ℕ)
    (now : M) (entries : List Entry) (capacity : ℕ) : Type 0 where
  pub legal : IsLegal m start now entries
  pub counted : IsCounted m start base now entries
  pub numbered : AreNumbered 0 entries
  pub happened : HaveHappened (plain_entries entries)
  -- there is room for the hang-up of each connected session
  pub reserved : length entries + m.sessions now ≤ capacity
