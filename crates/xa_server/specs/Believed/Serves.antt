-- What holds of the history that a server tells of.
use Rattle.std.specs.Prelude.{ℕ, ◌≡◌, ◌⊎◌, List, length}
use Rattle.xa_manager.specs.Believed.Promises.{IsOpening, IsReached, ListsPrepared, ListsNoCompleted}
use Rattle.xa_model.specs.OneCopy.{HasOneCopy}
use Rattle.xa_model.specs.State.{State}
use Rattle.xa_history.specs.declared.entry.Entry.{Entry}
use Rattle.xa_history.specs.Believed.Manages.{Behaviour}
use Rattle.xa_history.specs.Believed.Book.{HasNoRestart, plain_entries}

-- A manager stood for an opening state. What was served of it, this many entries, is a legal history of that state; the
-- committed branches after it are one copy, and it lists what was prepared in it and nothing that was completed.
pub record KeepsServed {M : Type 0} (m : Behaviour M) (manager : M) (calls : ℕ) : Type 0 where
  pub first : State
  pub opens : IsOpening first
  pub stood : m.stands manager first
  pub entries : List Entry
  pub calls_are : calls ≡ length entries
  pub promised : m.trusts ⊎ HasNoRestart entries
      → (t : State) × IsReached first (plain_entries entries) t × HasOneCopy t
      × ListsPrepared (plain_entries entries) t × ListsNoCompleted (plain_entries entries) t
