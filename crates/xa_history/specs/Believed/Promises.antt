-- What a book of calls promises, whatever they were.
use Rattle.std.specs.Prelude.{◌⊎◌, List}
use Rattle.xa_manager.specs.Believed.Promises.{IsOpening, IsReached, ListsPrepared, ListsNoCompleted}
use Rattle.xa_model.specs.State.{State}
use Rattle.xa_model.specs.OneCopy.{HasOneCopy}
use Rattle.xa_history.specs.declared.entry.Entry.{Entry}
use Rattle.xa_history.specs.Believed.Manages.{Behaviour}
use Rattle.xa_history.specs.Believed.Book.{HasNoRestart, plain_entries}

-- From an opening state that the manager began with, the book leads to a state that it stands for now; the committed
-- branches of that state are one copy, what was answered as prepared is listed until its completion is asked for, and
-- what was completed isn't, until it is prepared again.
abbrev pub Promises : {M : Type 0} → Behaviour M → (State → Type 0) → M → List Entry → Type 0
Promises m start now entries =
    (s : State) → start s → IsOpening s → m.trusts ⊎ HasNoRestart entries
    → (t : State) × IsReached s (plain_entries entries) t × m.stands now t × HasOneCopy t
    × ListsPrepared (plain_entries entries) t × ListsNoCompleted (plain_entries entries) t
