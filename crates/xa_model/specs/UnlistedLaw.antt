-- What was completed isn't listed until it is prepared again.
use Rattle.std.specs.Prelude.{ℕ, List, ◌∷◌, ◌++◌}
use Rattle.std.specs.List.{AllByRecursion}
use Rattle.xa_xid.specs.Triple.{Triple}
use Rattle.xa_model.specs.State.{State}
use Rattle.xa_model.specs.Durable.{Durable}
use Rattle.xa_model.specs.Events.{HaveHappened}
use Rattle.xa_model.specs.History.{Entry, Leads}
use Rattle.xa_model.specs.Invariants.Loggable.{IsRecoverable}
use Rattle.xa_model.specs.Invariants.Restored.{IsRestored}
use Rattle.xa_model.specs.ListedLaw.{IsListed, HasCompleted, CallsPrepare}

-- in a history from this state: after a commit, a rollback or a forget that was answered XA_OK, recovery doesn't list
-- the XID, until a prepare of it is called, whatever else is asked, decided, restarted and opened again
abbrev pub UnlistedUntilPrepared : State → Type 0
UnlistedUntilPrepared first =
    (last : State) (before later : List Entry) (completion : Entry) (xid : Triple)
    → HaveHappened (before ++ completion ∷ later)
    → Leads first (before ++ completion ∷ later) last → HasCompleted xid completion
    → AllByRecursion (λ e. CallsPrepare xid e → ⊥) later
    → IsListed xid last → ⊥

abbrev pub AlwaysUnlisted : Type 0
AlwaysUnlisted = (first : State) → IsRecoverable first → UnlistedUntilPrepared first

-- the same from each restart and each opening on
abbrev pub UnlistedSinceBoot : Type 0
UnlistedSinceBoot = (d : Durable) (next : ℕ) (first : State) → IsRestored d next first → UnlistedUntilPrepared first
