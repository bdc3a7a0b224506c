-- What a contract sees of a room, of which history its receipts are, and what it is as a manager.
use Rattle.std.specs.Prelude.{◌≡◌, ℕ, List, map}
use Rattle.xa_model.specs.Events.{HaveHappened}
use Rattle.xa_model.specs.History.{Leads}
use Rattle.xa_model.specs.State.{State}
use Rattle.xa_history.specs.Believed.Book.{AreNumbered, plain_entries, receipt_of}
use Rattle.xa_history.specs.declared.entry.Entry.{Entry}
use Rattle.xa_history.specs.Believed.Manages.{Behaviour}
use Rattle.xa_history.specs.declared.receipt.Receipt.{Receipt}
use Rattle.xa_sequencer.specs.Believed.GroupManager.{GroupManager}

-- its manager, the receipts of the events that this answered, and how many of them found no memory
pub record Recorded (M : Type 0) : Type 0 where
  pub manager : M
  pub kept : List Receipt
  pub lost : ℕ

-- The receipts are those of a legal history, from a state where histories begin to this one. The outcomes of its entries
-- are in the proof alone.
pub record IsReached (start : State → Type 0) (kept : List Receipt) (s : State) : Type 0 where
  pub from : State
  pub begins : start from
  pub entries : List Entry
  pub receipts : map receipt_of entries ≡ kept
  pub numbered : AreNumbered 0 entries
  pub happened : HaveHappened (plain_entries entries)
  pub leads : Leads from (plain_entries entries) s

-- the room's manager, with the group that is pending
abbrev pub inner : {M : Type 0} → GroupManager (Recorded M) → GroupManager M
inner g = record { manager = g.manager.manager; pending = g.pending }

-- A room is what its manager is. If no receipt found no memory, a state that it stands for is one that they lead to.
abbrev pub recorded : {M : Type 0} → Behaviour (GroupManager M) → (State → Type 0) → Behaviour (GroupManager (Recorded M))
recorded m start = record {
  stands = λ g s. m.stands (inner g) s × (g.manager.lost ≡ 0 → IsReached start g.manager.kept s);
  trusts = m.trusts;
  told = λ g. m.told (inner g);
  has_called = λ event outcome old new. m.has_called event outcome (inner old) (inner new);
  crashes = λ event outcome old new. m.crashes event outcome (inner old) (inner new);
  crashes_together = λ events old new. m.crashes_together events (inner old) (inner new);
  failures = λ g. m.failures (inner g);
  has_session = λ g n. m.has_session (inner g) n;
  sessions = λ g. m.sessions (inner g);
  versions = λ g. m.versions (inner g);
}
