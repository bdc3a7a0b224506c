-- What holds of a server by loops at each moment, before it ends and if it never does.
use Rattle.std.specs.Prelude.{ℕ, List}
use Rattle.xa_disk.specs.declared.disk.Disk as disk
use Rattle.xa_handles.specs.Believed.Shared.{HoldsAt}
use Rattle.xa_manager.specs.Believed.Opening.{HasBegun}
use Rattle.xa_manager.specs.declared.manager.Manager.{Manager}
use Rattle.xa_sequencer.specs.Believed.GroupManager.{GroupManager, alone, manages_of}
use Rattle.xa_sequencer.specs.Believed.Stands.{Numbered}
use Rattle.xa_server.specs.Believed.Serves.{KeepsServed}
use Rattle.xa_tokens.specs.Believed.Account.{Account}

-- Of a manager that was opened: what holds at a moment, by the share of a loop, keeps what a history does that was served to
-- its end. What the loop was told by then, and so each reply that it handed to a connection, is in that history.
abbrev pub MomentPromises : {D : Type 0} → disk.Ghosts D → Type 0
MomentPromises {D} disks =
    (manager : Manager D) (bodies : List (List ℕ)) (name : List ℕ) (log_bytes : ℕ)
    → HasBegun disks bodies name log_bytes manager
    → (base : ℕ × ℕ) (c : Numbered (GroupManager (Manager D))) (a : Account)
    → HoldsAt (manages_of disks) ((manages_of disks).stands (alone manager)) base c a
    → KeepsServed (manages_of disks) (alone manager) c.count
