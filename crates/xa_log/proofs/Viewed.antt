-- What is said of a log's fields is said of the log that they show.
use Rattle.std.proofs.Common.{◌≡◌, ℕ, List, sym, subst}
use Rattle.xa_disk.specs.declared.disk.Disk.{Ghosts}
use Rattle.xa_disk.specs.Time.{LeavesOnly}
use Rattle.xa_log.specs.Believed.Chain.{newest}
use Rattle.xa_log.specs.Believed.Checkpoint.{LeavesAny}
use Rattle.xa_log.specs.Believed.LogStates.{KeepsAll, LooksTo}
use Rattle.xa_log.specs.Believed.LogView.{LogView}
use Rattle.xa_log.specs.Written.{HasWritten}
use Rattle.xa_log.specs.declared.written.Written.{Written}

-- and the other way round
pub of_fields : {D : Type 0} {shown log : LogView D} (P : LogView D → Type 0) → shown ≡ log → P log → P shown
of_fields P is p = subst P (sym is) p

pub keeps_seen : {D : Type 0} {disks : Ghosts D} {shown log new : LogView D} → shown ≡ log → KeepsAll disks shown new → KeepsAll disks log new
keeps_seen {D} {disks} {shown} {log} {new} is p = subst (λ l. KeepsAll disks l new) is p

pub looks_seen : {D : Type 0} {disks : Ghosts D} {shown log new : LogView D} → shown ≡ log → LooksTo disks shown new → LooksTo disks log new
looks_seen {D} {disks} {shown} {log} {new} is p = subst (λ l. LooksTo disks l new) is p

pub looks_from : {D : Type 0} {disks : Ghosts D} {shown log new : LogView D} → shown ≡ log → LooksTo disks log new → LooksTo disks shown new
looks_from {D} {disks} {shown} {log} {new} is p = subst (λ l. LooksTo disks l new) (sym is) p

pub written_seen : {D : Type 0} {disks : Ghosts D} {group : List (List ℕ)} {w : Written} {shown log new : LogView D} → shown ≡ log
    → HasWritten disks group w shown new → HasWritten disks group w log new
written_seen {D} {disks} {group} {w} {shown} {log} {new} is p = subst (λ l. HasWritten disks group w l new) is p

pub moments_seen : {D : Type 0} {disks : Ghosts D} {stood fresh : List (List ℕ)} {shown log : LogView D} {now : D} → shown ≡ log
    → LeavesOnly disks shown.other now (LeavesAny shown.log_bytes newest stood fresh) → LeavesOnly disks log.other now (LeavesAny log.log_bytes newest stood fresh)
moments_seen {D} {disks} {stood} {fresh} {shown} {log} {now} is p = subst (λ l. LeavesOnly disks l.other now (LeavesAny l.log_bytes newest stood fresh)) is p
