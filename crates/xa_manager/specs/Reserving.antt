-- Room for long records in a log's buffer.
use Rattle.std.specs.Prelude.{◌≡◌}
use Rattle.xa_disk.specs.declared.disk.Disk.{Ghosts}
use Rattle.xa_log.specs.Believed.LogStates.{KeepsAll}
use Rattle.xa_log.specs.Believed.Stands.{Untouched}
use Rattle.xa_log.specs.Believed.LogView.{LogView}

-- The log's buffer may have grown, and nothing else changed.
pub record HasReserved {D : Type 0} (disks : Ghosts D) (old new : LogView D) : Type 0 where
  pub files : (new.disk ≡ old.disk) × (new.other ≡ old.other)
  pub fields : Untouched old new
  pub keeps : KeepsAll disks old new
