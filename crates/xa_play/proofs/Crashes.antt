-- What a crash left of two disks is opened.
use Rattle.std.proofs.Common.{ℕ, List, IfOk, Result, Ok, Err}
use Rattle.xa_disk.specs.declared.memory.MemDisk.{MemDisk}
use Rattle.xa_manager.specs.declared.manager.Manager.{Manager}
use Rattle.xa_manager.specs.Believed.Parts.{log_of}
use Rattle.xa_play.specs.Disks.{CrashesTo, OpenedOn, seen}
use Rattle.xa_play.specs.Played.{Crashed}
use Rattle.xa_play.specs.declared.fault.PlayFault.{PlayFault}
use Rattle.xa_script.specs.declared.log_file.LogFile.{LogFile}

pub crashed : (name : List ℕ) (n : ℕ) (file : LogFile) (keeps : ℕ) (m : Manager MemDisk) (r : Result (Manager MemDisk) PlayFault) (disks : MemDisk × MemDisk)
    → CrashesTo file keeps (log_of m) disks → IfOk r (OpenedOn name n (seen disks.0) (seen disks.1)) → IfOk r (Crashed name n file keeps m)
crashed name n file keeps m (Err fault) disks left h = tt
crashed name n file keeps m (Ok m') disks left h = (disks, left, h)
