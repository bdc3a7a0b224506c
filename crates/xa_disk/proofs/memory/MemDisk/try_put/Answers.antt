use Rattle.std.proofs.Common.{rules}
use Rattle.xa_disk.proofs.memory.MemDisk.try_put.Goals as goal

pub returns-in-Ok-clause-done : goal.returns-in-Ok-clause-done
returns-in-Ok-clause-done c = search rules

pub returns-in-Err-clause-done : goal.returns-in-Err-clause-done
returns-in-Err-clause-done c = search rules
