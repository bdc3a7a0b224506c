use Rattle.std.proofs.Common.{rules}
use Rattle.xa_disk.proofs.memory.MemDisk.end.Goals as goal

pub returns-clause-count : goal.returns-clause-count
returns-clause-count c = search rules
