use Rattle.std.proofs.Common.{rules}
use Rattle.xa_disk.proofs.memory.MemDiskDisk.read_at.Goals as goal

pub returns-clause-calls : goal.returns-clause-calls
returns-clause-calls c = search rules
