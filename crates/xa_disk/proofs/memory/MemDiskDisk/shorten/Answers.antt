use Rattle.xa_disk.proofs.Time.{time_uncut}
use Rattle.xa_disk.proofs.memory.MemDiskDisk.shorten.Goals as goal

pub returns-clause-time : goal.returns-clause-time
returns-clause-time c = time_uncut c.args.to c.args.self.now
