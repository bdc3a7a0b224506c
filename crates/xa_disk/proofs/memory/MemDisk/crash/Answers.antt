use Rattle.xa_disk.proofs.Keeping.{crashed}
use Rattle.xa_disk.proofs.memory.MemDisk.crash.Goals as goal

pub returns-clause-ok : goal.returns-clause-ok
returns-clause-ok c = crashed c.crash_keeping.result c.args.self.now c.crash_keeping.new.self c.crash_keeping.ensures.ok
