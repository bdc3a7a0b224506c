use Rattle.xa_disk.proofs.Time.{time_put}
use Rattle.xa_disk.proofs.Heeds.{heeds_put}
use Rattle.xa_disk.proofs.memory.MemDiskDisk.write_at.Goals as goal

pub returns-clause-time : goal.returns-clause-time
returns-clause-time c = time_put c.args.self.now c.begin-plan.new.self c.try_put-done.new.self c.end.new.self c.try_put-done.result c.args.at c.args.from.now c.begin-plan.ensures.same c.try_put-done.ensures.done c.end.ensures.kept

pub returns-clause-heeds : goal.returns-clause-heeds
returns-clause-heeds c =
    heeds_put c.args.self.now c.begin-plan.new.self c.try_put-done.new.self c.end.new.self c.args.at c.args.from.now c.begin-plan.result _ c.end.result c.try_put-done.result
    c.begin-plan.ensures.plan c.begin-plan.ensures.same c.try_put-done.ensures.done c.try_put-done.ensures.lost c.end.ensures.kept c.end.ensures.ok c.end.ensures.err
