use Rattle.xa_disk.proofs.Time.{time_sync, durable_at}
use Rattle.xa_disk.proofs.Heeds.{heeds_sync}
use Rattle.xa_disk.proofs.memory.MemDiskDisk.sync.Goals as goal

pub returns-clause-time : goal.returns-clause-time
returns-clause-time c = time_sync c.args.self.now c.begin-plan.new.self c.try_sync-done.new.self c.end.new.self c.try_sync-done.result c.begin-plan.ensures.same c.try_sync-done.ensures.done c.end.ensures.kept

pub returns-clause-durable : goal.returns-clause-durable
returns-clause-durable c = durable_at _ c.end.result c.try_sync-done.result c.args.self.now c.begin-plan.new.self c.try_sync-done.new.self c.end.new.self c.end.ensures.ok c.begin-plan.ensures.same c.try_sync-done.ensures.done c.end.ensures.kept

pub returns-clause-heeds : goal.returns-clause-heeds
returns-clause-heeds c =
    heeds_sync c.args.self.now c.begin-plan.new.self c.try_sync-done.new.self c.end.new.self c.begin-plan.result _ c.end.result c.try_sync-done.result
    c.begin-plan.ensures.plan c.begin-plan.ensures.same c.try_sync-done.ensures.done c.try_sync-done.ensures.lost c.end.ensures.kept c.end.ensures.ok c.end.ensures.err
