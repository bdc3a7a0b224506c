use Rattle.std.proofs.Common.{length, take}
use Rattle.std.proofs.lemmas.List.{length-take-le}
use Rattle.xa_log.proofs.Tried.{left_by, shorter}
use Rattle.xa_log.proofs.appending.put_ahead_or_clear.Goals as goal

pub returns-clause-went : goal.returns-clause-went
returns-clause-went g c h =
    c.settle_at.ensures.went h c.args.disk.now (take c.args.len c.args.bytes.now) c.args.bytes.now
    (length-take-le c.args.len c.args.bytes.now c.requires.within) (shorter c.args.len c.args.bytes.now c.args.bytes.now c.requires.within)
    (left_by g.D.Disk _ c.args.at _ _ c.args.disk.now c.write_ahead-write.new.disk (c.write_ahead-write.ensures.written h) (c.write_ahead-write.ensures.fell h))

pub returns-clause-time : goal.returns-clause-time
returns-clause-time g c h = c.settle_at.ensures.time h c.args.disk.now (length c.args.bytes.now) c.requires.within (c.write_ahead-write.ensures.time h)

pub returns-clause-calls : goal.returns-clause-calls
returns-clause-calls g c = c.settle_at.ensures.calls c.args.disk.now _ c.write_ahead-write.ensures.calls
