use Rattle.std.proofs.Common.{arith}
use Rattle.std.proofs.lemmas.List.{length-take}
use Rattle.xa_log.proofs.Tried.{fell_by, some_zeros, time_still, time_then, went_refused, went_lost}
use Rattle.xa_log.proofs.appending.settle_at.Goals as goal

pub returns-in-Ok-put_synced-clause-went : goal.returns-in-Ok-put_synced-clause-went
returns-in-Ok-put_synced-clause-went g c h before few all same less left =
    went_refused g.D.Disk g.met.D.Disk.tears_torn c.args.at few all _ before c.synced_by.new.disk c.put_synced.new.disk less
    (some_zeros c.args.len few c.clear.new.buffer same c.clear.ensures)
    (fell_by g.D.Disk c.args.write c.args.at few all before c.args.disk.now c.synced_by.new.disk (c.synced_by.ensures.same h) left)
    (c.in-Ok-put_synced.ensures.written h) (c.in-Ok-put_synced.ensures.durable h)

pub returns-in-Err-put_synced-clause-went : goal.returns-in-Err-put_synced-clause-went
returns-in-Err-put_synced-clause-went g c h before few all same less left =
    went_lost g.D.Disk g.met.D.Disk.tears_torn c.args.at few all _ before c.synced_by.new.disk c.put_synced.new.disk less
    (some_zeros c.args.len few c.clear.new.buffer same c.clear.ensures)
    (fell_by g.D.Disk c.args.write c.args.at few all before c.args.disk.now c.synced_by.new.disk (c.synced_by.ensures.same h) left)
    (c.in-Err-put_synced.ensures.fell h)

pub returns-in-Err-put_synced-clause-time : goal.returns-in-Err-put_synced-clause-time
returns-in-Err-put_synced-clause-time g c h before n le time =
    time_then g.D.Disk c.args.at n _ before c.synced_by.new.disk c.put_synced.new.disk (omega (arith, le, length-take c.args.len c.clear.new.buffer))
    (time_still g.D.Disk c.args.at n before c.args.disk.now c.synced_by.new.disk time (c.synced_by.ensures.time h)) (c.put_synced.ensures.time h)
