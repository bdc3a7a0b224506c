use Rattle.std.proofs.Common.{arith, length}
use Rattle.std.proofs.lemmas.List.{take_all}
use Rattle.xa_log.proofs.Tried.{went_alone, calls_alone}
use Rattle.xa_log.proofs.appending.put_or_clear.Goals as goal

pub returns-clause-went : goal.returns-clause-went
returns-clause-went g c h =
    went_alone g.D.Disk c.args.at _ c.args.bytes.now c.args.disk.now c.put_ahead_or_clear.new.disk (take_all (length c.args.bytes.now) c.args.bytes.now (omega arith)) _
    (c.put_ahead_or_clear.ensures.went h)

pub returns-clause-cause : goal.returns-clause-cause
returns-clause-cause g c = (calls_alone _ _ _ _ _ _ (omega arith) c.put_ahead_or_clear.ensures.calls).0

pub returns-clause-calls : goal.returns-clause-calls
returns-clause-calls g c = (calls_alone _ _ _ _ _ _ (omega arith) c.put_ahead_or_clear.ensures.calls).1
