use Rattle.xa_copy.proofs.Following.{goes_on, goes_stay}
use Rattle.xa_copy.proofs.Finishing.{copies_since}
use Rattle.xa_copy.proofs.copy.copy_log.Goals as goal

pub tries-init : goal.tries-init
tries-init g c = record { first = λ h. goes_stay (g.S.Source.state c.args.first.now); second = λ h. goes_stay (g.S.Source.state c.args.second.now) }

pub tries-preserved : goal.tries-preserved
tries-preserved g c =
    let was = c.tries.invariant in
    record {
      first = λ h. goes_on (g.S.Source.state c.args.first.now) (g.S.Source.state c.tries.first) (g.S.Source.state c.copy_once.new.first) (was.first h) (c.copy_once.ensures.goes h);
      second = λ h. goes_on (g.S.Source.state c.args.second.now) (g.S.Source.state c.tries.second) (g.S.Source.state c.copy_once.new.second) (was.second h) (c.copy_once.ensures.goes_second h);
    }

pub returns-in-Ok-clause-copies : goal.returns-in-Ok-clause-copies
returns-in-Ok-clause-copies g c h k =
    copies_since c.args.log_bytes (g.S.Source.state c.args.first.now) (g.S.Source.state c.copy_once.new.first) (g.S.Source.state c.args.second.now) (g.S.Source.state c.copy_once.new.second)
    (g.S.Source.state c.tries.first) (g.S.Source.state c.tries.second) (g.D.Disk.seen c.copy_once.new.to) (g.D.Disk.seen c.copy_once.new.to_second) c.in-Ok.copied
    (c.tries.invariant.first h) (c.tries.invariant.second h) (c.in-Ok.ensures.copies h k)
