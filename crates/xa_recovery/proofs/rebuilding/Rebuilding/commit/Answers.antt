use Rattle.xa_recovery.proofs.Standing.{commit_stands}
use Rattle.xa_recovery.proofs.rebuilding.Rebuilding.commit.Goals as goal

pub returns : goal.returns
returns c = λ x read st fresh. commit_stands c.args.self.now x c.args.timestamp c.args.writes c.insert-2.new.self c.insert.new.self read st fresh c.in_ok-insert-2.ensures.entries c.in_ok-insert.ensures.updates.0
