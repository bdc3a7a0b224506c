use Rattle.xa_recovery.proofs.Standing.{decide_stands}
use Rattle.xa_recovery.proofs.rebuilding.Rebuilding.decide.Goals as goal

pub returns : goal.returns
returns c = λ x st undecided. decide_stands c.args.self.now x c.args.xid c.args.direction c.insert.new.self st undecided c.in_ok-insert.ensures.entries
