use Rattle.std.specs.Prelude.{option_copied}
use Rattle.xa_branch.proofs.HangingUp.{hung_up_stands}
use Rattle.xa_branch.proofs.branches.Branches.hang_up.Goals as goal

pub returns-clause-follows : goal.returns-clause-follows
returns-clause-follows c = λ s n h own active st. hung_up_stands c.args.self.now _ _ s n c.args.own.now (option_copied c.args.active) h own active st c.leave_all.ensures c.take_all_due.ensures
