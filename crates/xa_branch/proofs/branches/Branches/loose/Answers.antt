use Rattle.std.proofs.Common.{sym}
use Rattle.xa_branch.proofs.Knowing.{loose_at, no_loose}
use Rattle.xa_branch.proofs.branches.Branches.loose.Goals as goal

pub returns-in-None : goal.returns-in-None
returns-in-None c = λ s h st. sym (no_loose c.args.self.now s c.args.xid.now h st (sym c.in-None.ensures))

pub returns-in-Some : goal.returns-in-Some
returns-in-Some c = λ s h st. loose_at c.args.self.now s c.args.xid.now c.in-Some.working st (sym c.in-Some.ensures)
