use Rattle.std.proofs.Common.{sym, ◌∙◌}
use Rattle.xa_branch.proofs.Knowing.{associated_is, unassociated}
use Rattle.xa_branch.proofs.branches.Branches.is_associated.Goals as goal

pub returns-in-None : goal.returns-in-None
returns-in-None c = λ s h st. sym (unassociated c.args.self.now s c.args.xid.now h st (sym c.in-None.ensures))

pub returns-in-Some : goal.returns-in-Some
returns-in-Some c = λ s h st. c.is_associated.ensures ∙ sym (associated_is c.args.self.now s c.args.xid.now c.in-Some.working st (sym c.in-Some.ensures))
