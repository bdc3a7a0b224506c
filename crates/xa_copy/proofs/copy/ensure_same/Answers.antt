use Rattle.std.proofs.Common.{◌∙◌, sym}
use Rattle.xa_copy.proofs.Finishing.{life_by}
use Rattle.xa_copy.proofs.copy.ensure_same.Goals as goal

pub returns-in-Some-clause-same : goal.returns-in-Some-clause-same
returns-in-Some-clause-same g c h begin tells heads =
    let now = g.S.Source.state c.head_of.new.source in
    sym (life_by now c.in-Some.now (c.in_ok-now.ensures.tells h) (rw c.in-Some.is at (c.in_ok-now.ensures.head h)))
    ∙ c.if-branch-head.true ∙ life_by begin c.args.head.now tells heads
