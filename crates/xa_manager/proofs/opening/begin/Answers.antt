use Rattle.xa_manager.proofs.opening.begin.Goals as goal

pub returns-in-Err-clause-leaves : goal.returns-in-Err-clause-leaves
returns-in-Err-clause-leaves g c =
    (c.begin_on.new.log, c.in-Err.ensures.leaves, λ i. (c.into_disks-first.ensures i).0, λ i. (c.into_disks-first.ensures i).1)
