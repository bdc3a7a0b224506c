use Rattle.xa_branch.proofs.Picked.{IsPicked, prepared_part}
use Rattle.xa_branch.proofs.branches.Branches.in_doubt.Given as goal

abbrev pub invariant-loop-xid : goal.invariant-loop-xid
invariant-loop-xid l = IsPicked prepared_part l.self.lasting.entries l.xid-iterator l.times
