use Rattle.xa_branch.proofs.Picked.{IsPicked, completed_part}
use Rattle.xa_branch.proofs.branches.Branches.decided.Given as goal

abbrev pub invariant-loop-xid : goal.invariant-loop-xid
invariant-loop-xid l = IsPicked completed_part l.self.lasting.entries l.xid-iterator l.decided
