use Rattle.xa_branch.proofs.Behind.{TakesRest}
use Rattle.xa_branch.proofs.due.take_all_due.Given as goal

abbrev pub invariant-loop-xid : goal.invariant-loop-xid
invariant-loop-xid l = TakesRest l.working l.fn.due l.own l.xid-iterator l.due
