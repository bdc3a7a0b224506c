use Rattle.std.proofs.Common.{option_copied}
use Rattle.xa_branch.proofs.Behind.{LeavesRest}
use Rattle.xa_branch.proofs.changes.leave_all.Given as goal

abbrev pub invariant-loop-xid : goal.invariant-loop-xid
invariant-loop-xid l = LeavesRest l.fn.working l.own (option_copied l.active) l.xid-iterator l.working
