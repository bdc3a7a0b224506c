use Rattle.std.proofs.Common.{◌≡◌, length}
use Rattle.xa_model.specs.State.{State}
use Rattle.xa_model.specs.Invariants.Sound.{IsSound}
use Rattle.xa_branch.specs.Branches.{BranchesStandFor}
use Rattle.xa_branch.specs.Room.{rooms_of}
use Rattle.xa_branch.proofs.RunningOut.{Ran}
use Rattle.xa_branch.proofs.branches.Branches.tick.Given as goal

abbrev pub invariant-loop-xid : goal.invariant-loop-xid
invariant-loop-xid l = record {
  ran : (s : State) → IsSound s → BranchesStandFor l.fn.self s → Ran l.moment l.self s l.number;
  rooms : rooms_of l.self ≡ rooms_of l.fn.self;
}

abbrev pub decreases-loop-xid : goal.decreases-loop-xid
decreases-loop-xid l = length l.self.due.keys
