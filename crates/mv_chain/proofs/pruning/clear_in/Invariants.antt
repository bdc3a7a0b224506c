use Rattle.std.proofs.Common.{◌≡◌, length}
use Rattle.mv_chain.specs.Pool.{IsHeld, CountsAt, LeavesOthersAt}
use Rattle.mv_chain.specs.Within.{KeepsWithin}
use Rattle.mv_chain.proofs.pruning.clear_in.Given as goal

abbrev pub invariant-loop-left : goal.invariant-loop-left
invariant-loop-left l = record {
  left : l.left ≡ length l.slots.items;
  others : LeavesOthersAt l.fn.pool l.fn.slots.items l.pool l.slots.items;
  values : KeepsWithin l.fn.pool l.pool;
  held : IsHeld l.fn.pool l.fn.slots.items → IsHeld l.pool l.slots.items;
  count : IsHeld l.fn.pool l.fn.slots.items → CountsAt l.fn.pool l.fn.slots.items l.pool l.slots.items;
}

abbrev pub decreases-loop-left : goal.decreases-loop-left
decreases-loop-left l = l.left
