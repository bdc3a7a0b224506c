use Rattle.std.proofs.Common.{◌≡◌, take}
use Rattle.xa_operate.proofs.listed.copied.Given as goal

abbrev pub invariant-loop-branch : goal.invariant-loop-branch
invariant-loop-branch l = l.copies.items ≡ take l.branch-index l.branches
