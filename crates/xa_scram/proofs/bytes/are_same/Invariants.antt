use Rattle.std.proofs.Common.{◌≡◌, ◌↔◌, ℕ, ◌<◌, get_or}
use Rattle.xa_scram.proofs.bytes.are_same.Given as goal

abbrev pub invariant-loop-i : goal.invariant-loop-i
invariant-loop-i l = (l.differing ≡ 0) ↔ ((k : ℕ) → k < l.i → get_or l.left k 0 ≡ get_or l.right k 0)
