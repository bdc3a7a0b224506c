use Rattle.std.proofs.Common.{◌≡◌, ◌-◌, ◌++◌, take}
use Rattle.xa_recovery.proofs.listing.first.Given as goal

abbrev pub invariant-loop-number : goal.invariant-loop-number
invariant-loop-number l = l.taken.items ++ take (l.count - l._number) l.above.keys ≡ take l.count l.fn.above.keys
