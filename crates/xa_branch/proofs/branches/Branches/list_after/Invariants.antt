use Rattle.std.proofs.Common.{◌≡◌, ◌++◌}
use Rattle.std.specs.Prelude.{take, option_copied}
use Rattle.std.specs.Map.{keys_of}
use Rattle.xa_branch.proofs.Listing.{above}
use Rattle.xa_branch.proofs.branches.Branches.list_after.Given as goal

abbrev pub invariant-loop-xid : goal.invariant-loop-xid
invariant-loop-xid l = l.listed.items ++ take l.xid-iterator.n (keys_of l.xid-iterator.iter) ≡ take l.count (above (option_copied l.after) l.self.lasting)
