use Rattle.std.proofs.Common.{◌≡◌, map, option_copied}
use Rattle.std.specs.BTreeMap.{values}
use Rattle.xa_recovery.specs.Listing.{with_all_above}
use Rattle.xa_recovery.proofs.listing.add_prepared.Given as goal

abbrev pub invariant-loop-branch : goal.invariant-loop-branch
invariant-loop-branch l =
    with_all_above (option_copied l.after) l.above.keys (map (λ b. b.xid) l.branch-iterator)
    ≡ with_all_above (option_copied l.after) l.fn.above.keys (map (λ b. b.xid) (values l.prepared))
