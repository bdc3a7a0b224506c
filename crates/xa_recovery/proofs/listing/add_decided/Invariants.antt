use Rattle.std.proofs.Common.{◌≡◌, option_copied}
use Rattle.std.specs.BTreeMap.{keys}
use Rattle.xa_recovery.specs.Listing.{with_all_above}
use Rattle.xa_recovery.proofs.listing.add_decided.Given as goal

abbrev pub invariant-loop-xid : goal.invariant-loop-xid
invariant-loop-xid l =
    with_all_above (option_copied l.after) l.above.keys l.xid-iterator
    ≡ with_all_above (option_copied l.after) l.fn.above.keys (keys l.decided)
