use Rattle.std.proofs.Common.{◌≡◌, ◌-◌, ◌++◌}
use Rattle.std.specs.Prelude.{map, take, option_copied}
use Rattle.std.specs.Option.{option_to_list}
use Rattle.xa_branch.specs.Told.{told_working, told_lasting}
use Rattle.xa_branch.proofs.KnownLists.{all_after}
use Rattle.xa_branch.proofs.Merging.{merge}
use Rattle.xa_branch.proofs.branches.Branches.known_after.Given as goal

abbrev pub invariant-loop : goal.invariant-loop
invariant-loop l =
    l.known.items ++ take (l.count - l.counter) (merge (option_to_list l.one ++ map told_working l.working) (option_to_list l.other ++ map told_lasting l.lasting))
    ≡ take l.count (all_after (option_copied l.after) l.self)
