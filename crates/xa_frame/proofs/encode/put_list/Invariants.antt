use Rattle.std.proofs.Common.{◌≡◌, ◌++◌, take, All}
use Rattle.std.specs.Prelude.{flat_map}
use Rattle.xa_frame.proofs.encode.put_list.Given as goal

abbrev pub invariant-loop-item : goal.invariant-loop-item
invariant-loop-item g l = record {
  bytes : l.out.items ≡ l.initial.out.items ++ flat_map g.T.Listed.spell (take l.item-index l.list);
  holds : All g.T.Listed.fits (take l.item-index l.list);
}
