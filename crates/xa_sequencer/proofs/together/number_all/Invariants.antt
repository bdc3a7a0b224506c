use Rattle.std.proofs.Common.{◌≡◌, ◌+◌}
use Rattle.xa_sequencer.proofs.Placing.{PlacedTo}
use Rattle.xa_sequencer.proofs.together.number_all.Given as goal

abbrev pub invariant-loop-told : goal.invariant-loop-told
invariant-loop-told l = record {
  placed : PlacedTo l.fn.count l.told-index l.fn.replies l.replies;
  last : l.last ≡ l.fn.count + l.told-index;
}
