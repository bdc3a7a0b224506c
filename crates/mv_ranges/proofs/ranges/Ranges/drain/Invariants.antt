use Rattle.std.proofs.Common.{◌≡◌}
use Rattle.mv_ranges.specs.Marks.{SameAbove}
use Rattle.mv_ranges.proofs.ranges.Ranges.drain.Given as goal

abbrev pub invariant-loop-boundary : goal.invariant-loop-boundary
invariant-loop-boundary l = record {
  same : SameAbove l.low l.fn.self.marks l.self.marks;
  notes : l.self.notes ≡ l.fn.self.notes;
}
