use Rattle.std.proofs.Common.{length}
use Rattle.mv_ranges.specs.Marks.{SameAbove}
use Rattle.mv_ranges.proofs.ranges.Ranges.low_water.Given as goal

abbrev pub invariant-loop-noted : goal.invariant-loop-noted
invariant-loop-noted l = SameAbove l.low l.fn.self.marks l.self.marks

abbrev pub decreases-loop-noted : goal.decreases-loop-noted
decreases-loop-noted l = length l.self.notes.entries
