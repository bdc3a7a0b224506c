use Rattle.std.proofs.Common.{take}
use Rattle.std.specs.List.{AllByRecursion as Each}
use Rattle.mv_ranges.specs.Marks.{IsApart, IsAscending, KeepsBoundaries, SameMarks}
use Rattle.mv_ranges.proofs.ranges.Ranges.part_all.Given as goal

abbrev pub invariant-loop-key : goal.invariant-loop-key
invariant-loop-key l = record {
  same : SameMarks l.fn.self.marks l.self.marks;
  kept : KeepsBoundaries l.fn.self.marks l.self.marks;
  ascending : IsAscending l.fn.self.marks → IsAscending l.self.marks;
  apart : Each (λ k. IsApart l.self.marks k.items) (take l.key-index l.keys);
}
