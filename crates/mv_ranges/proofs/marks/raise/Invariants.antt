use Rattle.std.proofs.Common.{◌≡◌, take}
use Rattle.mv_ranges.specs.Marks.{raised_each}
use Rattle.mv_ranges.proofs.marks.raise.Given as goal

abbrev pub invariant-loop-key : goal.invariant-loop-key
invariant-loop-key l = l.marks.entries ≡ raised_each l.reader (take l.key-index l.keys) l.fn.marks.entries
