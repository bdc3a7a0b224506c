use Rattle.std.proofs.Common.{◌≡◌, map, not}
use Rattle.std.specs.Map.Iter.{deref_pair}
use Rattle.mv_ranges.specs.Ranges.{is_one}
use Rattle.mv_ranges.specs.Marks.{lower_keys}
use Rattle.mv_ranges.proofs.marks.copies.Given as goal

abbrev pub invariant-loop-key : goal.invariant-loop-key
invariant-loop-key l = map (λ k. k.items) l.keys.items ≡ lower_keys (λ k. not (is_one k (map (λ x. x.items) l.but))) l.reader (map deref_pair l.yielded)
