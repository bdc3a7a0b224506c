use Rattle.std.proofs.Common.{◌≡◌, false, take}
use Rattle.std.specs.Prelude.{bytes_eq}
use Rattle.std.specs.List.{list_any}
use Rattle.mv_ranges.proofs.marks.is_one.Given as goal

abbrev pub invariant-loop-one : goal.invariant-loop-one
invariant-loop-one l = list_any (λ k. bytes_eq k.items l.key.items) (take l.one-index l.keys) ≡ false
