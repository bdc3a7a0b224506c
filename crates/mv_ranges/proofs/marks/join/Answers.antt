use Rattle.std.proofs.Common.{◌≡◌, ◌∙◌, ap, sym, arith, rules}
use Rattle.std.specs.Prelude.{max, Some}
use Rattle.std.specs.BTreeMap.{is_at}
use Rattle.std.specs.Map.{lookup}
use Rattle.mv_ranges.specs.Ranges.{last_mark}
use Rattle.mv_ranges.specs.Marks.{mark_below}
use Rattle.mv_ranges.proofs.Boundaries.{mark_dropped, query}
use Rattle.mv_ranges.proofs.marks.join.Goals as goal
use Rattle.mv_ranges.proofs.marks.join.Goals.{then-mark-before-via-then-mark-before, then-mark-before-via-else-mark-before+then-before-low, then-mark-low, else-mark-low}

-- the mark and the one before it are alike above the low water
alike : (c : goal.After-remove) → max c.args.low c.below-before.result ≡ max c.args.low c.in-Some.mark.now
alike c =
    elim c.then-mark-before.branch [
      | then-mark-before-via-then-mark-before w ↦ let e : c.in-Some.mark.now ≡ c.below-before.result = w.if-mark-before.true in omega arith
      | then-mark-before-via-else-mark-before+then-before-low w ↦ elim w.if-mark-low.branch [ then-mark-low w' ↦ omega arith | else-mark-low w' ↦ search rules ]
    ]

pub returns-then-mark-before : goal.returns-then-mark-before
returns-then-mark-before c =
    λ q.
    let found : lookup (is_at (query c.args.key.now.items)) c.args.marks.now.entries ≡ Some c.in-Some.mark.now = search rules in
    let marks : max c.args.low (mark_below c.args.key.now.items c.args.marks.now) ≡ max c.args.low c.in-Some.mark.now = ap (max c.args.low) (sym c.below-before.ensures.mark) ∙ alike c in
    ap (λ x. max c.args.low (last_mark 0 q x)) c.remove.ensures.entries ∙ mark_dropped c.args.low 0 c.in-Some.mark.now q c.args.key.now c.args.marks.now.entries c.below-before.ensures.ascending found marks
