use Rattle.mv_ranges.proofs.Boundaries.{over_found, over_none}
use Rattle.mv_ranges.proofs.marks.over.Goals as goal

pub returns-in-Some-clause-mark : goal.returns-in-Some-clause-mark
returns-in-Some-clause-mark c = over_found c.args.key.now c.args.marks.now.entries c.range.result _ _ c.range.ensures.ordered (c.range.ensures.between tt) c.in-Some.ensures.steps

pub returns-in-None-clause-mark : goal.returns-in-None-clause-mark
returns-in-None-clause-mark c = over_none c.args.key.now c.args.marks.now.entries c.range.result c.range.ensures.ordered (c.range.ensures.between tt) c.in-None.ensures.steps.0
