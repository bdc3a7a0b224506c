use Rattle.xa_log.specs.Calls.{MOST_BRIEF}
use Rattle.xa_log.proofs.Fetch.{on_fault, head_within}
use Rattle.xa_log.proofs.heads.read_heads.Goals as goal

pub returns-in_err-other_head-clause-fetched : goal.returns-in_err-other_head-clause-fetched
returns-in_err-other_head-clause-fetched g c begin f =
    on_fault _ _ c.from_residual-in_err-other_head.result c.from_residual-in_err-other_head.ensures.0 (head_within c.args.lens.0 MOST_BRIEF begin _ c.in_ok-head.head (c.in_ok-head.ensures.fetched begin f))
