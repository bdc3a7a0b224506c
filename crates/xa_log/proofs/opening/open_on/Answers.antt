use Rattle.std.proofs.Common.{◌∙◌}
use Rattle.xa_log.proofs.Looks.{handed_on}
use Rattle.xa_log.proofs.Leaves.{current_left}
use Rattle.xa_log.proofs.Opens.{current_logged, opened_leaves}
use Rattle.xa_log.proofs.opening.open_on.Goals as goal

pub returns-clause-logged : goal.returns-clause-logged
returns-clause-logged g c h = current_logged _ _ _ _ (c.in_ok-on_first.ensures.value h).1

pub returns-clause-left : goal.returns-clause-left
returns-clause-left g c h = current_left _ _ _ _ (c.in_ok-on_first.ensures.value h).1

pub returns-clause-leaves : goal.returns-clause-leaves
returns-clause-leaves g c h x y left left_second =
    let read = c.in_ok-on_first.ensures in
    opened_leaves c.args.log_bytes _ _ _ x y (read.durable h x left ∙ read.same h) (read.durable_second h y left_second ∙ read.same_second h) (read.value h).0 (current_logged _ _ _ _ (read.value h).1)

pub returns-clause-end : goal.returns-clause-end
returns-clause-end g c = c.in_ok-on_first.ensures.end

pub returns-in_err-on_first-clause-value : goal.returns-in_err-on_first-clause-value
returns-in_err-on_first-clause-value g c h = handed_on _ _ c.from_residual-in_err-on_first.result _ c.from_residual-in_err-on_first.ensures (c.in_err-on_first.ensures.value h)

pub returns-in_err-on_first-clause-count : goal.returns-in_err-on_first-clause-count
returns-in_err-on_first-clause-count g c = handed_on _ _ c.from_residual-in_err-on_first.result _ c.from_residual-in_err-on_first.ensures c.in_err-on_first.ensures.count

pub returns-in_err-on_first-clause-calls : goal.returns-in_err-on_first-clause-calls
returns-in_err-on_first-clause-calls g c = handed_on _ _ c.from_residual-in_err-on_first.result _ c.from_residual-in_err-on_first.ensures c.in_err-on_first.ensures.calls

pub returns-in_err-on_first-clause-calls_second : goal.returns-in_err-on_first-clause-calls_second
returns-in_err-on_first-clause-calls_second g c = handed_on _ _ c.from_residual-in_err-on_first.result _ c.from_residual-in_err-on_first.ensures c.in_err-on_first.ensures.calls_second

pub returns-in_err-on_first-clause-calls_once : goal.returns-in_err-on_first-clause-calls_once
returns-in_err-on_first-clause-calls_once g c h = handed_on _ _ c.from_residual-in_err-on_first.result _ c.from_residual-in_err-on_first.ensures (c.in_err-on_first.ensures.calls_once h)

pub returns-in_err-on_first-clause-calls_once_second : goal.returns-in_err-on_first-clause-calls_once_second
returns-in_err-on_first-clause-calls_once_second g c h = handed_on _ _ c.from_residual-in_err-on_first.result _ c.from_residual-in_err-on_first.ensures (c.in_err-on_first.ensures.calls_once_second h)
