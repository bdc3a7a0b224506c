use Rattle.xa_operate.proofs.Pieces.{behind, further}
use Rattle.xa_operate.proofs.metrics.push_log_metrics.Goals as goal

pub returns : goal.returns
returns c =
    let both = further c.args.text.now.items _ _ _ _ c.in_ok-push_metric.ensures c.in_ok-push_metric-2.ensures in
    behind c.push_metric-3.result c.args.text.now.items _ _ _ _ both c.push_metric-3.ensures
