use Rattle.xa_operate.proofs.Pieces.{behind, further}
use Rattle.xa_operate.proofs.metrics.push_server_metrics.Goals as goal

pub returns : goal.returns
returns c =
    let two = further c.args.text.now.items _ _ _ _ c.in_ok-push_metric.ensures c.in_ok-push_metric-2.ensures in
    let three = further c.args.text.now.items _ _ _ _ two c.in_ok-push_metric-3.ensures in
    behind c.push_metric-4.result c.args.text.now.items _ _ _ _ three c.push_metric-4.ensures
