use Rattle.xa_operate.proofs.Pieces.{behind, further}
use Rattle.xa_operate.proofs.histogram.push_histogram.Goals as goal

pub returns : goal.returns
returns c =
    let both = further c.args.text.now.items _ _ _ _ c.in_ok-push_front.ensures c.in_ok-under.ensures.lines in
    behind c.push_last.result c.args.text.now.items _ _ _ _ both c.push_last.ensures
