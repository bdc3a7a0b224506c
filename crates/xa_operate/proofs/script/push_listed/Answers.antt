use Rattle.xa_operate.proofs.Pieces.{behind}
use Rattle.xa_operate.proofs.script.push_listed.Goals as goal

pub returns : goal.returns
returns c =
    behind c.push_more.result c.args.text.now.items _ _ _ _ c.in_ok-push_line.ensures c.push_more.ensures
