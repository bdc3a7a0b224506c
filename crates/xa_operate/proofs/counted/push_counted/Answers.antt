use Rattle.xa_operate.proofs.Pieces.{behind, further}
use Rattle.xa_operate.proofs.counted.push_counted.Goals as goal

pub returns : goal.returns
returns c =
    let old = c.args.text.now.items in
    let two = further old _ _ _ _ c.in_ok-push_connections.ensures c.in_ok-push_family.ensures in
    let three = further old _ _ _ _ two c.in_ok-push_family-2.ensures in
    let four = further old _ _ _ _ three c.in_ok-push_histogram.ensures in
    let five = further old _ _ _ _ four c.in_ok-push_histogram-2.ensures in
    behind c.push_memory.result old _ _ _ _ five c.push_memory.ensures
