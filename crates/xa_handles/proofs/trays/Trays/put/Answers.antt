use Rattle.std.proofs.Common.{◌<◌, length, arith}
use Rattle.xa_handles.proofs.Trayed.{has_put}
use Rattle.xa_handles.proofs.trays.Trays.put.Goals as goal

pub returns : goal.returns
returns g c =
    let lt : c.tray-tray.result < length c.self.inside.all.items = omega (arith, c.len.ensures, c.if-tray-len.false) in
    has_put (λ v. v.items) c.self.inside.all.items c.tray-tray.result c.args.letter.tray c.push_to.new.tray c.index_mut.result.now c.args.letter c.push_to.result
    c.args.self.now c.self.view_is c.tray-tray.ensures lt c.index_mut.ensures.value c.push_to.ensures
