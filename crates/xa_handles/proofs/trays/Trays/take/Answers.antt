use Rattle.std.proofs.Common.{◌<◌, length, arith}
use Rattle.xa_handles.proofs.Trayed.{has_taken}
use Rattle.xa_handles.proofs.trays.Trays.take.Goals as goal

pub returns : goal.returns
returns g c =
    let lt : c.args.tray < length c.self.inside.all.items = omega (arith, c.len.ensures, c.if-tray-len.false) in
    has_taken (λ v. v.items) c.self.inside.all.items c.args.tray c.pop_from.new.tray c.index_mut.result.now c.pop_from.result
    c.args.self.now c.self.view_is lt c.index_mut.ensures.value c.pop_from.ensures
