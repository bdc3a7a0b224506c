use Rattle.std.proofs.Common.{Some, cond, ap, ◌∙◌}
use Rattle.std.specs.BTreeMap.{get}
use Rattle.std.specs.Ordering.{is_eq}
use Rattle.xa_xid.specs.Triple.{xid_cmp}
use Rattle.xa_recovery.proofs.Standing.{prepare_stands}
use Rattle.xa_recovery.proofs.rebuilding.Rebuilding.prepare.Goals as goal

pub returns : goal.returns
returns c = λ x read st fresh unprepared.
    let m = c.args.self.now in
    prepare_stands m x c.args.xid c.args.timestamp c.args.writes c.insert-3.new.self c.insert-2.new.self c.insert.new.self read st fresh unprepared
    c.in_ok-insert-3.ensures.entries
    (λ q. c.in_ok-insert-2.ensures.updates.0 q ∙ ap (λ k. cond (is_eq (xid_cmp k q)) (Some c.args.timestamp) (get xid_cmp m.names q)) c.copied.ensures)
    c.in_ok-insert.ensures.updates.0
