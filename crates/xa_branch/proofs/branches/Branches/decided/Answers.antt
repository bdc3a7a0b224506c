use Rattle.std.proofs.Common.{ap}
use Rattle.std.specs.BTreeMap.{is_at}
use Rattle.std.specs.Map.{lookup}
use Rattle.std.specs.Map.Iter.{deref_pair}
use Rattle.std.proofs.lemmas.Map.Iter.{rest_more}
use Rattle.xa_xid.specs.Triple.{xid_cmp}
use Rattle.xa_branch.proofs.Picked.{completed_part, picked_none, picked_over, picked_next, picked_all}
use Rattle.xa_branch.proofs.NoRooms.{no_rooms}
use Rattle.xa_branch.proofs.branches.Branches.decided.Goals as goal

pub loop-xid-init : goal.loop-xid-init
loop-xid-init c =
    let gives = c.into_iter-xid-iterator.ensures.into_iter_gives in
    rw gives.0 (picked_none completed_part c.args.self.now.lasting.entries c.new-decided.result gives.5 (λ q. ap (λ es. lookup (is_at (xid_cmp q)) es) c.new-decided.ensures.empty) c.new-decided.ensures.ordered)

pub loop-xid-preserved : goal.loop-xid-preserved
loop-xid-preserved c =
    picked_over completed_part c.args.self.now.lasting.entries _ c.next.new.self c.in-Some.xid.now c.in-Some.lasting.now c.loop-xid.decided (ap completed_part c.in_default.is)
    (rest_more deref_pair c.loop-xid.xid-iterator c.next.new.self c.next.result (c.in-Some.xid, c.in-Some.lasting) c.in-Some.is c.next.ensures.steps) c.loop-xid.invariant

pub loop-xid-preserved-in_ok-insert : goal.loop-xid-preserved-in_ok-insert
loop-xid-preserved-in_ok-insert c =
    picked_next completed_part c.args.self.now.lasting.entries _ c.next.new.self c.in-Some.xid.now c.in-Some.lasting.now c.in-Completed.direction c.loop-xid.decided c.insert.new.self (ap completed_part c.in-Completed.is)
    (rest_more deref_pair c.loop-xid.xid-iterator c.next.new.self c.next.result (c.in-Some.xid, c.in-Some.lasting) c.in-Some.is c.next.ensures.steps)
    c.copied.ensures c.in_ok-insert.ensures.updates.0 c.insert.ensures.ordered c.loop-xid.invariant

pub returns : goal.returns
returns c = λ s h st. picked_all c.args.self.now s c.loop-xid.xid-iterator c.loop-xid.decided h st (no_rooms c.args.self.now s h st (c.has_rooms.ensures c.if-has_rooms.false)) c.in-None.ensures.steps.0 c.loop-xid.invariant
