use Rattle.std.proofs.Common.{◌≡◌, ◌∷◌, List, option_copied, option_map, subst}
use Rattle.std.specs.BTreeMap.{get}
use Rattle.std.specs.Map.Iter.{deref}
use Rattle.std.proofs.lemmas.Map.Iter.{rest_more}
use Rattle.xa_xid.specs.Triple.{Triple, xid_cmp}
use Rattle.xa_branch.specs.declared.kind.Kind.{Kind}
use Rattle.xa_branch.specs.Kinds.{own_kind}
use Rattle.xa_branch.specs.Changes.{Sets, left_behind}
use Rattle.xa_branch.proofs.Behind.{LeavesRest, one_left}
use Rattle.xa_branch.proofs.changes.leave_all.Goals as goal

pub loop-xid-preserved : goal.loop-xid-preserved
loop-xid-preserved c =
    let m = c.args.working.now in
    let own = c.args.own.now in
    let active = option_copied c.args.active in
    let x = c.in-Some.xid.now in
    let more : c.loop-xid.xid-iterator ≡ x ∷ c.next.new.self = rest_more deref c.loop-xid.xid-iterator c.next.new.self c.next.result c.in-Some.xid c.in-Some.is c.next.ensures.steps in
    let left : LeavesRest m own active (x ∷ c.next.new.self) c.loop-xid.working = subst (λ (xs : List Triple). LeavesRest m own active xs c.loop-xid.working) more c.loop-xid.invariant in
    let sets : Sets c.loop-xid.working x (option_map (left_behind (own_kind active x)) (get xid_cmp c.loop-xid.working x)) c.leave_behind.new.working =
    subst (λ (k : Kind). Sets c.loop-xid.working x (option_map (left_behind k) (get xid_cmp c.loop-xid.working x)) c.leave_behind.new.working) c.of_own.ensures c.leave_behind.ensures in
    one_left m own active x c.next.new.self c.loop-xid.working c.leave_behind.new.working left sets
