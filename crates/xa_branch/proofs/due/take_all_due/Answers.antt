use Rattle.std.proofs.Common.{◌≡◌, ◌∷◌, List, Option, Some, None, ap, subst, rules}
use Rattle.std.specs.BTreeMap.{get}
use Rattle.std.specs.Map.Iter.{deref}
use Rattle.std.proofs.lemmas.Map.Iter.{rest_more}
use Rattle.xa_xid.specs.Triple.{Triple, xid_cmp}
use Rattle.xa_branch.specs.declared.working.Working.{Working}
use Rattle.xa_branch.specs.Due.{due_kept, LosesDue}
use Rattle.xa_branch.proofs.Behind.{TakesRest, one_taken}
use Rattle.xa_branch.proofs.Dues.{loses_none}
use Rattle.xa_branch.proofs.due.take_all_due.Goals as goal

pub loop-xid-preserved-in-Some-get : goal.loop-xid-preserved-in-Some-get
loop-xid-preserved-in-Some-get c =
    let m = c.args.working.now in
    let x = c.in-Some.xid.now in
    let more : c.loop-xid.xid-iterator ≡ x ∷ c.next.new.self = rest_more deref c.loop-xid.xid-iterator c.next.new.self c.next.result c.in-Some.xid c.in-Some.is c.next.ensures.steps in
    let left : TakesRest m c.args.due.now c.args.own.now (x ∷ c.next.new.self) c.loop-xid.due =
    subst (λ (xs : List Triple). TakesRest m c.args.due.now c.args.own.now xs c.loop-xid.due) more c.loop-xid.invariant in
    let there : Some c.in-Some-get.kept.now ≡ get xid_cmp m x = search rules in
    one_taken m c.args.due.now c.args.own.now x c.next.new.self c.loop-xid.due c.take_due.new.due left
    (subst (λ (o : Option Working). LosesDue c.loop-xid.due x (due_kept o) c.take_due.new.due) there c.take_due.ensures)

pub loop-xid-preserved : goal.loop-xid-preserved
loop-xid-preserved c =
    let m = c.args.working.now in
    let x = c.in-Some.xid.now in
    let more : c.loop-xid.xid-iterator ≡ x ∷ c.next.new.self = rest_more deref c.loop-xid.xid-iterator c.next.new.self c.next.result c.in-Some.xid c.in-Some.is c.next.ensures.steps in
    let left : TakesRest m c.args.due.now c.args.own.now (x ∷ c.next.new.self) c.loop-xid.due =
    subst (λ (xs : List Triple). TakesRest m c.args.due.now c.args.own.now xs c.loop-xid.due) more c.loop-xid.invariant in
    let none : get xid_cmp m x ≡ None = search rules in
    one_taken m c.args.due.now c.args.own.now x c.next.new.self c.loop-xid.due c.loop-xid.due left (loses_none c.loop-xid.due x (due_kept (get xid_cmp m x)) (ap due_kept none))
