use Rattle.std.proofs.Common.{◌≡◌, ℕ, List, Some, None, subst, arith, rules}
use Rattle.xa_limits.specs.declared.TheConstants.{MOST_VALUE}
use Rattle.xa_model.specs.Answer.{plain}
use Rattle.xa_manager.specs.View.{view_of, own_at}
use Rattle.xa_manager.specs.Changes.{items_of}
use Rattle.xa_manager.proofs.Changed.{Puts, same_beside}
use Rattle.xa_manager.proofs.Putting.{put_alone, put_marked, put_full, put_late, put_follows, put_stays}
use Rattle.xa_manager.proofs.tables.Tables.put.Goals as goal
use Rattle.xa_manager.proofs.tables.Tables.put.Goals.{In-Some, After-put}

pub invariant_of-self : goal.invariant_of-self
invariant_of-self c = record {
  short = c.put.ensures.within MOST_VALUE c.args.self.now.short c.requires.value;
  keys = c.put.ensures.keys c.args.self.now.keys (rw c.as_slice.ensures.value c.requires.key);
}

own : (c : In-Some) → own_at (view_of c.args.self.now) c.args.session ≡ Some (c.in-Some.xid, c.in-Some.working)
own c = grind (arith, c.in-Some.ensures)

puts : (c : After-put) → Puts (view_of c.args.self.now) c.in-Some.working.timestamp c.args.key.now (items_of c.args.value) c.put.result (record (view_of c.args.self.now) { records = c.put.new.self })
puts c =
    let m = view_of c.args.self.now in
    subst (λ (k : List ℕ). Puts m c.in-Some.working.timestamp k (items_of c.args.value) c.put.result (record m { records = c.put.new.self })) c.as_slice.ensures.value
    (record { same = same_beside m c.put.new.self; answer = c.put.ensures.answer; records = c.put.ensures.stands })

pub returns-in-Some-mark-clause-ok : goal.returns-in-Some-mark-clause-ok
returns-in-Some-mark-clause-ok c =
    let marked : c.in-Some.working.mark ≡ Some c.in-Some-mark.code = search rules in
    let said : c.plain-in-Some-mark.result ≡ plain c.in-Some-mark.code = search rules in
    rw said
    (put_marked (view_of c.args.self.now) c.args.session c.args.key.now (items_of c.args.value) c.in-Some.xid c.in-Some.working c.in-Some-mark.code (own (goal.at.returns-in-Some-mark-clause-ok c).In-Some) marked)

pub returns-in-Done-clause-ok : goal.returns-in-Done-clause-ok
returns-in-Done-clause-ok c =
    let x = goal.at.returns-in-Done-clause-ok c in
    rw c.plain-in-Done.ensures
    (put_follows (view_of c.args.self.now) _ c.args.session c.args.key.now (items_of c.args.value) c.in-Some.xid c.in-Some.working (own x.In-Some) (search rules) (rw c.in-Done.is at (puts x.After-put)))

pub returns-in-Late-clause-ok : goal.returns-in-Late-clause-ok
returns-in-Late-clause-ok c =
    let x = goal.at.returns-in-Late-clause-ok c in
    rw c.detailed.ensures
    (put_late (view_of c.args.self.now) _ (view_of c.mark_branch.new.self) c.args.session c.args.key.now (items_of c.args.value) c.in-Some.xid c.in-Some.working (own x.In-Some) (search rules)
    (rw c.in-Late.is at (puts x.After-put)) c.mark_branch.ensures.marks)

pub returns-in-Limit-clause-ok : goal.returns-in-Limit-clause-ok
returns-in-Limit-clause-ok c =
    let x = goal.at.returns-in-Limit-clause-ok c in
    rw c.detailed-in-Limit.ensures
    (put_full (view_of c.args.self.now) _ c.args.session c.args.key.now (items_of c.args.value) c.in-Some.xid c.in-Some.working (own x.In-Some) (search rules) (rw c.in-Limit.is at (puts x.After-put)))

pub returns-in-Memory-clause-err : goal.returns-in-Memory-clause-err
returns-in-Memory-clause-err c =
    let x = goal.at.returns-in-Memory-clause-err c in
    put_stays (view_of c.args.self.now) _ c.args.session c.args.key.now (items_of c.args.value) c.in-Some.xid c.in-Some.working (own x.In-Some) (rw c.in-Memory.is at (puts x.After-put))

pub returns-in_default-clause-ok : goal.returns-in_default-clause-ok
returns-in_default-clause-ok c =
    let m = view_of c.args.self.now in
    let none : own_at m c.args.session ≡ None = grind (arith, c.in_default.ensures) in
    rw c.plain.ensures (put_alone m c.args.session c.args.key.now (items_of c.args.value) none)
