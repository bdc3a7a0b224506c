use Rattle.std.proofs.Common.{◌≡◌, ℕ, List, Some, None, subst, arith, rules}
use Rattle.xa_limits.specs.declared.TheConstants.{MOST_VALUE}
use Rattle.xa_manager.specs.View.{view_of, own_at}
use Rattle.xa_manager.proofs.Changed.{Gets, same_beside}
use Rattle.xa_manager.proofs.Getting.{get_value, get_absent, get_busy, get_alone, get_stays}
use Rattle.xa_manager.proofs.Replying.{value_fresh}
use Rattle.xa_manager.proofs.tables.Tables.get.Goals as goal
use Rattle.xa_manager.proofs.tables.Tables.get.Goals.{In-Some, After-get}

pub invariant_of-self : goal.invariant_of-self
invariant_of-self c = record {
  short = c.get.ensures.within MOST_VALUE c.args.self.now.short;
  keys = c.get.ensures.keys c.args.self.now.keys;
}

own : (c : In-Some) → own_at (view_of c.args.self.now) c.args.session ≡ Some (c.in-Some.field-0-0, c.in-Some.working)
own c = grind (arith, c.in-Some.ensures)

gets : (c : After-get) → Gets (view_of c.args.self.now) c.in-Some.working.timestamp c.args.key.now c.get.result (record (view_of c.args.self.now) { records = c.get.new.self })
gets c =
    let m = view_of c.args.self.now in
    subst (λ (k : List ℕ). Gets m c.in-Some.working.timestamp k c.get.result (record m { records = c.get.new.self })) c.as_slice.ensures.value
    (record { same = same_beside m c.get.new.self; answer = c.get.ensures.answer; records = c.get.ensures.stands })

pub returns-in-Value-clause-ok : goal.returns-in-Value-clause-ok
returns-in-Value-clause-ok c =
    let x = goal.at.returns-in-Value-clause-ok c in
    rw c.carrying.ensures
    (get_value (view_of c.args.self.now) _ c.args.session c.args.key.now c.in-Some.field-0-0 c.in-Some.working c.in-Value.value (own x.In-Some) (search rules) (rw c.in-Value.is at (gets x.After-get)))

pub returns-in-Value-clause-fresh : goal.returns-in-Value-clause-fresh
returns-in-Value-clause-fresh c = value_fresh _ c.in-Value.value (c.in-Value.ensures.short MOST_VALUE c.args.self.now.short) c.carrying.ensures

pub returns-in-Absent-clause-ok : goal.returns-in-Absent-clause-ok
returns-in-Absent-clause-ok c =
    let x = goal.at.returns-in-Absent-clause-ok c in
    rw c.carrying-in-Absent.ensures
    (get_absent (view_of c.args.self.now) _ c.args.session c.args.key.now c.in-Some.field-0-0 c.in-Some.working (own x.In-Some) (search rules) (rw c.in-Absent.is at (gets x.After-get)))

pub returns-in-Busy-clause-ok : goal.returns-in-Busy-clause-ok
returns-in-Busy-clause-ok c =
    let x = goal.at.returns-in-Busy-clause-ok c in
    rw c.detailed.ensures
    (get_busy (view_of c.args.self.now) _ c.args.session c.args.key.now c.in-Some.field-0-0 c.in-Some.working c.in-Busy.field-0 (own x.In-Some) (search rules) (rw c.in-Busy.is at (gets x.After-get)))

pub returns-in_default-clause-ok : goal.returns-in_default-clause-ok
returns-in_default-clause-ok c =
    let m = view_of c.args.self.now in
    let none : own_at m c.args.session ≡ None = grind (arith, c.in_default.ensures) in
    rw c.plain.ensures (get_alone m c.args.session c.args.key.now none)

pub returns-in-Memory-clause-err : goal.returns-in-Memory-clause-err
returns-in-Memory-clause-err c =
    let x = goal.at.returns-in-Memory-clause-err c in
    get_stays (view_of c.args.self.now) _ c.args.session c.args.key.now c.in-Some.field-0-0 c.in-Some.working (own x.In-Some) (rw c.in-Memory.is at (gets x.After-get))
