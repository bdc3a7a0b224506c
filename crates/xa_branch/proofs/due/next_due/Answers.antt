use Rattle.std.proofs.Common.{◌≡◌, ◌≤◌, arith}
use Rattle.xa_branch.proofs.Dues.{first_is, loses_one, same_first}
use Rattle.xa_branch.proofs.due.next_due.Goals as goal

pub returns-then-first-moment-clause-none : goal.returns-then-first-moment-clause-none
returns-then-first-moment-clause-none c = λ t q there.
    let first = c.in-Some.field-0.now in
    let above : first.0 ≤ t = first_is first.0 t first.1 q (c.in-Some.ensures.least (t, q) there) in
    omega (arith, above, c.in-Some.first-is, c.if-first-moment.true)

pub returns-in-Some-pop_first-clause-due : goal.returns-in-Some-pop_first-clause-due
returns-in-Some-pop_first-clause-due c =
    let at = c.in-Some-pop_first.field-0-0 in
    let xid = c.in-Some-pop_first.xid in
    let same : at ≡ c.in-Some.field-0.now.0 = same_first c.args.due.now.keys c.pop_first.new.self.keys (at, xid) c.in-Some.field-0.now c.in-Some-pop_first.ensures.removal c.in-Some.ensures.first in
    record {
      at = at;
      come = omega (arith, same, c.in-Some.first-is, c.if-first-moment.false);
      there = c.in-Some-pop_first.ensures.member;
      loses = loses_one c.args.due.now c.pop_first.new.self at xid c.in-Some-pop_first.ensures.updates.0;
    }
