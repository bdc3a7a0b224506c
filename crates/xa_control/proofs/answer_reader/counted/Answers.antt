use Rattle.std.proofs.Common.{arith, sym}
use Rattle.xa_control.proofs.Counted.{found_so, is_counted, miscounted, only_so}
use Rattle.xa_control.proofs.answer_reader.counted.Goals as goal

pub returns-then-numbers-count-clause-only : goal.returns-then-numbers-count-clause-only
returns-then-numbers-count-clause-only c ns h =
    absurd (c.if-numbers-count.true (omega (arith, c.from-count.ensures, miscounted c.args.rest.now c.in-Some.count c.in-Some.numbers.now ns (sym c.in-Some.ensures) h)))

pub returns-clause-found : goal.returns-clause-found
returns-clause-found c =
    let e = c.in_ok-numbers.ensures in
    found_so c.new.result c.args.rest.now c.in_ok-numbers.numbers.items
    (is_counted c.args.rest.now c.in-Some.count c.in-Some.numbers.now c.in_ok-numbers.numbers.items (λ k. omega (arith, c.type_inv.rest k)) (sym c.in-Some.ensures) e.spelled e.holds (omega (arith, e.count, c.from-count.ensures))
    (omega (arith, c.from-count.ensures, c.if-count-gt-MOST_NUMBERS.false)))
    c.new.ensures.numbers

pub returns-clause-only : goal.returns-clause-only
returns-clause-only c ns h =
    let e = c.in_ok-numbers.ensures in
    only_so c.new.result c.args.rest.now c.in_ok-numbers.numbers.items ns
    (is_counted c.args.rest.now c.in-Some.count c.in-Some.numbers.now c.in_ok-numbers.numbers.items (λ k. omega (arith, c.type_inv.rest k)) (sym c.in-Some.ensures) e.spelled e.holds (omega (arith, e.count, c.from-count.ensures))
    (omega (arith, c.from-count.ensures, c.if-count-gt-MOST_NUMBERS.false)))
    h (c.new.ensures.valid.1 (omega (arith, e.count, c.if-count-gt-MOST_NUMBERS.false))) c.new.ensures.numbers
