use Rattle.std.proofs.Common.{arith, sym}
use Rattle.xa_connection.proofs.Fronts.{cut, reads, too_long, whole}
use Rattle.xa_connection.proofs.Inside.{long_not_cut, whole_not_cut}
use Rattle.xa_connection.proofs.front.front_of.Goals as goal

pub returns-then-count-gt-MOST_CONTENT-clause-front : goal.returns-then-count-gt-MOST_CONTENT-clause-front
returns-then-count-gt-MOST_CONTENT-clause-front c =
    too_long _ c.in-Some.count c.in-Some.rest.now
    (reads _ _ _ (λ i. omega (arith, c.type_inv.bytes i)) (sym c.in-Some.ensures)) (omega arith)

pub returns-then-rest-count-clause-front : goal.returns-then-rest-count-clause-front
returns-then-rest-count-clause-front c =
    cut _ c.in-Some.count c.in-Some.rest.now
    (reads _ _ _ (λ i. omega (arith, c.type_inv.bytes i)) (sym c.in-Some.ensures)) (omega arith)
    c.if-rest-count.true

pub returns-else-rest-count-clause-front : goal.returns-else-rest-count-clause-front
returns-else-rest-count-clause-front c =
    whole _ c.in-Some.count c.in-Some.rest.now
    (reads _ _ _ (λ i. omega (arith, c.type_inv.bytes i)) (sym c.in-Some.ensures)) (omega arith)
    c.if-rest-count.false

pub returns-then-count-gt-MOST_CONTENT-clause-cut : goal.returns-then-count-gt-MOST_CONTENT-clause-cut
returns-then-count-gt-MOST_CONTENT-clause-cut c is_cut =
    absurd (long_not_cut _ c.in-Some.count c.in-Some.rest.now
    (reads _ _ _ (λ i. omega (arith, c.type_inv.bytes i)) (sym c.in-Some.ensures)) (omega arith) is_cut)

pub returns-else-rest-count-clause-cut : goal.returns-else-rest-count-clause-cut
returns-else-rest-count-clause-cut c is_cut =
    absurd (whole_not_cut _ c.in-Some.count c.in-Some.rest.now
    (reads _ _ _ (λ i. omega (arith, c.type_inv.bytes i)) (sym c.in-Some.ensures)) c.if-rest-count.false is_cut)
