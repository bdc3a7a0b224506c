use Rattle.std.proofs.Common.{arith, sym}
use Rattle.xa_control.proofs.Counted.{four_front}
use Rattle.xa_control.proofs.hello.hello_of.Goals as goal

pub returns-clause-found : goal.returns-clause-found
returns-clause-found c =
    let features = c.in_ok-features.ensures.found in
    let p = four_front _ c.in_ok-revision.revision c.in_ok-revision.rest.now _ (λ i. omega (arith, c.type_inv.bytes i)) (sym c.in_ok-revision.ensures) features.0 in
    (p.0, (p.1, features.1))
