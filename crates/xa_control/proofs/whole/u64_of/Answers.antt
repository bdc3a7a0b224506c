use Rattle.std.proofs.Common.{arith, sym}
use Rattle.std.proofs.lemmas.List.{nil_from_length}
use Rattle.xa_control.proofs.Counted.{eight_alone}
use Rattle.xa_control.proofs.whole.u64_of.Goals as goal

pub returns-in-Some-default-empty-clause-found : goal.returns-in-Some-default-empty-clause-found
returns-in-Some-default-empty-clause-found c =
    eight_alone _ c.in-Some-default-empty.number c.in-Some-default-empty.field-0-1.now
    (λ i. omega (arith, c.type_inv.bytes i)) (sym c.in-Some-default-empty.ensures) (nil_from_length _ (omega (arith, c.in-Some-default-empty.len_below)))
