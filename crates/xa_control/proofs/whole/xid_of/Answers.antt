use Rattle.std.proofs.Common.{◌≡◌, List, ℕ, length, Some, arith, ap, sym, ◌∙◌}
use Rattle.std.proofs.lemmas.Bool.Decides.{nat_tests}
use Rattle.std.proofs.lemmas.List.{nil_from_length}
use Rattle.xa_xid.specs.Triple.{Triple}
use Rattle.xa_control.proofs.Named.{all_of, only_whole, read_whole}
use Rattle.xa_control.proofs.whole.xid_of.Goals as goal

pub returns-then-is_empty-clause-found : goal.returns-then-is_empty-clause-found
returns-then-is_empty-clause-found c =
    all_of c.args.bytes.now c.in-Ok.xid c.in-Ok.rest.now (λ i. omega (arith, c.type_inv.bytes i)) c.in-Ok.ensures
    (nil_from_length _ (grind (arith, nat_tests, c.is_empty.ensures, c.if-is_empty.true)))

pub returns-then-is_empty-clause-only : goal.returns-then-is_empty-clause-only
returns-then-is_empty-clause-only c x h is =
    ap (λ (y : Triple). Some y) (only_whole c.args.bytes.now c.in-Ok.xid x c.in-Ok.rest.now c.in-Ok.ensures h is).0

pub returns-else-is_empty-clause-only : goal.returns-else-is_empty-clause-only
returns-else-is_empty-clause-only c x h is =
    let none : length c.in-Ok.rest.now ≡ 0 = ap (λ (bs : List ℕ). length bs) (only_whole c.args.bytes.now c.in-Ok.xid x c.in-Ok.rest.now c.in-Ok.ensures h is).1 in
    absurd (grind (arith, nat_tests, c.is_empty.ensures, c.if-is_empty.false, none))

pub returns-in-Err-clause-only : goal.returns-in-Err-clause-only
returns-in-Err-clause-only c x h is = absurd (cc (sym c.in-Err.ensures ∙ read_whole c.args.bytes.now x h is))
