use Rattle.std.proofs.Common.{◌≡◌, ◌-◌, false, true, Some, inl, refl}
use Rattle.std.specs.Prelude.{slice_get}
use Rattle.xa_room.proofs.Judging.{differs, repeats, sound}
use Rattle.xa_room.proofs.auditing.judge_one.Goals as goal

pub returns-then-is_outside-clause-some : goal.returns-then-is_outside-clause-some
returns-then-is_outside-clause-some c = λ places met. inl (c.if-is_outside.ensures.yes refl, refl)

pub returns-then-is_met-clause-some : goal.returns-then-is_met-clause-some
returns-then-is_met-clause-some c = λ places met.
    let inside = c.if-is_outside.ensures.no refl in
    let bit : slice_get c.args.met.now.items (c.args.receipt.now.place - 1) ≡ Some true = rw c.as_slice.ensures.value at c.if-is_met.ensures in
    repeats c.args.kept.now c.args.met.now.items places c.args.i c.args.receipt.now c.requires met inside.0 inside.1 bit

pub returns-then-not-same_receipt-clause-some : goal.returns-then-not-same_receipt-clause-some
returns-then-not-same_receipt-clause-some c = λ places met.
    let inside = c.if-is_outside.ensures.no refl in
    let bit : slice_get c.args.met.now.items (c.args.receipt.now.place - 1) ≡ Some false = rw c.as_slice.ensures.value at c.if-is_met.ensures in
    differs c.args.kept.now c.args.met.now.items places c.args.i c.args.receipt.now c.requires met inside.0 inside.1 bit
    c.index-kept-at.result c.index-kept-at.is (λ same. cc (c.if-not-same_receipt.ensures.1 same))

pub returns-clause-none : goal.returns-clause-none
returns-clause-none c = λ none places met.
    let inside = c.if-is_outside.ensures.no refl in
    let bit : slice_get c.args.met.now.items (c.args.receipt.now.place - 1) ≡ Some false = rw c.as_slice.ensures.value at c.if-is_met.ensures in
    sound c.args.kept.now c.args.met.now.items places c.args.i c.args.receipt.now c.requires met inside.0 inside.1 bit
    c.index-kept-at.result c.index-kept-at.is (c.if-not-same_receipt.ensures.0 refl)
