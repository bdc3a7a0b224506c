use Rattle.std.proofs.Common.{◌≡◌, true, sym, ◌∙◌}
use Rattle.xa_script.specs.Numbers.{begins_well}
use Rattle.xa_script.proofs.Digits.{begins, ended, failed}
use Rattle.xa_script.proofs.numbers.read_number.Goals as goal

pub returns-in_err-number : goal.returns-in_err-number
returns-in_err-number c =
    let well : begins_well c.args.word.now ≡ true = begins c.args.word.now (sym c.if-is_empty.ensures) c.if-word-eq48.false in
    c.from_residual.ensures ∙ failed c.args.word.now c.loop-byte.byte-index c.loop-byte.number c.loop-byte-test.true well c.loop-byte.invariant.same (sym c.in_err-number.ensures)

pub returns : goal.returns
returns c =
    let well : begins_well c.args.word.now ≡ true = begins c.args.word.now (sym c.if-is_empty.ensures) c.if-word-eq48.false in
    ended c.args.word.now c.loop-byte.byte-index c.loop-byte.number c.loop-byte.invariant.fits c.loop-byte-test.false well c.loop-byte.invariant.same
