use Rattle.std.proofs.Common.{Some, sym, ap, ◌∙◌, arith, rules}
use Rattle.xa_xid.proofs.Exits.{on_err}
use Rattle.xa_xid.proofs.Hex.{wrong_digits, too_many, one_digit, all_read}
use Rattle.xa_xid.proofs.text.unhex.Goals as goal

pub returns-in_err-byte_of-clause-only : goal.returns-in_err-byte_of-clause-only
returns-in_err-byte_of-clause-only c bytes all short e =
    absurd (wrong_digits c.args.text.now c.loop-rest.bytes.items c.loop-rest.rest.now bytes c.loop-rest.invariant.1 (omega arith) c.in_err-byte_of.ensures all e)

pub returns-in_err-ok-clause-only : goal.returns-in_err-ok-clause-only
returns-in_err-ok-clause-only c bytes all short e =
    absurd (too_many c.args.text.now c.loop-rest.bytes.items c.loop-rest.rest.now bytes c.loop-rest.invariant.1 (omega arith) (on_err c.try_push.result _ (sym c.ok.ensures.value ∙ c.in_err-ok.was) c.try_push.ensures.full) short e)

pub returns-then-is_empty-clause-only : goal.returns-then-is_empty-clause-only
returns-then-is_empty-clause-only c bytes all short e = ap Some (all_read c.args.text.now c.loop-rest.bytes.items c.loop-rest.rest.now bytes c.loop-rest.invariant.1 (search rules) e)

pub returns-else-is_empty-clause-only : goal.returns-else-is_empty-clause-only
returns-else-is_empty-clause-only c bytes all short e = absurd (one_digit c.args.text.now c.loop-rest.bytes.items c.loop-rest.rest.now bytes c.loop-rest.invariant.1 (search rules) e)
