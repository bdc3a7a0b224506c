use Rattle.std.proofs.Common.{◌≡◌, true, false, sym, ap, subst, ◌∙◌}
use Rattle.std.specs.Result.{result_ok}
use Rattle.std.specs.Str.Parse.{ParsesUnsigned}
use Rattle.xa_scram.specs.Cutting.{IsPlain}
use Rattle.xa_scram.proofs.Exits.{if_some}
use Rattle.xa_scram.proofs.Decimals.{plain_decimal, plain_reads, spelled_reads, spelled_utf8}
use Rattle.xa_scram.proofs.number.number_of.Goals as goal

pub returns-then-not-is_plain-clause-only : goal.returns-then-not-is_plain-clause-only
returns-then-not-is_plain-clause-only c n k h e =
    let plain = c.is_plain.ensures.1 (subst IsPlain (sym e) (plain_decimal n h k)) in
    absurd (let both : true ≡ false = sym plain ∙ c.if-not-is_plain.true in cc)

pub returns-in_default-clause-only : goal.returns-in_default-clause-only
returns-in_default-clause-only c n k h e = absurd (c.in_default.ensures.cases.0 (spelled_utf8 n c.args.text.now h e))

pub returns-clause-found : goal.returns-clause-found
returns-clause-found c =
    let parsed = subst (λ t. ParsesUnsigned 32 10 t c.parse.result) c.in-Ok.ensures.cases.0 c.parse.ensures.value.0 in
    rw c.ok.ensures.value
    (if_some c.parse.result _ (plain_reads c.args.text.now c.parse.result (c.is_plain.ensures.0 c.if-not-is_plain.false) parsed))

pub returns-clause-only : goal.returns-clause-only
returns-clause-only c n k h e =
    c.ok.ensures.value ∙ ap result_ok (spelled_reads n c.in-Ok.text.now c.parse.result h (c.in-Ok.ensures.cases.0 ∙ e) c.parse.ensures.value.0)
