use Rattle.std.proofs.Common.{◌≡◌, true, false, sym, ap, subst, ◌∙◌, w32}
use Rattle.std.specs.Result.{result_ok}
use Rattle.std.specs.Str.Parse.{ParsesSigned}
use Rattle.xa_xid.proofs.Exits.{none_from_err, some_from_ok, if_some}
use Rattle.xa_xid.specs.Spelling.{IsPlain}
use Rattle.xa_xid.proofs.Number.{plain_signed, plain_reads, spelled_reads, spelled_utf8}
use Rattle.xa_xid.proofs.text.number.Goals as goal

pub returns-then-not-is_plain-clause-only : goal.returns-then-not-is_plain-clause-only
returns-then-not-is_plain-clause-only c z h e =
    let plain = c.is_plain.ensures.1 (subst IsPlain (sym e) (plain_signed z h)) in
    absurd (let both : true ≡ false = sym plain ∙ c.if-not-is_plain.true in cc)

pub returns-in_err-ok-clause-only : goal.returns-in_err-ok-clause-only
returns-in_err-ok-clause-only c z h e = absurd (none_from_err c.from_utf8.result _ _ _ (sym c.ok.ensures.value ∙ c.in_err-ok.was) c.from_utf8.ensures.cases (spelled_utf8 z c.args.text.now h e))

pub returns-clause-found : goal.returns-clause-found
returns-clause-found c =
    let text = some_from_ok c.from_utf8.result c.in_ok-ok.field-0 _ _ (sym c.ok.ensures.value ∙ c.in_ok-ok.was) c.from_utf8.ensures.cases in
    let parsed = subst (λ t. ParsesSigned w32 10 t c.parse.result) text.0 c.parse.ensures.value.0 in
    rw c.ok-2.ensures.value (if_some c.parse.result _ (plain_reads c.args.text.now c.parse.result (c.is_plain.ensures.0 c.if-not-is_plain.false) parsed))

pub returns-clause-only : goal.returns-clause-only
returns-clause-only c z h e =
    let text = some_from_ok c.from_utf8.result c.in_ok-ok.field-0 _ _ (sym c.ok.ensures.value ∙ c.in_ok-ok.was) c.from_utf8.ensures.cases in
    c.ok-2.ensures.value ∙ ap result_ok (spelled_reads z c.in_ok-ok.field-0.now c.parse.result h (text.0 ∙ e) c.parse.ensures.value.0)
