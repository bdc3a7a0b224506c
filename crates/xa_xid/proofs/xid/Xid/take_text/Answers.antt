use Rattle.std.proofs.Common.{ap, ◌∙◌, w32}
use Rattle.std.specs.Int.{cast_signed, cast_unsigned}
use Rattle.std.proofs.lemmas.Int.{to_z-of_z}
use Rattle.std.proofs.lemmas.Option.{same_Some}
use Rattle.std.specs.Result.{result_ok}
use Rattle.xa_xid.proofs.Parts.{first_part, second_part, has_first, has_second, made_again, made_so, all_spelled}
use Rattle.xa_xid.specs.Fault.{xid_of}
use Rattle.xa_xid.proofs.xid.Xid.take_text.Goals as goal

pub returns-in_err-format-clause-only : goal.returns-in_err-format-clause-only
returns-in_err-format-clause-only c x h e = absurd (has_first c.args.text.now x c.in_err-format.ensures e)

pub returns-in_err-gtrid-clause-only : goal.returns-in_err-gtrid-clause-only
returns-in_err-gtrid-clause-only c x h e =
    let p = first_part c.args.text.now c.in_ok-format.format.now c.in_ok-format.parts.now x h e c.in_ok-format.ensures in
    absurd (has_second c.in_ok-format.parts.now x c.in_err-gtrid.ensures p.1)

pub returns-in_err-format-2-clause-only : goal.returns-in_err-format-2-clause-only
returns-in_err-format-2-clause-only c x h e =
    let p = first_part c.args.text.now c.in_ok-format.format.now c.in_ok-format.parts.now x h e c.in_ok-format.ensures in
    absurd (cc (c.in_err-format-2.ensures.only x.format h.format p.0))

pub returns-in_err-gtrid-2-clause-only : goal.returns-in_err-gtrid-2-clause-only
returns-in_err-gtrid-2-clause-only c x h e =
    let p = first_part c.args.text.now c.in_ok-format.format.now c.in_ok-format.parts.now x h e c.in_ok-format.ensures in
    let q = second_part c.in_ok-format.parts.now c.in_ok-gtrid.gtrid.now c.in_ok-gtrid.bqual.now x p.1 c.in_ok-gtrid.ensures in
    absurd (cc (c.in_err-gtrid-2.ensures.only x.gtrid h.gtrid h.lengths.2 q.0))

pub returns-in_err-bqual-clause-only : goal.returns-in_err-bqual-clause-only
returns-in_err-bqual-clause-only c x h e =
    let p = first_part c.args.text.now c.in_ok-format.format.now c.in_ok-format.parts.now x h e c.in_ok-format.ensures in
    let q = second_part c.in_ok-format.parts.now c.in_ok-gtrid.gtrid.now c.in_ok-gtrid.bqual.now x p.1 c.in_ok-gtrid.ensures in
    absurd (cc (c.in_err-bqual.ensures.only x.bqual h.bqual h.lengths.3 q.1))

pub returns-clause-found : goal.returns-clause-found
returns-clause-found c =
    let format = c.in_ok-format-2.ensures.found in
    let gtrid = c.in_ok-gtrid-2.ensures.found in
    let bqual = c.in_ok-bqual.ensures.found in
    let spelled = all_spelled c.args.text.now c.in_ok-format.format.now c.in_ok-format.parts.now c.in_ok-gtrid.gtrid.now c.in_ok-gtrid.bqual.now c.in_ok-format-2.format c.in_ok-gtrid-2.gtrid.items c.in_ok-bqual.bqual.items c.in_ok-format.ensures.1 c.in_ok-gtrid.ensures.1 format.1 gtrid.1 bqual.1 in
    let made = c.new.ensures.exact ∙ ap (λ z. xid_of z c.as_slice.result.now c.as_slice-2.result.now) (to_z-of_z w32 c.in_ok-format-2.format format.0) ∙ ap (λ s. xid_of c.in_ok-format-2.format s c.as_slice-2.result.now) c.as_slice.ensures.value ∙ ap (λ s. xid_of c.in_ok-format-2.format c.in_ok-gtrid-2.gtrid.items s) c.as_slice-2.ensures.value in
    rw c.ok.ensures.value (made_so c.args.text.now c.in_ok-format-2.format c.in_ok-gtrid-2.gtrid.items c.in_ok-bqual.bqual.items c.new.result made format.0 gtrid.0 bqual.0 spelled)

pub returns-clause-only : goal.returns-clause-only
returns-clause-only c x h e =
    let p = first_part c.args.text.now c.in_ok-format.format.now c.in_ok-format.parts.now x h e c.in_ok-format.ensures in
    let q = second_part c.in_ok-format.parts.now c.in_ok-gtrid.gtrid.now c.in_ok-gtrid.bqual.now x p.1 c.in_ok-gtrid.ensures in
    let format = to_z-of_z w32 c.in_ok-format-2.format c.in_ok-format-2.ensures.found.0 ∙ same_Some _ _ (c.in_ok-format-2.ensures.only x.format h.format p.0) in
    let gtrid = c.as_slice.ensures.value ∙ same_Some _ _ (c.in_ok-gtrid-2.ensures.only x.gtrid h.gtrid h.lengths.2 q.0) in
    let bqual = c.as_slice-2.ensures.value ∙ same_Some _ _ (c.in_ok-bqual.ensures.only x.bqual h.bqual h.lengths.3 q.1) in
    c.ok.ensures.value ∙ ap result_ok (c.new.ensures.exact ∙ made_again (cast_signed w32 (cast_unsigned w32 c.in_ok-format-2.format)) c.as_slice.result.now c.as_slice-2.result.now x h format gtrid bqual)
