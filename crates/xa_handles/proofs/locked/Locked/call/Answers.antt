use Rattle.std.proofs.Common.{◌≡◌, ◌∙◌, List, Option, ap, subst, sym}
use Rattle.xa_handles.specs.Mail.{FitPending}
use Rattle.xa_handles.proofs.Calling.{call_book, call_did}
use Rattle.xa_manager.specs.declared.together.Asked.{Asked}
use Rattle.xa_model.specs.declared.event.Event.TheVariants.{Call}
use Rattle.xa_tokens.specs.declared.ask.Ask.{Ask}
use Rattle.xa_handles.proofs.locked.Locked.call.Goals as goal

pub invariant_of-self-2 : goal.invariant_of-self-2
invariant_of-self-2 g c =
    let same = c.into_parts-event.ensures in
    let is : c.into_parts-event.result.1.event ≡ Call c.in-Call.session c.in-Call.request =
    ap (λ (a : Ask). a.event) (same.1 ∙ sym same.0) ∙ c.in-Call.is in (
      call_book g.M.Manages.manages g.S.Start.start g.S.Start.base c.self.inside.sequencer c.call.new.self c.self.inside.keeper c.end.new.keeper c.into_parts-event.result.1
          c.in-Call.session c.in-Call.request c.in-Ok.reply is c.in-Ok.ensures.called c.end.ensures.keeper c.self.invariant.0,
      subst (λ (p : Option (List Asked)). FitPending p c.self.inside.letters.items) (sym c.in-Ok.ensures.pending) c.self.invariant.1,
    )

pub returns-clause-did : goal.returns-clause-did
returns-clause-did g c =
    let is : c.args.posted.event ≡ Call c.in-Call.session c.in-Call.request = ap (λ (a : Ask). a.event) (sym c.into_parts-event.ensures.0) ∙ c.in-Call.is in
    call_did g.M.Manages.manages g.S.Start.start g.S.Start.base c.self.inside.sequencer c.call.new.self c.args.posted c.in-Call.session c.in-Call.request c.in-Ok.reply
    c.promises.ensures.history is c.in-Ok.ensures.called
