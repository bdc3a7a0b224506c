use Rattle.std.proofs.Common.{◌≡◌, ◌∙◌, ap, subst, sym}
use Rattle.xa_handles.specs.Believed.Accounts.{asking, next_ask}
use Rattle.xa_handles.proofs.Owed.{one_owes}
use Rattle.xa_model.specs.declared.event.Event.TheVariants.{Call}
use Rattle.xa_tokens.specs.Believed.Account.{Owes}
use Rattle.xa_tokens.specs.declared.ask.Ask.{Ask}
use Rattle.xa_handles.proofs.handle.Handle.call_now.Goals as goal

pub returns-clause-back : goal.returns-clause-back
returns-clause-back g c =
    let x = c.args.self.now in
    let same : c.in-Err.posted ≡ next_ask x.asker (Call c.args.session c.args.request) = c.in-Err.ensures.back.0 ∙ c.ask-posted.ensures.posted in
    let before : c.call.new.asker ≡ asking x.asker c.in-Err.posted =
    c.in-Err.ensures.back.1 ∙ c.ask-posted.ensures.asks ∙ ap (asking x.asker) (sym same) in (
      c.withdraw.ensures.request c.args.session c.args.request (ap (λ (a : Ask). a.event) same),
      subst (λ a. (k : Owes a x.owed) → record x { asker = a; owes = k } ≡ x) (sym (c.withdraw.ensures.asker x.asker before))
          (λ k. ap (λ p. record x { owes = p }) (one_owes x.asker x.owed k x.owes)) _,
    )
