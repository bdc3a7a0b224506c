use Rattle.std.proofs.Common.{◌≡◌, ◌∙◌, Some, ap, inl, inr, refl, subst, sym}
use Rattle.xa_server.specs.Believed.Watching.{seen_of}
use Rattle.xa_server.proofs.Watching.{one_proof, seen_then}
use Rattle.xa_server.proofs.post.Post.answer_now.Goals as goal

pub invariant_of-self : goal.invariant_of-self
invariant_of-self g c =
    let x = c.args.self.now in
    record { kept = subst (λ h. x.seen ≡ seen_of h.asker.told) (sym c.in-Err.ensures.back.1) x.kept }

pub invariant_of-self-2 : goal.invariant_of-self-2
invariant_of-self-2 g c =
    let x = c.args.self.now in
    record {
      kept =
          seen_then g.M.Manages.manages g.S.Start.start g.S.Start.base _ x.handle.asker c.in-Some.request c.in-Ok.reply
          c.call_now.new.self.asker x.seen c.see.new.seen c.is_restart-is_restart.result c.in-Ok.ensures.called x.kept
          c.is_restart-is_restart.ensures c.see.ensures;
    }

pub returns-in-Err : goal.returns-in-Err
returns-in-Err g c =
    let a = c.args.ask.now in
    let x = c.args.self.now in
    let back = c.in-Err.ensures.back in
    inl (
      ap (λ q. record a { request = Some q }) back.0 ∙ ap (λ q. record a { request = q }) (sym c.in-Some.is ∙ c.take.ensures.value),
      subst (λ h. (k : x.seen ≡ seen_of h.asker.told) → record x { handle = h; kept = k } ≡ x) (sym back.1)
          (λ k. ap (λ p. record x { kept = p }) (one_proof x.seen (seen_of x.handle.asker.told) k x.kept)) _,
    )

pub returns : goal.returns
returns g c = inr (record {
  key = refl;
  session = refl;
  connection = refl;
  front = refl;
  request = c.in-Some.request;
  asked = sym c.take.ensures.value ∙ c.in-Some.is;
  gone = c.take.ensures.after;
  told = c.in-Ok.ensures.called;
  limits = c.in-Ok.ensures.limits;
})
