use Rattle.std.proofs.Common.{◌≡◌, Option, ap, inl, inr, subst, sym}
use Rattle.std.specs.Prelude.{IsSomeAnd}
use Rattle.xa_frame.specs.declared.request.Request.{Request}
use Rattle.xa_handles.specs.Believed.Accounts.{Posts}
use Rattle.xa_model.specs.declared.event.Event.TheVariants.{Call}
use Rattle.xa_server.specs.Believed.Watching.{seen_of}
use Rattle.xa_server.proofs.Watching.{one_proof}
use Rattle.xa_server.proofs.door.PostReception.post.Goals as goal

pub returns-then-appends : goal.returns-then-appends
returns-then-appends g c =
    let x = c.args.self.now in
    elim c.post.ensures [
      | inl same ↦
          inl (subst (λ h. (k : x.seen ≡ seen_of h.asker.told) → record x { handle = h; kept = k } ≡ x) (sym same)
          (λ k. ap (λ p. record x { kept = p }) (one_proof x.seen (seen_of x.handle.asker.told) k x.kept)) _)
      | inr posts ↦
          inr (subst (λ (q : Option Request). IsSomeAnd q (λ request. Posts x.handle.asker (Call c.args.ask.now.session request) c.post.new.self.asker))
          (sym c.in-Some.is) posts)
    ]
