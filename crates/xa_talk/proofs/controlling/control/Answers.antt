use Rattle.std.proofs.Common.{◌∙◌, inl, inr, sym}
use Rattle.xa_talk.proofs.Calls.{control_answered}
use Rattle.xa_talk.proofs.controlling.control.Goals as goal

pub returns-in-Hello : goal.returns-in-Hello
returns-in-Hello g c =
    control_answered (λ k. g.W.Write.contents k.writer) (λ k. g.R.Read.remaining k.reader) c.args.number c.args.control.now c.ask.result c.told.result _ _
    (λ e. elim c.in-Hello.is [
      | inl hello ↦ absurd (cc (sym hello.1 ∙ e))
      | inr others ↦ elim others [
        | inl disconnect ↦ absurd (cc (sym disconnect.1 ∙ e))
        | inr more ↦ elim more [
          | inl metrics ↦ absurd (cc (sym metrics ∙ e))
          | inr rest ↦ elim rest [
            | inl sessions ↦ absurd (cc (sym sessions.1 ∙ e))
            | inr messages ↦ elim messages [
              | inl first ↦ absurd (cc (sym first.1 ∙ e))
              | inr final ↦ absurd (cc (sym final.1 ∙ e))
            ]
          ]
        ]
      ]
    ]) c.told.ensures c.ask.ensures
