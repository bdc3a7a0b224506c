use Rattle.std.proofs.Common.{inl, inr, refl, subst}
use Rattle.xa_frame.specs.declared.question.Question.{Question}
use Rattle.xa_frame.specs.Questions.{SpellsQuestion}
use Rattle.xa_desk.proofs.connection.answer.Goals as goal

pub returns-in-Ok-Call-clause-answers : goal.returns-in-Ok-Call-clause-answers
returns-in-Ok-Call-clause-answers g c =
    inl (
      c.in-Ok-Call.request,
      subst (λ (q : Question). SpellsQuestion c.args.content.now q) c.in-Ok-Call.field-0-is c.in-Ok-Call.ensures.found,
      c.call.ensures.called,
    )

pub returns-in-Ok-Status-clause-answers : goal.returns-in-Ok-Status-clause-answers
returns-in-Ok-Status-clause-answers g c =
    inr (inr (inr (
      c.status.result,
      subst (λ (q : Question). SpellsQuestion c.args.content.now q) c.in-Ok-Status.field-0-is c.in-Ok-Status.ensures.found,
      refl,
      c.carrying.ensures,
      c.status.ensures c.args.session,
    )))
