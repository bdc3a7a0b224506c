use Rattle.std.proofs.Common.{◌∙◌, [], refl, sym, inl, inr}
use Rattle.std.proofs.lemmas.Result.{err_from_is_err_and}
use Rattle.xa_output.proofs.Pieces.{nothing_appended}
use Rattle.xa_operate.specs.Shown.{shown}
use Rattle.xa_operate.proofs.Done.{printed}
use Rattle.xa_operate.proofs.run.ask.Goals as goal

pub returns-in-Err-clause-ends : goal.returns-in-Err-clause-ends
returns-in-Err-clause-ends g c = (
  [],
  nothing_appended (g.O.Write.contents c.args.output.now),
  inr (inl (refl, record { fault = c.in-Err.fault; exchanged = c.in-Err.ensures; told = refl })),
)

pub returns-then-not-answers-clause-ends : goal.returns-then-not-answers-clause-ends
returns-then-not-answers-clause-ends g c = (
  [],
  nothing_appended (g.O.Write.contents c.args.output.now),
  rw c.refusal.ensures (inl (
    refl,
    record {
      reply = c.in-Ok.reply;
      exchanged = c.in-Ok.ensures;
      refused = sym c.answers.ensures ∙ c.if-not-answers.true;
      told = refl;
    },
  )),
)

pub returns-in_err-text-clause-ends : goal.returns-in_err-text-clause-ends
returns-in_err-text-clause-ends g c =
    let p = err_from_is_err_and c.from_residual.result c.from_residual.ensures.1 in
    rw (p.1, p.2) (
      [],
      nothing_appended (g.O.Write.contents c.args.output.now),
      inr (inr record {
        reply = c.in-Ok.reply;
        done = record { exchanged = c.in-Ok.ensures; done = sym c.answers.ensures ∙ c.if-not-answers.false };
        part = (shown c.args.format c.args.task.now c.args.question.now c.in-Ok.reply, refl);
        told = inr refl;
      }),
    )

pub returns-in_err-push_behind-clause-ends : goal.returns-in_err-push_behind-clause-ends
returns-in_err-push_behind-clause-ends g c =
    let p = err_from_is_err_and c.from_residual-in_err-push_behind.result c.from_residual-in_err-push_behind.ensures.1 in
    rw (p.1, p.2) (
      [],
      nothing_appended (g.O.Write.contents c.args.output.now),
      inr (inr record {
        reply = c.in-Ok.reply;
        done = record { exchanged = c.in-Ok.ensures; done = sym c.answers.ensures ∙ c.if-not-answers.false };
        part = (shown c.args.format c.args.task.now c.args.question.now c.in-Ok.reply, refl);
        told = inr refl;
      }),
    )

pub returns-clause-ends : goal.returns-clause-ends
returns-clause-ends g c =
    printed c.args.format c.args.task.now (λ k. g.W.Write.contents k.writer) (λ k. g.R.Read.remaining k.reader) c.args.question.now c.in-Ok.reply
    c.print_text.result c.args.agenda.now.items c.push_behind.new.agenda.items c.as_slice.result.now (g.O.Write.contents c.args.output.now)
    (g.O.Write.contents c.print_text.new.output) c.args.connection.now c.bring.new.connection
    record { exchanged = c.in-Ok.ensures; done = sym c.answers.ensures ∙ c.if-not-answers.false }
    (c.as_slice.ensures.value ∙ c.in_ok-text.ensures) c.in_ok-push_behind.ensures.questions c.print_text.ensures
