use Rattle.std.proofs.Common.{◌∷◌, ◌++◌, List, [], refl, inr, subst, arith, append-nil}
use Rattle.std.proofs.lemmas.List.{length-append}
use Rattle.std.proofs.lemmas.Result.{err_from_is_err_and}
use Rattle.std.specs.Prelude.{All}
use Rattle.xa_operate.specs.declared.asking.Asking.{Asking}
use Rattle.xa_output.proofs.Pieces.{appends_both, nothing_appended}
use Rattle.xa_talk.specs.declared.dial.Connection.{Connection}
use Rattle.xa_operate.specs.Agendas.{asked_first}
use Rattle.xa_operate.specs.Askings.{IsAsking}
use Rattle.xa_operate.specs.Courses.{AreDone}
use Rattle.xa_operate.proofs.Done.{all_behind, counted_out, done_more, none_popped}
use Rattle.xa_operate.proofs.run.operate_run.Goals as goal

pub loop-init : goal.loop-init
loop-init g c = (
  c.in-Ok.connection,
  [],
  [],
  refl,
  (c.in_ok-agenda.ensures.questions, refl, refl),
  nothing_appended (g.O.Write.contents c.args.output.now),
  c.in_ok-agenda.ensures.limits,
)

pub returns-in_default-pop_front : goal.returns-in_default-pop_front
returns-in_default-pop_front g c =
    let before = c.loop.invariant in
    inr record {
      replies = before.1;
      agenda = c.loop.agenda.items;
      text = before.2;
      last = [];
      c = before.0;
      behind = c.loop.connection;
      c' = c.loop.connection;
      done = before.4;
      ended = (
        none_popped c.pop_front.result c.loop.agenda.items c.pop_front.new.self.items c.in_default-pop_front.is c.pop_front.ensures.items c.pop_front.ensures.rest,
        refl,
        refl,
      );
      written = rw append-nil before.5;
    }

pub ask-requires-clause-agenda : goal.ask-requires-clause-agenda
ask-requires-clause-agenda g c =
    all_behind IsAsking c.in-Some.question c.pop_front.new.self.items
    (subst (λ (l : List Asking). All IsAsking l) c.in-Some.ensures.items c.loop.invariant.6)

pub returns-in_err-ask : goal.returns-in_err-ask
returns-in_err-ask g c =
    let p = err_from_is_err_and c.from_residual-in_err-ask.result c.from_residual-in_err-ask.ensures.1 in
    let before = c.loop.invariant in
    let now = c.in_err-ask.ensures.ends in
    rw (p.1, p.2) (inr record {
      replies = before.1;
      agenda = c.in-Some.question ∷ c.pop_front.new.self.items;
      text = before.2;
      last = now.0;
      c = before.0;
      behind = c.loop.connection;
      c' = c.ask.new.connection;
      done = subst (λ (l : List Asking). AreDone {C = Connection g.row.R.Denot g.row.W.Denot} c.args.format c.args.task.now (λ k. g.W.Write.contents k.writer)
          (λ k. g.R.Read.remaining k.reader) (asked_first c.args.name.now c.args.task.now) before.1 l before.2 before.0 c.loop.connection) c.in-Some.ensures.items before.4;
      ended = inr now.2;
      written = appends_both _ _ _ before.2 now.0 before.5 now.1;
    })

pub loop-preserved : goal.loop-preserved
loop-preserved g c =
    let before = c.loop.invariant in
    let now = c.in_ok-ask.ensures.ends in
    let done = subst (λ (l : List Asking). AreDone {C = Connection g.row.R.Denot g.row.W.Denot} c.args.format c.args.task.now (λ k. g.W.Write.contents k.writer)
    (λ k. g.R.Read.remaining k.reader) (asked_first c.args.name.now c.args.task.now) before.1 l before.2 before.0 c.loop.connection) c.in-Some.ensures.items before.4 in (
      before.0,
      before.1 ++ now.2.0 ∷ [],
      before.2 ++ now.0,
      omega (arith, before.3, length-append before.1 (now.2.0 ∷ [])),
      done_more c.args.format c.args.task.now (λ k. g.W.Write.contents k.writer) (λ k. g.R.Read.remaining k.reader) (asked_first c.args.name.now c.args.task.now)
          c.pop_front.new.self.items c.ask.new.agenda.items before.1 c.in-Some.question now.2.0 before.2 now.0 before.0 c.loop.connection c.ask.new.connection
          done now.2.1 now.2.2 now.2.3,
      appends_both _ _ _ before.2 now.0 before.5 now.1,
      c.in_ok-ask.ensures.limits,
    )

pub returns : goal.returns
returns g c =
    let before = c.loop.invariant in
    inr record {
      replies = before.1;
      agenda = c.loop.agenda.items;
      text = before.2;
      last = [];
      c = before.0;
      behind = c.loop.connection;
      c' = c.loop.connection;
      done = before.4;
      ended = counted_out c.args.format c.args.task.now (λ k. g.W.Write.contents k.writer) (λ k. g.R.Read.remaining k.reader) _ c.loop.agenda.items _ c.loop.connection
          (omega (arith, before.3, c.loop-test.false));
      written = rw append-nil before.5;
    }
