use Rattle.std.proofs.Common.{◌∙◌, [], refl, subst, sym, None, Ok, Err, Option}
use Rattle.std.proofs.lemmas.Result.{err_from_is_err_and}
use Rattle.xa_talk.specs.declared.answered.Answered.{Answered}
use Rattle.xa_talk.specs.Answers.{LineAnswered}
use Rattle.xa_output.proofs.Pieces.{nothing_appended}
use Rattle.xa_talk.specs.declared.dial.Connection.{Connection}
use Rattle.xa_talk.proofs.Lines.{told}
use Rattle.xa_talk.proofs.talk.talk_line.Goals as goal

pub returns-in_err-answered : goal.returns-in_err-answered
returns-in_err-answered g c =
    let p = err_from_is_err_and c.from_residual-in_err-answered.result c.from_residual-in_err-answered.ensures.1 in
    rw (p.1, p.2) (
      [],
      nothing_appended (g.O.Write.contents c.args.output.now),
      told {C = Connection g.row.R.Denot g.row.W.Denot} {X = Unit {0}} c.args.manner (λ k. g.W.Write.contents k.writer) (λ k. g.R.Read.remaining k.reader) c.args.line.now c.in_ok-said.said (Err c.in_err-answered.field-0.0) (Err c.in_err-answered.field-0.0) []
          c.args.connections.now.numbered.items c.answer.new.connections.numbered.items (sym c.asks_help.ensures ∙ c.if-asks_help.false) c.in_ok-said.ensures.value c.in_err-answered.ensures (refl, refl),
    )

pub returns-in_default : goal.returns-in_default
returns-in_default g c = (
  [],
  nothing_appended (g.O.Write.contents c.args.output.now),
  told {C = Connection g.row.R.Denot g.row.W.Denot} {X = Unit {0}} c.args.manner (λ k. g.W.Write.contents k.writer) (λ k. g.R.Read.remaining k.reader) c.args.line.now c.in_ok-said.said (Ok None) (Ok tt) []
      c.args.connections.now.numbered.items c.answer.new.connections.numbered.items (sym c.asks_help.ensures ∙ c.if-asks_help.false) c.in_ok-said.ensures.value
      (subst (λ (o : Option Answered). LineAnswered (λ k. g.W.Write.contents k.writer) (λ k. g.R.Read.remaining k.reader) c.in_ok-said.said (Ok o) c.args.connections.now.numbered.items c.answer.new.connections.numbered.items)
      c.in_default.is c.in_ok-answered.ensures) refl,
)
