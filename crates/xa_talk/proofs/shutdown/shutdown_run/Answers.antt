use Rattle.std.proofs.Common.{◌≡◌, Result, Ok, Err, inr, refl, subst}
use Rattle.xa_frame.specs.declared.question.Question.TheVariants.{Status as AsksStatus}
use Rattle.xa_frame.specs.declared.reply.Reply.{Reply}
use Rattle.xa_talk.specs.Exchanges.{Exchanged}
use Rattle.xa_talk.specs.declared.fault.TalkFault.{TalkFault}
use Rattle.xa_talk.proofs.shutdown.shutdown_run.Goals as goal

pub returns-in-Ok-exchange : goal.returns-in-Ok-exchange
returns-in-Ok-exchange g c =
    let told : Result Reply TalkFault = Ok c.in-Ok-exchange.field-0 in
    let is : c.exchange.result ≡ told = cc in
    inr (
      c.in-Ok.connection,
      c.exchange.new.connection,
      told,
      subst (λ (t : Result Reply TalkFault). Exchanged AsksStatus t (g.W.Write.contents c.in-Ok.connection.writer) (g.W.Write.contents c.exchange.new.connection.writer)
          (g.R.Read.remaining c.in-Ok.connection.reader) (g.R.Read.remaining c.exchange.new.connection.reader)) is c.exchange.ensures,
      (c.stop.new.connection, c.stop.ensures),
    )

pub returns : goal.returns
returns g c =
    let told : Result Reply TalkFault = Err c.in-Err.fault in
    let is : c.exchange.result ≡ told = cc in
    inr (
      c.in-Ok.connection,
      c.exchange.new.connection,
      told,
      subst (λ (t : Result Reply TalkFault). Exchanged AsksStatus t (g.W.Write.contents c.in-Ok.connection.writer) (g.W.Write.contents c.exchange.new.connection.writer)
          (g.R.Read.remaining c.in-Ok.connection.reader) (g.R.Read.remaining c.exchange.new.connection.reader)) is c.exchange.ensures,
      refl,
    )
