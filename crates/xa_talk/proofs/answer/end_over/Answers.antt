use Rattle.std.proofs.Common.{◌≡◌, ◌∙◌, Ok, Err, Some, None, Option, Result, ap, sym}
use Rattle.xa_frame.specs.declared.reply.Reply.{Reply}
use Rattle.xa_talk.specs.Answers.{end_reply, left_open}
use Rattle.xa_talk.specs.declared.fault.TalkFault.{TalkFault}
use Rattle.xa_talk.proofs.answer.end_over.Goals as goal

pub returns-in-Ok-Some : goal.returns-in-Ok-Some
returns-in-Ok-Some g c =
    let is : c.ask_end.result ≡ Ok (Some c.in-Ok-Some.reply) = cc in
    rw c.in-Some.is (
      c.ask_end.new.connection,
      c.ask_end.result,
      sym (ap end_reply is),
      sym (ap (λ (r : Result (Option Reply) TalkFault). left_open r c.ask_end.new.connection) is),
      c.ask_end.ensures,
    )

pub returns-in-Ok-None : goal.returns-in-Ok-None
returns-in-Ok-None g c =
    let is : c.ask_end.result ≡ Ok None = cc in
    rw c.in-Some.is (
      c.ask_end.new.connection,
      c.ask_end.result,
      ap Ok c.plain-in-Ok-None.ensures ∙ sym (ap end_reply is),
      sym (ap (λ (r : Result (Option Reply) TalkFault). left_open r c.ask_end.new.connection) is),
      c.ask_end.ensures,
    )

pub returns-in-Err : goal.returns-in-Err
returns-in-Err g c =
    let is : c.ask_end.result ≡ Err c.in-Err.fault = cc in
    rw c.in-Some.is (
      c.ask_end.new.connection,
      c.ask_end.result,
      sym (ap end_reply is),
      sym (ap (λ (r : Result (Option Reply) TalkFault). left_open r c.ask_end.new.connection) is),
      c.ask_end.ensures,
    )
