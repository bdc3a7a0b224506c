use Rattle.std.specs.List.{AllByRecursion}
use Rattle.xa_handles.specs.Telling.{IsAnswerTo}
use Rattle.xa_handles.proofs.Letters.{Answering}
use Rattle.xa_handles.proofs.mail.answer_all.Given as goal

abbrev pub invariant-loop-reply : goal.invariant-loop-reply
invariant-loop-reply g l = record {
  so_far : Answering l.calls l.initial.reply-iterator.rest.items l.reply-iterator.rest.items l.initial.keeper l.initial.letters.items l.keeper l.letters.items;
  answers : AllByRecursion (IsAnswerTo g.M.Manages.manages g.S.Start.start g.S.Start.base l.calls) l.reply-iterator.rest.items;
}
