use Rattle.std.proofs.Common.{List, ℕ, subst, sym}
use Rattle.std.specs.List.{AllByRecursion}
use Rattle.xa_frame.specs.declared.reply.Reply.{Reply}
use Rattle.xa_handles.specs.Telling.{IsAnswerTo}
use Rattle.xa_handles.proofs.Letters.{Answering, begins, goes_on}
use Rattle.xa_handles.proofs.mail.answer_all.Goals as goal

pub loop-reply-init : goal.loop-reply-init
loop-reply-init g c =
    let same = sym c.into_iter-reply-iterator.ensures.into_iter_gives.0 in
    record {
      so_far = subst (λ (rs : List (ℕ × Reply)). Answering c.args.calls.now rs rs c.args.keeper.now c.args.letters.now.items c.args.keeper.now c.args.letters.now.items) same
          (begins c.args.calls.now c.args.replies.items c.args.keeper.now c.args.letters.now.items c.requires.once c.requires.letters c.requires.places);
      answers = subst (λ (rs : List (ℕ × Reply)). AllByRecursion (IsAnswerTo g.M.Manages.manages g.S.Start.start g.S.Start.base c.args.calls.now) rs) same c.requires.answers;
    }

pub loop-reply-preserved : goal.loop-reply-preserved
loop-reply-preserved g c =
    let was = c.loop-reply.invariant in
    record {
      so_far = goes_on c.args.calls.now _ c.loop-reply.reply-iterator.rest.items c.in-Some.reply c.next.new.self.rest.items c.args.keeper.now c.args.letters.now.items
          c.loop-reply.keeper c.loop-reply.letters.items c.answer_at.new.keeper c.answer_at.new.letters.items was.so_far c.in-Some.ensures.steps.0 c.answer_at.ensures;
      answers = (subst (λ (rs : List (ℕ × Reply)). AllByRecursion (IsAnswerTo g.M.Manages.manages g.S.Start.start g.S.Start.base c.args.calls.now) rs)
          c.in-Some.ensures.steps.0 was.answers).1;
    }
