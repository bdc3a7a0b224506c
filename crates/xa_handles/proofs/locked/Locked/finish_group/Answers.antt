use Rattle.std.proofs.Common.{◌∙◌, List, subst, sym}
use Rattle.std.specs.List.{AllByRecursion}
use Rattle.xa_handles.specs.Believed.Standing.{Standing, TellsMail}
use Rattle.xa_handles.specs.Telling.{AnswersAll, IsAnswerTo, IsOpen}
use Rattle.xa_handles.proofs.Booking.{goes_on}
use Rattle.xa_handles.proofs.Calling.{are_letters, fits, tells}
use Rattle.xa_handles.proofs.Groups.{all_answers, all_within, goes_on_by}
use Rattle.xa_handles.proofs.Letters.{all_open}
use Rattle.xa_manager.specs.declared.together.Asked.{Asked}
use Rattle.xa_sequencer.specs.Believed.GroupManager.{GroupManager}
use Rattle.xa_handles.proofs.locked.Locked.finish_group.Goals as goal

pub answer_all-requires-clause-letters : goal.answer_all-requires-clause-letters
answer_all-requires-clause-letters g c =
    let ends = c.finish_group-replies.ensures in
    let replies = c.finish_group-replies.result.0.items in
    let calls = c.finish_group-replies.result.1.items in
    let letters = c.self.inside.letters.items in
    subst (λ (cs : List Asked). AllByRecursion (IsOpen cs letters) replies) (sym c.deref.ensures.value)
    (all_open calls letters replies (are_letters _ letters calls ends.calls c.self.invariant.1) (all_within calls replies ends.told))

pub answer_all-requires-clause-answers : goal.answer_all-requires-clause-answers
answer_all-requires-clause-answers g c =
    let m = g.M.Manages.manages in
    let ends = c.finish_group-replies.ensures in
    let replies = c.finish_group-replies.result.0.items in
    let calls = c.finish_group-replies.result.1.items in
    subst (λ (cs : List Asked). AllByRecursion (IsAnswerTo m g.S.Start.start g.S.Start.base cs) replies) (sym c.deref.ensures.value)
    (all_answers m g.S.Start.start g.S.Start.base c.self.inside.sequencer c.finish_group-replies.new.self calls replies c.promises.ensures.history ends.called)

pub invariant_of-self : goal.invariant_of-self
invariant_of-self g c =
    let m = g.M.Manages.manages in
    let ends = c.finish_group-replies.ensures in
    let replies = c.finish_group-replies.result.0.items in
    let calls = c.finish_group-replies.result.1.items in
    let by = goes_on_by m g.S.Start.start g.S.Start.base c.self.inside.sequencer c.finish_group-replies.new.self calls replies ends.called in
    let all = subst (λ (cs : List Asked). AnswersAll cs replies c.self.inside.keeper c.self.inside.letters.items c.answer_all.new.keeper c.answer_all.new.letters.items)
    c.deref.ensures.value c.answer_all.ensures in (
      goes_on m g.S.Start.start g.S.Start.base c.self.inside.sequencer c.finish_group-replies.new.self c.self.inside.keeper c.answer_all.new.keeper by.entries all.more by.goes
          (by.are ∙ sym all.are) all.history_is c.self.invariant.0,
      fits _ c.answer_all.new.letters.items ends.settled,
    )

pub returns-clause-told : goal.returns-clause-told
returns-clause-told g c =
    subst (λ (s : Standing (GroupManager g.row.M.Denot)). TellsMail s (record {
      at = c.finish_group-replies.new.self;
      history = c.answer_all.new.keeper;
      letters = c.answer_all.new.letters.items;
      trays = c.self.inside.trays;
    })) c.self.view_is
    (tells g.M.Manages.manages g.S.Start.start g.S.Start.base c.self.inside.sequencer c.finish_group-replies.new.self c.deref.result.now c.finish_group-replies.result.0.items c.self.inside.keeper
    c.answer_all.new.keeper c.self.inside.letters.items c.answer_all.new.letters.items c.self.inside.trays c.answer_all.ensures)
