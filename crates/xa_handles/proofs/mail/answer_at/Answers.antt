use Rattle.std.proofs.Common.{◌∙◌, sym}
use Rattle.xa_handles.proofs.Letters.{answered_at}
use Rattle.xa_handles.proofs.mail.answer_at.Goals as goal

pub returns : goal.returns
returns g c =
    answered_at c.args.calls.now c.args.reply c.args.keeper.now c.args.letters.now.items c.answered.new.keeper c.index_mut-slot.result.now c.in-Some.letter c.answered.result
    c.requires.opened c.index_mut-slot.ensures.value (sym c.take.ensures.value ∙ c.in-Some.is) c.answered.ensures.letter c.answered.ensures.keeper
