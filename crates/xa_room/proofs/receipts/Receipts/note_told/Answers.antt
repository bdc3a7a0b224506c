use Rattle.std.proofs.Common.{◌∙◌, subst}
use Rattle.std.proofs.lemmas.List.{get_or_default}
use Rattle.xa_manager.specs.declared.together.Asked.{Asked}
use Rattle.xa_model.specs.declared.event.Event.TheVariants.{Call}
use Rattle.xa_room.specs.Keeping.{Notes}
use Rattle.xa_room.proofs.receipts.Receipts.note_told.Goals as goal

pub returns : goal.returns
returns c =
    let call = c.index-calls-told in
    let at = call.is ∙ get_or_default c.args.calls.now c.args.told.now.0 call.result _ c.requires in
    subst (λ (a : Asked). Notes c.args.self.now (Call a.session a.request) c.args.told.now.1 c.note_call.new.self) at
    (c.note_call.ensures call.result.request c.copied-copy.ensures)
