use Rattle.xa_model.specs.declared.event.Event.TheVariants.{Call}
use Rattle.xa_room.proofs.Recording.{acted_with}
use Rattle.xa_room.proofs.manages.RoomManages.call.Goals as goal

pub returns-clause-acts : goal.returns-clause-acts
returns-clause-acts g c =
    let answered = c.in_ok-reply in
    acted_with g.M.Manages.manages g.S.Start.start c.self.inside.manager c.call.new.self c.self.inside.receipts c.note_call.new.self c.args.pending.now c.args.self.now
    (Call c.args.session c.args.request) answered.reply c.self.view_is c.requires.asked answered.ensures.place answered.ensures.acts (c.note_call.ensures c.args.request c.copied-copy.ensures)
