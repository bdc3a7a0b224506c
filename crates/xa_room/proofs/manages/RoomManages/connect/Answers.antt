use Rattle.xa_manager.specs.Believed.Answered.{connect_reply}
use Rattle.xa_model.specs.declared.event.Event.TheVariants.{Connect}
use Rattle.xa_history.proofs.Longer.{connect_place}
use Rattle.xa_room.proofs.Recording.{acted_with}
use Rattle.xa_room.proofs.manages.RoomManages.connect.Goals as goal

pub returns-clause-acts : goal.returns-clause-acts
returns-clause-acts g c =
    let session = c.connect-session in
    acted_with g.M.Manages.manages g.S.Start.start c.self.inside.manager session.new.self c.self.inside.receipts c.note_connect.new.self c.args.pending.now c.args.self.now
    Connect (connect_reply session.result) c.self.view_is tt (connect_place session.result) session.ensures.acts c.note_connect.ensures
