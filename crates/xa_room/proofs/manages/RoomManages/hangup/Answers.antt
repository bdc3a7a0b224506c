use Rattle.std.specs.Prelude.{pos, refl}
use Rattle.xa_model.specs.Answer.{plain}
use Rattle.xa_model.specs.declared.event.Event.TheVariants.{Hangup}
use Rattle.xa_room.proofs.Recording.{acted_with}
use Rattle.xa_room.proofs.manages.RoomManages.hangup.Goals as goal

pub returns-clause-did : goal.returns-clause-did
returns-clause-did g c =
    acted_with g.M.Manages.manages g.S.Start.start c.self.inside.manager c.hangup.new.self c.self.inside.receipts c.note_hangup.new.self c.args.pending.now c.args.self.now
    (Hangup c.args.session) (plain (pos 0)) c.self.view_is tt refl c.if-not-hangup.ensures.did c.note_hangup.ensures
