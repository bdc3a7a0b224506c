use Rattle.std.proofs.Common.{◌∙◌, not, refl, sym}
use Rattle.xa_model.specs.declared.event.Event.TheVariants.{Hangup}
use Rattle.xa_server.proofs.Watching.{seen_at_once}
use Rattle.xa_server.proofs.door.PostDoor.hangup.Goals as goal

pub invariant_of-self : goal.invariant_of-self
invariant_of-self g c =
    let left = c.hangup-was_connected.ensures in
    record {
      kept =
          c.args.self.now.kept
          ∙ sym (seen_at_once (not c.hangup-was_connected.result.0) c.args.self.now.handle.asker c.hangup-was_connected.new.self.asker (Hangup c.args.session) left.reply left.told refl);
    }
