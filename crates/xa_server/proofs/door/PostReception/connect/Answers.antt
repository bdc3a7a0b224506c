use Rattle.std.proofs.Common.{◌∙◌, refl, sym}
use Rattle.xa_assoc.specs.Refusals.{is_memory}
use Rattle.xa_manager.specs.Believed.Answered.{connect_reply}
use Rattle.xa_model.specs.declared.event.Event.TheVariants.{Connect}
use Rattle.xa_server.proofs.Watching.{seen_at_once}
use Rattle.xa_server.proofs.door.PostReception.connect.Goals as goal

pub invariant_of-self : goal.invariant_of-self
invariant_of-self g c =
    let connected = c.connect-session.ensures in
    record {
      kept =
          c.args.self.now.kept
          ∙ sym (seen_at_once (is_memory (connect_reply c.connect-session.result.0).detail) c.args.self.now.handle.asker c.connect-session.new.self.asker Connect
          connected.reply connected.told refl);
    }
