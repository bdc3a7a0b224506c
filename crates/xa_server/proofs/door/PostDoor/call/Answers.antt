use Rattle.xa_server.proofs.Watching.{seen_then}
use Rattle.xa_server.proofs.door.PostDoor.call.Goals as goal

pub invariant_of-self : goal.invariant_of-self
invariant_of-self g c =
    let x = c.args.self.now in
    record {
      kept =
          seen_then g.M.Manages.manages g.S.Start.start g.S.Start.base c.args.session x.handle.asker c.args.request
          c.call-reply.result c.call-reply.new.self.asker x.seen c.see.new.seen c.is_restart-is_restart.result c.call-reply.ensures.called
          x.kept c.is_restart-is_restart.ensures c.see.ensures;
    }
