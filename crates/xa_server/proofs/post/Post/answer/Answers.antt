use Rattle.xa_server.proofs.Watching.{called_owes, seen_then}
use Rattle.xa_server.proofs.post.Post.answer.Goals as goal

pub invariant_of-self : goal.invariant_of-self
invariant_of-self g c =
    let x = c.args.self.now in
    let called = c.call_held-reply in
    record {
      kept =
          seen_then g.M.Manages.manages g.S.Start.start g.S.Start.base _ x.handle.asker c.in-Some.request
          called.result.0 called.new.self.asker x.seen c.see.new.seen c.is_restart-is_restart.result called.ensures.called
          x.kept c.is_restart-is_restart.ensures c.see.ensures;
    }

pub returns-in-Some-clause-settled : goal.returns-in-Some-clause-settled
returns-in-Some-clause-settled g c owes =
    called_owes g.M.Manages.manages g.S.Start.start g.S.Start.base _ _ c.in-Some.request c.call_held-reply.result.0
    c.call_held-reply.new.self.asker c.call_held-reply.ensures.called owes
