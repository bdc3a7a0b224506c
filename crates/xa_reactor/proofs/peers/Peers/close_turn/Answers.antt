use Rattle.std.proofs.Common.{refl, sym}
use Rattle.xa_reactor.proofs.Doing.{same_sessions}
use Rattle.xa_reactor.proofs.Noticed.{on_some}
use Rattle.xa_reactor.proofs.peers.Peers.close_turn.Goals as goal

pub returns-in-Some-clause-same : goal.returns-in-Some-clause-same
returns-in-Some-clause-same g c =
    sym (same_sessions c.args.self.now.all c.args.ask.key c.in-Some.peer.now c.close_turn.new.self (sym c.in-Some.ensures.value) c.close_turn.ensures.session)

pub returns-in-Some-clause-closed : goal.returns-in-Some-clause-closed
returns-in-Some-clause-closed g c =
    on_some _ _ _ c.in-Some.peer.now (sym c.in-Some.ensures.value) (c.close_turn.new.self, c.close_turn.ensures.sent, c.close_turn.ensures.steps, refl)
