use Rattle.std.proofs.Common.{sym}
use Rattle.xa_reactor.proofs.Doing.{same_sessions}
use Rattle.xa_reactor.proofs.peers.Peers.answer_control.Goals as goal

pub returns-in-Some-clause-same : goal.returns-in-Some-clause-same
returns-in-Some-clause-same g c =
    sym (same_sessions c.args.self.now.all c.args.wish.key c.in-Some.peer.now c.answer_control.new.self (sym c.in-Some.ensures.value) c.answer_control.ensures.session)
