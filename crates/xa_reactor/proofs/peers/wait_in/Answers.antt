use Rattle.std.proofs.Common.{ap, sym}
use Rattle.xa_reactor.specs.Believed.Tending.{seat_of}
use Rattle.xa_reactor.proofs.Doing.{same_sessions}
use Rattle.xa_reactor.proofs.peers.wait_in.Goals as goal

pub returns-in-Some : goal.returns-in-Some
returns-in-Some c =
    sym (same_sessions c.args.all.now c.args.key c.in-Some.peer.now c.wait_for.new.self (sym c.in-Some.ensures.value) (ap seat_of c.wait_for.ensures))
