use Rattle.std.proofs.Common.{ap, refl, sym}
use Rattle.xa_reactor.specs.Believed.Tending.{seat_of}
use Rattle.xa_reactor.specs.Users.{users_of}
use Rattle.xa_reactor.proofs.LoggingIn.{logs_at}
use Rattle.xa_reactor.proofs.peers.Peers.log_in.Goals as goal

pub returns-then-matches-clause-logs : goal.returns-then-matches-clause-logs
returns-then-matches-clause-logs g c =
    logs_at (users_of c.args.common.now) c.args.self.now.all c.args.key c.in-Some.peer.now c.log_in-passed.new.self c.pause.new.self
    c.log_in-passed.result (sym c.in-Some.ensures.value) (ap seat_of c.pause.ensures) c.log_in-passed.ensures.passes

pub returns-else-matches-clause-logs : goal.returns-else-matches-clause-logs
returns-else-matches-clause-logs g c =
    logs_at (users_of c.args.common.now) c.args.self.now.all c.args.key c.in-Some.peer.now c.log_in-passed.new.self c.log_in-passed.new.self
    c.log_in-passed.result (sym c.in-Some.ensures.value) refl c.log_in-passed.ensures.passes
