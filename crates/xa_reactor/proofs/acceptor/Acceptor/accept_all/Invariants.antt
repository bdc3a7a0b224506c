use Rattle.std.proofs.Common.{◌≡◌, ◌≤◌}
use Rattle.xa_reactor.proofs.acceptor.Acceptor.accept_all.Given as goal

abbrev pub invariant-loop : goal.invariant-loop
invariant-loop g l = record {
  most : l.self.most ≡ l.initial.self.most;
  few : l.initial.self.accepted ≤ l.initial.self.most → l.self.accepted ≤ l.self.most;
}
