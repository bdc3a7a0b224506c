use Rattle.xa_reactor.proofs.Each.{Partway}
use Rattle.xa_reactor.specs.declared.ask.Ask.{Ask}
use Rattle.xa_server.specs.Believed.Loops.{Called}
use Rattle.xa_server.proofs.Rounds.{TellsBy}
use Rattle.xa_server.proofs.door.PostReception.call_quick.Given as goal

abbrev pub invariant-loop-ask : goal.invariant-loop-ask
invariant-loop-ask g l = record {
  some : TellsBy l.initial.self (λ p. p.handle.asker) (Called g.M.Manages.manages g.S.Start.start g.S.Start.base) l.fn.asks l.asks l.self;
  part : Partway (λ (a b : Ask). Unit {0}) l.ask-index l.fn.asks l.asks;
}
