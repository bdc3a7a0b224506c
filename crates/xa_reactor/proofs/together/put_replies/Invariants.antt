use Rattle.xa_reactor.specs.Asking.{PutsIf}
use Rattle.xa_reactor.proofs.Each.{Partway}
use Rattle.xa_reactor.proofs.together.put_replies.Given as goal

abbrev pub invariant-loop-ask : goal.invariant-loop-ask
invariant-loop-ask l = Partway PutsIf l.ask-index l.initial.asks l.asks
