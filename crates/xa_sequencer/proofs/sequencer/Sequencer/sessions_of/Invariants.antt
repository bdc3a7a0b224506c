use Rattle.std.proofs.Common.{◌≡◌}
use Rattle.xa_model.specs.State.{State}
use Rattle.xa_sequencer.specs.Associates.{sessions_up_to}
use Rattle.xa_sequencer.proofs.sequencer.Sequencer.sessions_of.Given as goal

abbrev pub invariant-loop-before : goal.invariant-loop-before
invariant-loop-before g l =
    (s : State) → g.M.Manages.manages.stands l.fn.self.now s → l.sessions.items ≡ sessions_up_to l.before l.fn.xid s.associations
