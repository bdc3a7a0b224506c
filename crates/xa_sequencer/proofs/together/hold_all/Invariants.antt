use Rattle.std.proofs.Common.{All, take}
use Rattle.xa_frame.specs.Limits.{Holds}
use Rattle.xa_sequencer.proofs.together.hold_all.Given as goal

abbrev pub invariant-loop-call : goal.invariant-loop-call
invariant-loop-call l = All (λ c. Holds c.request) (take l.call-index l.calls)
