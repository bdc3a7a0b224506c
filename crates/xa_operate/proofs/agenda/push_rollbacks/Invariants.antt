use Rattle.std.proofs.Common.{◌≡◌, ◌++◌, take}
use Rattle.std.specs.Prelude.{All}
use Rattle.xa_operate.specs.Askings.{IsAsking}
use Rattle.xa_operate.specs.Agendas.{rollbacks_of}
use Rattle.xa_operate.proofs.agenda.push_rollbacks.Given as goal

abbrev pub invariant-loop-branch : goal.invariant-loop-branch
invariant-loop-branch l = (l.agenda.items ≡ l.initial.agenda.items ++ rollbacks_of (take l.branch-index l.branches)) × All IsAsking l.agenda.items
