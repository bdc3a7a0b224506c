use Rattle.std.proofs.Common.{◌≡◌, ◌++◌, length}
use Rattle.std.specs.Prelude.{All}
use Rattle.xa_operate.specs.Agendas.{sessions_of}
use Rattle.xa_operate.specs.Askings.{IsAsking}
use Rattle.xa_operate.proofs.listed.push_sessions.Given as goal

-- what is to be asked so far, and of those that are left
abbrev pub invariant-loop-rest : goal.invariant-loop-rest
invariant-loop-rest l = (l.agenda.items ++ sessions_of l.task l.rest ≡ l.initial.agenda.items ++ sessions_of l.task l.branches) × All IsAsking l.agenda.items

abbrev pub decreases-loop-rest : goal.decreases-loop-rest
decreases-loop-rest l = length l.rest
