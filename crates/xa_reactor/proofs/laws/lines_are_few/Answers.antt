use Rattle.std.proofs.Common.{ℕ, arith}
use Rattle.xa_reactor.specs.Allowance.{latest, new_allowance}
use Rattle.xa_reactor.proofs.Lines.{few, none_lost}
use Rattle.xa_reactor.proofs.laws.lines_are_few.Goals as goal

pub returns-clause-few : goal.returns-clause-few
returns-clause-few c = λ times most. omega (arith, few new_allowance times (latest times) most (omega arith))

pub returns-clause-lost : goal.returns-clause-lost
returns-clause-lost c = λ times most. omega (arith, none_lost new_allowance times (omega (arith, most)))
