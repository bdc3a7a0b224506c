use Rattle.mv_rules.proofs.Remade.{low_rises, stands_restored}
use Rattle.mv_rules.proofs.Orderly.{in_turn}
use Rattle.mv_rules.proofs.laws.restoring.Goals as goal

pub returns-clause-low : goal.returns-clause-low
returns-clause-low c = low_rises

pub returns-clause-restored : goal.returns-clause-restored
returns-clause-restored c = stands_restored

pub returns-clause-order : goal.returns-clause-order
returns-clause-order c = λ d h. in_turn d h
