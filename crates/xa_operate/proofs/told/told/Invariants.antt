use Rattle.std.proofs.Common.{◌≡◌, length}
use Rattle.xa_operate.specs.Told.{told}
use Rattle.xa_operate.proofs.told.told.Given as goal

-- it isn't told before what is left
abbrev pub invariant-loop-rest : goal.invariant-loop-rest
invariant-loop-rest l = told l.numbers l.id ≡ told l.rest l.id

abbrev pub decreases-loop-rest : goal.decreases-loop-rest
decreases-loop-rest l = length l.rest
