use Rattle.std.proofs.Common.{◌≡◌, ◌++◌, length}
use Rattle.xa_operate.specs.Families.{samples}
use Rattle.xa_operate.proofs.family.samples.Given as goal

-- the samples so far, and those of what is left
abbrev pub invariant-loop-rest : goal.invariant-loop-rest
invariant-loop-rest l = l.text.items ++ samples l.family l.rest ≡ samples l.family l.numbers

abbrev pub decreases-loop-rest : goal.decreases-loop-rest
decreases-loop-rest l = length l.rest
