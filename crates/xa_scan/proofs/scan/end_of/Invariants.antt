use Rattle.std.proofs.Common.{◌≡◌, length}
use Rattle.xa_log.specs.Reading.{bodies_of}
use Rattle.xa_scan.specs.Lines.{behind}
use Rattle.xa_limits.specs.declared.TheConstants.{FIRST_OFFSET}
use Rattle.xa_scan.proofs.scan.end_of.Given as goal

-- after the bodies that are left stands what stands after all
abbrev pub invariant-loop-body : goal.invariant-loop-body
invariant-loop-body l = behind FIRST_OFFSET (bodies_of l.bodies) ≡ behind l.offset (bodies_of l.rest)

abbrev pub decreases-loop-body : goal.decreases-loop-body
decreases-loop-body l = length l.rest
