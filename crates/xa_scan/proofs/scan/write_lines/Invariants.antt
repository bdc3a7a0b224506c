use Rattle.std.proofs.Common.{length}
use Rattle.xa_log.specs.Reading.{bodies_of}
use Rattle.xa_scan.proofs.Printing.{Printed}
use Rattle.xa_scan.proofs.scan.write_lines.Given as goal

-- the lines so far are written
abbrev pub invariant-loop-body : goal.invariant-loop-body
invariant-loop-body g l = Printed l.format (bodies_of l.bodies) (bodies_of l.rest) l.offset (g.W.Write.contents l.fn.writer) (g.W.Write.contents l.writer)

abbrev pub decreases-loop-body : goal.decreases-loop-body
decreases-loop-body g l = length l.rest
