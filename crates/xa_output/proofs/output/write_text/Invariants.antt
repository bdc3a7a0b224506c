use Rattle.xa_output.proofs.Pieces.{Written}
use Rattle.xa_output.proofs.output.write_text.Given as goal

abbrev pub invariant-loop : goal.invariant-loop
invariant-loop g l = Written l.fn.text l.rest (g.W.Write.contents l.fn.writer) (g.W.Write.contents l.writer)
