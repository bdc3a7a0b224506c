use Rattle.std.proofs.Common.{take}
use Rattle.xa_recovery.specs.Last.{Notes}
use Rattle.xa_recovery.proofs.last.note.Given as goal

abbrev pub invariant-loop-write : goal.invariant-loop-write
invariant-loop-write l = Notes l.fn.written (take l.write-index l.writes) l.written
