use Rattle.std.proofs.Common.{drop}
use Rattle.xa_room.specs.Keeping.{Kept, NotesAll}
use Rattle.xa_room.proofs.receipts.Receipts.note_all.Given as goal

abbrev pub invariant-loop-told : goal.invariant-loop-told
invariant-loop-told l = (new : Kept) → NotesAll l.calls l.self (drop l.told-index l.replies) new → NotesAll l.calls l.fn.self l.replies new
