use Rattle.std.proofs.Common.{◌≡◌, take}
use Rattle.xa_room.proofs.copying.copied_xids.Given as goal

abbrev pub invariant-loop-xid : goal.invariant-loop-xid
invariant-loop-xid l = l.copies.items ≡ take l.xid-index l.xids
