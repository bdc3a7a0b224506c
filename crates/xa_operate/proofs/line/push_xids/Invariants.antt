use Rattle.std.proofs.Common.{◌≡◌, ◌++◌, take}
use Rattle.xa_operate.specs.Lines.{xid_lines}
use Rattle.xa_operate.proofs.line.push_xids.Given as goal

abbrev pub invariant-loop-xid : goal.invariant-loop-xid
invariant-loop-xid l = l.line.items ≡ l.initial.line.items ++ xid_lines l.format (take l.xid-index l.xids)
