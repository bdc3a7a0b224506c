use Rattle.std.proofs.Common.{◌≡◌, ◌++◌, take}
use Rattle.xa_script.specs.Replies.{xids_text}
use Rattle.xa_script.proofs.reply.push_xids.Given as goal

abbrev pub invariant-loop-xid : goal.invariant-loop-xid
invariant-loop-xid l = l.line.items ≡ l.initial.line.items ++ xids_text (take l.xid-index l.xids)
