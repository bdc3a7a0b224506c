use Rattle.std.proofs.Common.{◌≡◌, take}
use Rattle.xa_server.specs.Histories.{script_of}
use Rattle.xa_server.proofs.history.script_of.Given as goal

abbrev pub invariant-loop-receipt : goal.invariant-loop-receipt
invariant-loop-receipt l = l.text.items ≡ script_of (take l.receipt-index l.history)
