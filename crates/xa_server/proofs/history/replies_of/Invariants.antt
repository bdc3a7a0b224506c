use Rattle.std.proofs.Common.{◌≡◌, take}
use Rattle.xa_server.specs.Histories.{replies_of}
use Rattle.xa_server.proofs.history.replies_of.Given as goal

abbrev pub invariant-loop-receipt : goal.invariant-loop-receipt
invariant-loop-receipt l = l.text.items ≡ replies_of (take l.receipt-index l.history)
