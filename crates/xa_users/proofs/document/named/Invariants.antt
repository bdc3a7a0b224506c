use Rattle.xa_users.proofs.Reading.{AreRead}
use Rattle.xa_users.proofs.document.named.Given as goal

abbrev pub invariant-loop-key : goal.invariant-loop-key
invariant-loop-key l = AreRead l.document.entries l.key-iterator l.by_name.entries
