use Rattle.std.proofs.Common.{◌≡◌, ◌+◌, length}
use Rattle.xa_server_tests.proofs.tests.callers.gather.Given as goal
use Rattle.xa_tokens.specs.Believed.Account.{Owes}

abbrev pub invariant-loop-done : goal.invariant-loop-done
invariant-loop-done g l = record {
  parts : l.all.parts + length l.dones.items ≡ l.fn.rest.parts + length l.fn.dones.items;
  owes : Owes l.all 0;
}

abbrev pub decreases-loop-done : goal.decreases-loop-done
decreases-loop-done g l = length l.dones.items
