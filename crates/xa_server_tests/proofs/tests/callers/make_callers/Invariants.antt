use Rattle.std.proofs.Common.{◌≡◌, ◌+◌, ◌≤◌, [], length}
use Rattle.xa_server_tests.proofs.tests.callers.make_callers.Given as goal
use Rattle.xa_tokens.specs.Believed.Account.{account}
use Rattle.xa_tokens.specs.Believed.View.{all_parts}

abbrev pub invariant-loop-i : goal.invariant-loop-i
invariant-loop-i g l = record {
  rest : l.rest ≡ account l.rest.parts [] [] [];
  parts : l.rest.parts + length l.callers.items ≡ all_parts;
  so_far : length l.callers.items ≡ l._i;
  few : l.count ≤ 8;
}
