use Rattle.std.proofs.Common.{◌≡◌, length}
use Rattle.xa_server.proofs.engine.make_tallies.Given as goal

abbrev pub invariant-loop-i : goal.invariant-loop-i
invariant-loop-i l = length l.tallies.items ≡ l._i
