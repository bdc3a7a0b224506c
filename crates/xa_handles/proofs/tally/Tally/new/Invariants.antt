use Rattle.std.proofs.Common.{◌≡◌, vec_len}
use Rattle.xa_handles.proofs.tally.Tally.new.Given as goal

abbrev pub invariant-loop : goal.invariant-loop
invariant-loop l = vec_len l.counts ≡ l.counter
