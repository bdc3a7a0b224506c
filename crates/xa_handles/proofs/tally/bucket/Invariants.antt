use Rattle.std.proofs.Common.{◌≡◌, ◌+◌, ◌-◌, ◌≤◌}
use Rattle.xa_handles.specs.Counts.{bucket, halvings}
use Rattle.xa_handles.proofs.tally.bucket.Given as goal

abbrev pub invariant-loop-exponent : goal.invariant-loop-exponent
invariant-loop-exponent l = record {
  so_far : bucket l.number l.last ≡ l.exponent + halvings (l.last - l.exponent) l.rest;
  few : l.exponent ≤ l.last;
}
