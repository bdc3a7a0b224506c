use Rattle.std.proofs.Common.{◌≡◌, map}
use Rattle.mv_rules.specs.Collected.{as_write}
use Rattle.mv_rules.proofs.writes.listed.Given as goal

abbrev pub invariant-loop-key : goal.invariant-loop-key
invariant-loop-key l = l.writes.items ≡ map as_write l.yielded
