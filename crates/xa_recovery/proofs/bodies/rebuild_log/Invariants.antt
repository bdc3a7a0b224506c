use Rattle.std.proofs.Common.{◌≡◌, ◌+◌, ◌++◌, length, map}
use Rattle.std.specs.Prelude.{vec_len}
use Rattle.xa_recovery.specs.Log.{HasComeTo}
use Rattle.xa_recovery.proofs.bodies.rebuild_log.Given as goal

abbrev pub invariant-loop-body : goal.invariant-loop-body
invariant-loop-body l = record {
  come : HasComeTo l.progress (map (λ b. b.items) l.yielded);
  counted : l.index ≡ length l.yielded;
  left : l.index + l.body-iterator.rest.len ≡ vec_len l.fn.bodies;
  whole : l.fn.bodies.items ≡ l.yielded ++ l.body-iterator.rest.items;
}
