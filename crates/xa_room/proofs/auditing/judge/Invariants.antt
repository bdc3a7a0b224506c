use Rattle.std.proofs.Common.{◌≡◌, ℕ, List, [], length, drop}
use Rattle.std.specs.Prelude.{Result}
use Rattle.xa_room.specs.declared.auditing.AuditFault.{AuditFault}
use Rattle.xa_room.specs.Believed.Audit.{Judges}
use Rattle.xa_room.specs.HasMet.{HasMet}
use Rattle.xa_room.proofs.auditing.judge.Given as goal

abbrev pub invariant-loop-i : goal.invariant-loop-i
invariant-loop-i l = record {
  size : length l.met.items ≡ length l.kept;
  so_far : (met : List ℕ) × HasMet l.met.items met × ((answer : Result (Unit {0}) AuditFault) → Judges l.kept met l.i (drop l.i l.told) answer → Judges l.kept [] 0 l.told answer);
}
