use Rattle.std.proofs.Common.{◌≡◌, map}
use Rattle.xa_reactor.proofs.loops.prepare.Given as goal

abbrev pub invariant-loop-door : goal.invariant-loop-door
invariant-loop-door g l = map (λ s. s.door) l.seeds.items ≡ l.yielded
