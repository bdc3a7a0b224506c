use Rattle.std.proofs.Common.{◌≡◌, ◌+◌, ◌≤◌, length, map}
use Rattle.std.specs.List.{AllByRecursion}
use Rattle.std.specs.Prelude.{sum_by}
use Rattle.xa_server.specs.Believed.Loops.{IsFresh}
use Rattle.xa_server.proofs.engine.make_posts.Given as goal

abbrev pub invariant-loop-i : goal.invariant-loop-i
invariant-loop-i g l = record {
  enough : l.loops + 1 ≤ l.rest.parts + l.i;
  some : l.i ≤ l.loops;
  fresh : IsFresh l.rest;
  so_far : length l.posts.items + 1 ≡ l.i;
  parts : l.rest.parts + sum_by (λ p. p.handle.asker.parts) l.posts.items ≡ l.initial.rest.parts;
  all : AllByRecursion IsFresh (map (λ p. p.handle.asker) l.posts.items);
}
