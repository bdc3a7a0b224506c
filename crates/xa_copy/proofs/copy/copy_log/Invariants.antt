use Rattle.xa_copy.specs.Moving.{Goes}
use Rattle.xa_copy.proofs.copy.copy_log.Given as goal

abbrev pub invariant-tries : goal.invariant-tries
invariant-tries g l = record {
  first : g.S.Source.honest → Goes (g.S.Source.state l.fn.first) (g.S.Source.state l.first);
  second : g.S.Source.honest → Goes (g.S.Source.state l.fn.second) (g.S.Source.state l.second);
}
