use Rattle.std.proofs.Common.{◌≡◌}
use Rattle.xa_copy.specs.Heads.{Heads}
use Rattle.xa_copy.specs.Moving.{Goes}
use Rattle.xa_copy.specs.Snapshots.{AreHeld, IsSnapshot}
use Rattle.xa_copy.proofs.snapshot.Snapshot.read.Given as goal

abbrev pub invariant-records : goal.invariant-records
invariant-records g l = record {
  held : AreHeld l.snapshot;
  on_first : l.snapshot.at.on_first ≡ l.fn.on_first;
  goes : g.S.Source.honest → Goes (g.S.Source.state l.fn.source) (g.S.Source.state l.source);
  snapshot : g.S.Source.honest → Heads (g.S.Source.state l.fn.source).file l.fn.head
      → IsSnapshot (g.S.Source.state l.fn.source) (g.S.Source.state l.source) l.snapshot;
}
