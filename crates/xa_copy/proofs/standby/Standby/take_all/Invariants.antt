use Rattle.std.proofs.Common.{◌≡◌, ◌++◌, List, ℕ}
use Rattle.xa_copy.specs.Heads.{Heads}
use Rattle.xa_copy.specs.Moving.{Goes, State, Tells}
use Rattle.xa_copy.specs.Standbys.{IsAlong, IsPart, Leaving}
use Rattle.xa_copy.proofs.standby.Standby.take_all.Given as goal

abbrev pub invariant-pieces : goal.invariant-pieces
invariant-pieces g l = record {
  beside : l.self.log.other ≡ l.fn.self.log.other;
  settings : l.self.log.log_bytes ≡ l.fn.self.log.log_bytes;
  moments : g.S.Source.honest → g.D.Disk.honest → (begin : State) → Tells begin → Heads begin.file l.fn.head
      → (bodies stood : List (List ℕ)) → IsAlong g.D.Disk begin (g.S.Source.state l.fn.source) bodies stood l.fn.self
      → Leaving g.D.Disk l.fn.self.log.disk l.self.log.disk (IsPart l.fn.self.log.log_bytes (g.S.Source.state l.source));
  on_first : l.self.copied.on_first ≡ l.fn.self.copied.on_first;
  goes : g.S.Source.honest → Goes (g.S.Source.state l.fn.source) (g.S.Source.state l.source);
  along : g.S.Source.honest → g.D.Disk.honest → (begin : State) → Tells begin → Heads begin.file l.fn.head
      → (bodies stood : List (List ℕ)) → IsAlong g.D.Disk begin (g.S.Source.state l.fn.source) bodies stood l.fn.self
      → (more : List (List ℕ)) × IsAlong g.D.Disk begin (g.S.Source.state l.source) (bodies ++ more) stood l.self;
}
