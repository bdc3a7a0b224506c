use Rattle.std.proofs.Common.{◌≡◌, ◌-◌, List, ℕ}
use Rattle.xa_copy.specs.Gathers.{end_of}
use Rattle.xa_copy.specs.Moving.{Goes, State}
use Rattle.xa_copy.specs.Progress.{IsWithin, Stands}
use Rattle.xa_copy.proofs.copying.Copying.copy_records.Given as goal

abbrev pub invariant-records : goal.invariant-records
invariant-records g l = record {
  within : IsWithin l.log_bytes l.self;
  goes : g.S.Source.honest → Goes (g.S.Source.state l.fn.source) (g.S.Source.state l.source);
  format : l.self.format ≡ l.fn.self.format;
  stands : (begin : State) (bodies : List (List ℕ))
      → Stands g.S.Source.honest g.D.Disk.honest begin (g.S.Source.state l.fn.source) (g.D.Disk.seen l.fn.to) bodies l.fn.self
      → (now : List (List ℕ)) × Stands g.S.Source.honest g.D.Disk.honest begin (g.S.Source.state l.source) (g.D.Disk.seen l.to) now l.self;
}

abbrev pub decreases-records : goal.decreases-records
decreases-records g l = l.log_bytes - end_of l.self.gather
