use Rattle.std.proofs.Common.{◌≡◌, ◌+◌, ◌-◌, ◌≤◌, List, ℕ, length, IfSome}
use Rattle.xa_disk.specs.Disk.{Same}
use Rattle.xa_disk.specs.Time.{TimePasses}
use Rattle.xa_disk.specs.declared.counts.Counts.{Counts}
use Rattle.xa_log.specs.Calls.{FetchedNext}
use Rattle.xa_log.specs.Reading.{Finds, Fits, bodies_of}
use Rattle.xa_log.proofs.Left.{Along}
use Rattle.xa_log.proofs.left_out.read_chain.Given as goal

abbrev pub invariant-records : goal.invariant-records
invariant-records g l = record {
  room : length l.window ≡ length l.fn.window;
  within : l.end ≤ l.len;
  fits : IfSome l.next (Fits l.fn.format l.end l.len 1048576);
  same : g.D.Disk.honest → g.D.Disk.seen l.disk ≡ g.D.Disk.seen l.fn.disk;
  along : (prev : List ℕ) (most : ℕ) → g.D.Disk.honest → l.len ≡ length (g.D.Disk.seen l.fn.disk) → l.len ≤ l.fn.at + most → Finds l.fn.format prev (g.D.Disk.seen l.fn.disk) l.fn.at l.fn.window l.fn.first
      → Along l.fn.format (g.D.Disk.seen l.fn.disk) prev most l.fn.at l.window l.end (bodies_of l.bodies.items) l.next;
  time : g.D.Disk.honest → TimePasses g.D.Disk Same l.fn.disk l.disk;
  fetched : (begin : Counts) (most : ℕ) → FetchedNext l.len most begin (g.D.Disk.counts l.fn.disk) l.fn.first → FetchedNext l.len (l.len + 1048576) begin (g.D.Disk.counts l.disk) l.next;
  faults : g.D.Disk.failures l.disk ≡ g.D.Disk.failures l.fn.disk;
}

abbrev pub decreases-records : goal.decreases-records
decreases-records g l = l.len - l.end
