use Rattle.std.proofs.Common.{◌≡◌, ◌+◌, ◌-◌, ◌≤◌, length, take, drop}
use Rattle.xa_disk.specs.Disk.{Same}
use Rattle.xa_disk.specs.Time.{TimePasses}
use Rattle.xa_disk.specs.declared.counts.Counts.{Counts}
use Rattle.xa_log.specs.Calls.{Fetched}
use Rattle.xa_log.proofs.found.read_pieces.Given as goal

abbrev pub invariant-pieces : goal.invariant-pieces
invariant-pieces g l = record {
  more : l.fn.have ≤ l.done;
  inside : l.done ≤ length l.fn.body;
  room : length l.body ≡ length l.fn.body;
  read : g.D.Disk.honest → take l.fn.have l.fn.body ≡ take l.fn.have (drop l.at (g.D.Disk.seen l.fn.disk)) → take l.done l.body ≡ take l.done (drop l.at (g.D.Disk.seen l.fn.disk));
  same : g.D.Disk.honest → g.D.Disk.seen l.disk ≡ g.D.Disk.seen l.fn.disk;
  time : g.D.Disk.honest → TimePasses g.D.Disk Same l.fn.disk l.disk;
  faults : g.D.Disk.failures l.disk ≡ g.D.Disk.failures l.fn.disk;
  fetched : (start : Counts) → Fetched l.len (l.at + l.fn.have) start (g.D.Disk.counts l.fn.disk) → Fetched l.len (l.at + l.done) start (g.D.Disk.counts l.disk);
}

abbrev pub decreases-pieces : goal.decreases-pieces
decreases-pieces g l = length l.fn.body - l.done
