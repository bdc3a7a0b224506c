use Rattle.std.proofs.Common.{◌≡◌, ◌+◌, ◌≤◌, length, take, drop}
use Rattle.xa_disk.specs.Disk.{put, Torn, Passes}
use Rattle.xa_log.specs.Believed.Chain.{start, last, text, records}
use Rattle.xa_log.specs.Calls.{with_writes}
use Rattle.xa_log.specs.Believed.Checkpoint.{records_bytes}
use Rattle.xa_log.proofs.checkpointing.put_records.Given as goal

abbrev pub invariant-loop-body : goal.invariant-loop-body
invariant-loop-body g l = record {
  room : length l.buffer ≡ length l.fn.buffer;
  end : l.end ≡ length (text l.fn.format (take l.body-index l.fn.bodies));
  digest : l.digest ≡ last (start l.fn.format) (take l.body-index l.fn.bodies);
  written : g.D.Disk.honest → 12 ≤ length (g.D.Disk.seen l.fn.disk) → g.D.Disk.seen l.disk ≡ put (g.D.Disk.seen l.fn.disk) 12 (drop 4 (records (start l.fn.format) (take l.body-index l.fn.bodies)));
  torn : g.D.Disk.honest → Torn 12 (records_bytes l.fn.format l.fn.bodies + l.fn.more) (g.D.Disk.seen l.fn.disk) (g.D.Disk.seen l.disk);
  time : g.D.Disk.honest → Passes (Torn 12 (records_bytes l.fn.format l.fn.bodies + l.fn.more)) (g.D.Disk.moment l.fn.disk) (g.D.Disk.moment l.disk) (g.D.Disk.left_since l.fn.disk) (g.D.Disk.left_since l.disk) (g.D.Disk.may_leave l.fn.disk) (g.D.Disk.may_leave l.disk);
  faults : g.D.Disk.failures l.disk ≡ g.D.Disk.failures l.fn.disk;
  calls : g.D.Disk.counts l.disk ≡ with_writes l.body-index (g.D.Disk.counts l.fn.disk);
}
