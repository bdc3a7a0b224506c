-- How the fields of a disk in memory are what its contracts speak of.
use Rattle.xa_disk.specs.MemDiskView.{MemDiskView}
use Rattle.xa_disk.specs.Replay.{first_of}
use Rattle.xa_disk.specs.declared.memory.MemDisk.TheInside.{Inside}

abbrev pub shown : Inside → MemDiskView
shown disk = record {
  first = first_of disk.first disk.bytes.items;
  calls = disk.calls.items;
  bytes = disk.bytes.items;
  faults = disk.faults;
  failures = disk.failures;
  counts = disk.counts;
  replayed = disk.replayed;
}
