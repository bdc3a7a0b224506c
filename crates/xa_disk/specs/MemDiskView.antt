-- What the contracts of a disk in memory speak of.
use Rattle.std.specs.Prelude.{◌≡◌, ℕ, List}
use Rattle.xa_disk.specs.declared.call.Call.{Call}
use Rattle.xa_disk.specs.declared.counts.Counts.{Counts}
use Rattle.xa_disk.specs.declared.faults.Faults.{Faults}
use Rattle.xa_disk.specs.Replay.{replay}

pub record MemDiskView : Type 0 where
  -- what it held at first
  pub first : List ℕ
  -- the writes and syncs since that had an effect, the oldest first
  pub calls : List Call
  -- what a read gives
  pub bytes : List ℕ
  -- which device calls from now on will fail
  pub faults : Faults
  -- how many faults there were
  pub failures : ℕ
  pub counts : Counts
  pub replayed : bytes ≡ (replay first calls).seen
