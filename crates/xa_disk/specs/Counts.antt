-- How many device calls a disk was asked for, failed or not.
use Rattle.std.specs.Prelude.{ℕ, ◌+◌, ◌-◌, ◌^◌, min}
use Rattle.xa_disk.specs.declared.counts.Counts.{Counts}

-- the greatest count, at which each stops: the greatest u64
abbrev pub top : ℕ
top = 2 ^ 64 - 1

abbrev pub plus : ℕ → ℕ → ℕ
plus n more = min (n + more) top

abbrev pub no_calls : Counts
no_calls = record { lengths = 0; reads = 0; read_bytes = 0; writes = 0; syncs = 0 }

abbrev pub with_length : Counts → Counts
with_length c = record c { lengths = plus c.lengths 1 }

-- a read of this many bytes
abbrev pub with_read : ℕ → Counts → Counts
with_read bytes c = record c { reads = plus c.reads 1; read_bytes = plus c.read_bytes bytes }

abbrev pub with_write : Counts → Counts
with_write c = record c { writes = plus c.writes 1 }

abbrev pub with_sync : Counts → Counts
with_sync c = record c { syncs = plus c.syncs 1 }
