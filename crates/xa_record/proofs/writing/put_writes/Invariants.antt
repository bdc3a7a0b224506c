use Rattle.std.proofs.Common.{◌≡◌, ◌++◌, take}
use Rattle.std.specs.Prelude.{flat_map}
use Rattle.xa_record.specs.Spelling.{write_bytes}
use Rattle.xa_record.proofs.writing.put_writes.Given as goal

abbrev pub invariant-loop-write : goal.invariant-loop-write
invariant-loop-write l = l.out.items ≡ l.initial.out.items ++ flat_map write_bytes (take l.write-index l.writes)
