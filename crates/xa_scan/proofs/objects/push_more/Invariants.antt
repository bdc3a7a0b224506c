use Rattle.std.proofs.Common.{◌≡◌, ◌++◌, take}
use Rattle.xa_scan.specs.Objects.{more_objects}
use Rattle.xa_scan.proofs.objects.push_more.Given as goal

abbrev pub invariant-loop-write : goal.invariant-loop-write
invariant-loop-write l = l.line.items ≡ l.initial.line.items ++ more_objects (take l.write-index l.writes)
