use Rattle.std.proofs.Common.{◌≡◌, drop}
use Rattle.xa_disk.specs.Keeping.{put_fronts}
use Rattle.xa_disk.proofs.call.write_fronts.Given as goal

abbrev pub invariant-loop-call : goal.invariant-loop-call
invariant-loop-call l = put_fronts l.left l.bytes.items (drop l.call-index l.calls) ≡ put_fronts l.fn.k l.fn.bytes.items l.calls
