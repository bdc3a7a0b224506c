use Rattle.std.proofs.Common.{◌≡◌, take}
use Rattle.xa_disk.specs.Replay.{replay}
use Rattle.xa_disk.proofs.call.replayed.Given as goal

abbrev pub invariant-loop-call : goal.invariant-loop-call
invariant-loop-call l = l.bytes.items ≡ (replay l.first (take l.call-index l.calls)).seen
