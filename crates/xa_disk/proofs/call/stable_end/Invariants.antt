use Rattle.std.proofs.Common.{◌≡◌, ◌≤◌, ℕ, List, [], take, drop}
use Rattle.xa_disk.specs.Replay.{replay}
use Rattle.xa_disk.specs.Keeping.{unsynced}
use Rattle.xa_disk.proofs.call.stable_end.Given as goal

abbrev pub invariant-loop-i : goal.invariant-loop-i
invariant-loop-i l = (l.end ≤ l.i) × ((first : List ℕ) → (replay first (take l.i l.calls)).stable ≡ (replay first (take l.end l.calls)).seen) × (unsynced [] (take l.i l.calls) ≡ drop l.end (take l.i l.calls))
