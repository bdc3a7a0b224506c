-- What a crash leaves that keeps some first bytes of those written since the last sync.
use Rattle.std.specs.Prelude.{ℕ, zero, suc, ◌+◌, ◌-◌, List, [], ◌∷◌, ◌++◌, length, take}
use Rattle.xa_disk.specs.Disk.{put}
use Rattle.xa_disk.specs.declared.call.Call.{Call}
use Rattle.xa_disk.specs.declared.call.Call.TheVariants.{Write, Sync}
use Rattle.xa_disk.specs.Replay.{replay}

-- the calls after the last sync, if these were made since one before
abbrev pub unsynced : List Call → List Call → List Call
unsynced since [] = since
unsynced since (Write at bytes ∷ calls) = unsynced (since ++ Write at bytes ∷ []) calls
unsynced since (Sync ∷ calls) = unsynced [] calls

-- how many bytes they wrote; repeated writes of one place count each time
abbrev pub written_bytes : List Call → ℕ
written_bytes [] = 0
written_bytes (Write at bytes ∷ calls) = length bytes.items + written_bytes calls
written_bytes (Sync ∷ calls) = written_bytes calls

-- a write of which the first k bytes stay: its front, and the length that it then reaches
abbrev pub put_front : ℕ → List ℕ → ℕ → List ℕ → List ℕ
put_front zero old at bytes = old
put_front (suc k) old at bytes = put old at (take (suc k) bytes)

-- writes, in order, of which the first k bytes stay
abbrev pub put_fronts : ℕ → List ℕ → List Call → List ℕ
put_fronts k old [] = old
put_fronts k old (Write at bytes ∷ calls) = put_fronts (k - length bytes.items) (put_front k old at bytes.items) calls
put_fronts k old (Sync ∷ calls) = put_fronts k old calls

-- what the last sync made stable, and the first k bytes written since
abbrev pub kept : List ℕ → List Call → ℕ → List ℕ
kept first calls k = put_fronts k (replay first calls).stable (unsynced [] calls)
