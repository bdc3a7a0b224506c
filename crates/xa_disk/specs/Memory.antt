-- What a disk in memory shows, and how its planned faults come.
use Rattle.std.specs.Prelude.{◌≡◌, ◌⊎◌, ◌+◌, ◌≤◌, ◌<◌, ◌==◌, ◌&&◌, ◌||◌, ℕ, Bool, not, nat_le, if◌then◌else◌, List, [], ◌∷◌, ◌++◌, length, Vec}
use Rattle.std.specs.Prelude.{Option, Some, None, Result, MatchResult}
use Rattle.std.specs.declared.alloc.Global.{Global}
use Rattle.xa_disk.specs.declared.call.Call.TheVariants.{Write, Sync}
use Rattle.xa_disk.specs.declared.disk.DiskFault.{DiskFault}
use Rattle.xa_disk.specs.MemDiskView.{MemDiskView}
use Rattle.xa_disk.specs.declared.plan.Effect.{Effect}
use Rattle.xa_disk.specs.declared.plan.Effect.TheVariants.{Kept, Lost}
use Rattle.xa_disk.specs.Disk.{put, Only, Passes}
use Rattle.xa_disk.specs.Plans.{stops_in, planned_in}
use Rattle.xa_disk.specs.Counts.{no_calls}
use Rattle.xa_disk.specs.Replay.{replay, IsImage, LeftSince}
use Rattle.xa_disk.specs.Keeping.{unsynced, written_bytes, kept}

-- what a crash now may leave
abbrev pub image_of : MemDiskView → List ℕ → Type 0
image_of disk c = IsImage (replay disk.first disk.calls) c

-- what a crash since a moment may have left
abbrev pub since : MemDiskView → ℕ → List ℕ → Type 0
since disk t c = LeftSince disk.first disk.calls t c

-- the bytes and the record of calls stay, so what a read gives and what a crash may leave
pub record Keeps (old new : MemDiskView) : Type 0 where
  pub first : new.first ≡ old.first
  pub calls : new.calls ≡ old.calls
  pub bytes : new.bytes ≡ old.bytes

-- and so do the counts
pub record Stays (old new : MemDiskView) : Type 0 where
  pub same : Keeps old new
  pub failures : new.failures ≡ old.failures
  pub counts : new.counts ≡ old.counts

-- one more write, with its effect; no crash leaves it for sure
pub record Wrote (old new : MemDiskView) (at : ℕ) (bytes : List ℕ) : Type 0 where
  pub first : new.first ≡ old.first
  pub noted : (v : Vec ℕ Global) × (v.items ≡ bytes) × (new.calls ≡ old.calls ++ Write at v ∷ [])
  pub bytes_are : new.bytes ≡ put old.bytes at bytes

-- one more sync, with its effect
pub record Synced (old new : MemDiskView) : Type 0 where
  pub first : new.first ≡ old.first
  pub noted : new.calls ≡ old.calls ++ Sync ∷ []
  pub bytes : new.bytes ≡ old.bytes

-- time goes on by a step
abbrev pub PassesTime : (List ℕ → List ℕ → Type 0) → MemDiskView → MemDiskView → Type 0
PassesTime step old new =
    Passes step (length old.calls) (length new.calls) (since old) (since new) (image_of old) (image_of new)

-- no fault is counted and no call
pub record SameCounts (old new : MemDiskView) : Type 0 where
  pub failures : new.failures ≡ old.failures
  pub counts : new.counts ≡ old.counts

-- what the k-th device call from now will do, if it is planned to fail
abbrev pub planned : MemDiskView → ℕ → Option Effect
planned disk k = planned_in disk.faults k

-- a stop covers the k-th device call from now
abbrev pub stops : MemDiskView → ℕ → Bool
stops disk k = stops_in disk.faults k

-- one more plan, which counts if no stop covers its call
pub record Adds (k : ℕ) (effect : Effect) (old new : MemDiskView) : Type 0 where
  pub calls : (j : ℕ) → planned new j ≡ (if k == j && not (stops old j) then Some effect else planned old j)
  pub stopped : (j : ℕ) → stops new j ≡ stops old j

-- each call from the k-th on is lost; the calls before it do what they did
pub record Stops (k : ℕ) (old new : MemDiskView) : Type 0 where
  pub calls : (j : ℕ) → planned new j ≡ (if nat_le k j then Some Lost else planned old j)
  pub stopped : (j : ℕ) → stops new j ≡ (nat_le k j || stops old j)

pub record SamePlans (old new : MemDiskView) : Type 0 where
  pub calls : (j : ℕ) → planned new j ≡ planned old j
  pub stopped : (j : ℕ) → stops new j ≡ stops old j

-- one device call less until each that is planned to fail, and until a stop
pub record CountsDown (old new : MemDiskView) : Type 0 where
  pub calls : (k : ℕ) → 1 ≤ k → planned new k ≡ planned old (k + 1)
  pub stopped : (k : ℕ) → stops new k ≡ stops old (k + 1)

-- How a device call answers its plan: with none it does its work, or fails for a cause of its own; planned Lost it
-- fails and changes nothing; planned Kept it fails, and its work is done as with none.
abbrev pub Heeds : {T : Type 0} → Option Effect → Result T DiskFault → Type 0 → Type 0 → Type 0 → Type 0
Heeds None result done refused nothing = MatchResult result (λ _. done) (λ _. refused)
Heeds (Some Lost) result done refused nothing = MatchResult result (λ _. ⊥) (λ _. nothing)
Heeds (Some Kept) result done refused nothing = MatchResult result (λ _. ⊥) (λ _. done ⊎ refused)

-- a disk that holds these bytes, all of them stable, with no plan
pub record IsNew (bytes : List ℕ) (disk : MemDiskView) : Type 0 where
  pub seen : disk.bytes ≡ bytes
  pub durable : Only bytes (image_of disk)
  pub plans : (k : ℕ) → planned disk k ≡ None
  pub failures : disk.failures ≡ 0
  pub counts : disk.counts ≡ no_calls

-- what was stable is what a read gives now, and all that a crash leaves
pub record Crashes (old new : MemDiskView) : Type 0 where
  pub seen : new.bytes ≡ (replay old.first old.calls).stable
  pub left : image_of old new.bytes
  pub durable : Only new.bytes (image_of new)
  pub plans : (k : ℕ) → planned new k ≡ None
  pub failures : new.failures ≡ old.failures
  pub counts : new.counts ≡ old.counts

-- the same, if of the bytes written since the last sync the first k stay too, which are all of them if k is above
pub record CrashesKeeping (k : ℕ) (old new : MemDiskView) : Type 0 where
  pub seen : new.bytes ≡ kept old.first old.calls k
  pub all : written_bytes (unsynced [] old.calls) < k → new.bytes ≡ old.bytes
  pub left : image_of old new.bytes
  pub durable : Only new.bytes (image_of new)
  pub plans : (j : ℕ) → planned new j ≡ None
  pub failures : new.failures ≡ old.failures
  pub counts : new.counts ≡ old.counts
