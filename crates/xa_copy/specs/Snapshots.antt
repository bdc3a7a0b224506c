-- The records with which a log begins that a checkpoint wrote.
use Rattle.std.specs.Prelude.{◌≡◌, ◌⊎◌, ◌≤◌, ◌<◌, ℕ, List, length, Result, MatchResult}
use Rattle.std.specs.List.{AllByRecursion}
use Rattle.xa_disk.specs.declared.disk.Disk.{Ghosts}
use Rattle.xa_limits.specs.declared.TheConstants.{MOST_BODY}
use Rattle.xa_log.specs.Believed.Chain.{IsBody, newest}
use Rattle.xa_disk.specs.Time.{LeavesOnly}
use Rattle.xa_log.specs.Believed.Checkpoint.{LeavesAny}
use Rattle.xa_log.specs.Believed.Generation.{generation}
use Rattle.xa_log.specs.Believed.LogView.{LogView}
use Rattle.xa_log.specs.Believed.TwoFiles.{MaySeal, Pair}
use Rattle.xa_copy.specs.Marks.{Marks}
use Rattle.xa_copy.specs.Moving.{State}
use Rattle.xa_copy.specs.Progress.{Follows}
use Rattle.xa_copy.specs.declared.follow_fault.FollowFault.{FollowFault}
use Rattle.xa_copy.specs.declared.snapshot.Snapshot.{Snapshot}
use Rattle.xa_copy.specs.declared.standby.Standby.{Standby}

-- these were read since a moment
pub record IsSnapshot (begin now : State) (snapshot : Snapshot) : Type 0 where
  pub marks : Marks snapshot.bodies.items snapshot.at
  pub follows : Follows snapshot.at.format snapshot.bodies.items begin now

-- a log may begin with them, and none is longer than the longest one
pub record AreHeld (snapshot : Snapshot) : Type 0 where
  pub sizes : AllByRecursion (IsBody snapshot.at.format) snapshot.bodies.items
  pub fit : AllByRecursion (λ body. length body ≤ snapshot.longest) snapshot.bodies.items
  pub small : snapshot.longest ≤ MOST_BODY

-- what became of a checkpoint of bodies
abbrev pub Replaces : {D T : Type 0} → Ghosts D → Result T FollowFault → List (List ℕ) → List (List ℕ) → List (List ℕ)
    → LogView D → LogView D → Type 0
Replaces disks result bodies stood fresh old new =
    MatchResult result (λ _. Pair disks fresh bodies new × (new.format ≡ newest))
    (λ _. (((other : List (List ℕ)) × Pair disks bodies other new) ⊎ MaySeal disks bodies fresh new) × (new.format ≡ old.format))

-- and what a crash meanwhile leaves of the file that it writes; the other one stays
abbrev pub LeavesReplaced : {D T : Type 0} → Ghosts D → Result T FollowFault → List (List ℕ) → List (List ℕ) → LogView D → LogView D → Type 0
LeavesReplaced disks result stood fresh old new =
    MatchResult result (λ _. (new.other ≡ old.disk) × LeavesOnly disks old.other new.disk (LeavesAny old.log_bytes newest stood fresh))
    (λ _. (new.disk ≡ old.disk) × ((new.other ≡ old.other)
    ⊎ ((1 ≤ length fresh) × LeavesOnly disks old.other new.other (LeavesAny old.log_bytes newest stood fresh))))

-- what became of a log that was begun anew with a snapshot
abbrev pub BeginsAnew : {D : Type 0} → Ghosts D → Result (Unit {0}) FollowFault → List (List ℕ) → List (List ℕ) → Snapshot
    → Standby D → Standby D → Type 0
BeginsAnew disks result bodies stood snapshot old new =
    MatchResult result
    (λ _. Pair disks snapshot.bodies.items bodies new.log × (new.log.format ≡ snapshot.at.format) × (new.copied ≡ snapshot.at)
    × (1 ≤ length snapshot.bodies.items) × (old.log.generation < generation snapshot.bodies.items))
    (λ _. (((other : List (List ℕ)) × Pair disks bodies other new.log) ⊎ MaySeal disks bodies snapshot.bodies.items new.log)
    × (new.log.format ≡ old.log.format) × (new.copied ≡ old.copied))
