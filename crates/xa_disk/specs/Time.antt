-- How time passes for a disk, and what a crash leaves meanwhile: of a type of disks, whose members are one record.
use Rattle.std.specs.Prelude.{◌⊎◌, ◌≤◌, ℕ, List}
use Rattle.xa_disk.specs.Disk.{Passes}
use Rattle.xa_disk.specs.declared.disk.Disk.{Ghosts}

-- time goes on by a step, from one state of a disk to another
abbrev pub TimePasses : {D : Type 0} → Ghosts D → (List ℕ → List ℕ → Type 0) → D → D → Type 0
TimePasses disks step old new =
    Passes step (disks.moment old) (disks.moment new)
    (disks.left_since old) (disks.left_since new) (disks.may_leave old) (disks.may_leave new)

-- a crash at any moment since old leaves what has P
pub record LeavesOnly {D : Type 0} (disks : Ghosts D) (old new : D) (P : List ℕ → Type 0) : Type 0 where
  pub later : disks.moment old ≤ disks.moment new
  pub each : (c : List ℕ) → disks.left_since new (disks.moment old) c → P c
  -- for a run that began earlier
  pub before : (t : ℕ) (c : List ℕ) → t ≤ disks.moment old → disks.left_since new t c → disks.left_since old t c ⊎ P c
