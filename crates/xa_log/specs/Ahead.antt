-- How far a file is made ready ahead of its log.
use Rattle.std.specs.Prelude.{◌≡◌, ◌⊎◌, ℕ, ◌+◌, ◌-◌, ◌/◌, ◌%◌, ◌≤◌, ◌<◌, ◌==◌, ◌||◌, min, nat_le, if◌then◌else◌, List, length}
use Rattle.xa_disk.specs.declared.disk.Disk.{Ghosts}
use Rattle.xa_log.specs.Answers.{Wrote}
use Rattle.xa_log.specs.Calls.{AppendsAhead}
use Rattle.xa_log.specs.Believed.Group.{as_one, closed, closed_by}
use Rattle.xa_log.specs.declared.ahead.TheConstants.{READY_BYTES}
use Rattle.xa_log.specs.declared.shortening.TheConstants.{SPARE_BYTES}
use Rattle.xa_log.specs.declared.appending.Appended.{Appended}
use Rattle.xa_log.specs.Believed.LogView.{LogView}
use Rattle.xa_limits.specs.declared.TheConstants.{AROUND_CLOSED}

-- how many bytes there are from an offset up to the end of its piece, within the limit
abbrev pub piece_from : ℕ → ℕ → ℕ
piece_from to most = min (READY_BYTES - to % READY_BYTES) (most - to)

-- How many zeros go after what is written from one offset up to another: those up to the end of the piece that it
-- reaches into, within the limit; none if it stays in the piece in which it begins, or the file is known to reach
-- that end.
abbrev pub ready : ℕ → ℕ → ℕ → ℕ → ℕ
ready from to most known =
    if from / READY_BYTES == to / READY_BYTES || nat_le (to + piece_from to most) known then 0 else piece_from to most

-- how many go after an append of a body of this many bytes
abbrev pub ready_for : {D : Type 0} → LogView D → ℕ → ℕ
ready_for log n = ready log.end (log.end + AROUND_CLOSED + n) log.log_bytes log.known

-- where a file is cut of which this much has to stay: at the end of that piece
abbrev pub cut_behind : ℕ → ℕ
cut_behind keep = keep + (READY_BYTES - keep % READY_BYTES)

-- How far a file is then known to reach: as before, or if that was far beyond what has to stay, up to the cut.
abbrev pub Shortens : ℕ → ℕ → ℕ → Type 0
Shortens keep was now = (now ≡ was) ⊎ ((keep + SPARE_BYTES < was) × (now ≡ cut_behind keep))

-- what was known to stand far beyond it is gone
abbrev pub IsCut : ℕ → ℕ → List ℕ → Type 0
IsCut keep known file = keep + SPARE_BYTES < known → length file ≤ cut_behind keep

-- A group that is kept has been written and nothing else, or if the write with zeros failed, over what it left, the
-- records and the closing length.
abbrev pub Writes : {D : Type 0} → Ghosts D → List (List ℕ) → LogView D → LogView D → Type 0
Writes disks group old new =
    Wrote disks old.end (closed old.digest group) (closed_by (ready_for old (as_one group)) old.digest group)
    old.disk new.disk

-- the failures and the calls of an append of a body of this many bytes
abbrev pub AppendsBy : {D : Type 0} → Ghosts D → ℕ → Appended → LogView D → LogView D → Type 0
AppendsBy disks n outcome old new =
    AppendsAhead (ready_for old n) outcome
    (disks.failures old.disk) (disks.failures new.disk) (disks.counts old.disk) (disks.counts new.disk)

-- each of the two files was measured, and is known to reach as far as it does
pub record IsMeasured {D : Type 0} (disks : Ghosts D) (log : LogView D) : Type 0 where
  pub current : log.known ≡ length (disks.seen log.disk)
  pub other : log.other_known ≡ length (disks.seen log.other)

-- neither is taken to reach further than it does
pub record IsKnown {D : Type 0} (disks : Ghosts D) (log : LogView D) : Type 0 where
  pub current : log.known ≤ length (disks.seen log.disk)
  pub other : log.other_known ≤ length (disks.seen log.other)
