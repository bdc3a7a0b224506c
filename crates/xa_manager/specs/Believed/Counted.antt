-- How many failures of devices a history reports, and how many were counted.
use Rattle.std.specs.Prelude.{ℕ, ◌≡◌, ◌⊎◌, ◌+◌, ◌-◌, ◌^◌, ◌<◌, ◌≤◌, true, List, [], ◌∷◌, length, Option, None, Some}
use Rattle.xa_disk.specs.declared.disk.Disk.{Ghosts}
use Rattle.xa_frame.specs.declared.reply.Reply.{Reply}
use Rattle.xa_log.specs.Believed.TwoFiles.{first_of, second_of}
use Rattle.xa_log.specs.Believed.LogView.{LogView}
use Rattle.xa_model.specs.declared.event.Event.{Event}
use Rattle.xa_model.specs.declared.outcome.Outcome.{Outcome}
use Rattle.xa_model.specs.declared.outcome.Outcome.TheVariants as outcome
use Rattle.xa_model.specs.declared.outcome.Appending.{Appending}
use Rattle.xa_model.specs.declared.outcome.Appending.TheVariants.{Kept, Refused, Lost}
use Rattle.xa_model.specs.State.{State}
use Rattle.xa_model.specs.History.{Entry, Leads, HasGroups}
use Rattle.xa_manager.specs.declared.manager.Manager.{Manager}
use Rattle.xa_manager.specs.Believed.Answered.{recorded, no_restart}
use Rattle.xa_manager.specs.Believed.LogStands.{Trusts}
use Rattle.xa_manager.specs.Managed.{ManagerStandsFor}
use Rattle.xa_manager.specs.Believed.Parts.{log_of}

-- How many an outcome reports. A group is one device call, which its first entry alone reports: what is
-- refused or lost with it joined it (`HasGroups`).
abbrev pub failures_of_append : Appending → ℕ
failures_of_append Kept = 0
failures_of_append Refused = 1
failures_of_append Lost = 1

abbrev pub failures_of_boot : Option Appending → ℕ
failures_of_boot None = 0
failures_of_boot (Some appending) = failures_of_append appending

abbrev pub failures_in : Outcome → ℕ
failures_in outcome.Quiet = 0
failures_in (outcome.Appended appending) = failures_of_append appending
failures_in (outcome.Joined appending) = 0
failures_in outcome.Failed = 1
failures_in (outcome.Reread survived appended) = failures_of_boot appended

abbrev pub failures_of : List Entry → ℕ
failures_of [] = 0
failures_of (e ∷ es) = failures_in e.outcome + failures_of es

-- Two counts went up by this many together, at least. A count stays at the top of a u64, and then nothing is said.
abbrev pub RiseBy : ℕ → ℕ × ℕ → ℕ × ℕ → Type 0
RiseBy n old new =
    new.0 < 2 ^ 64 - 1 → new.1 < 2 ^ 64 - 1
    → (old.0 < 2 ^ 64 - 1) × (old.1 < 2 ^ 64 - 1) × (old.0 + old.1 + n ≤ new.0 + new.1)

-- the counts of the two files' disks
abbrev pub counted_by : {D : Type 0} → (D → ℕ) → LogView D → ℕ × ℕ
counted_by failures log = (failures (first_of log), failures (second_of log))

-- Like AnswersAll; and of the same outcomes, that each that joined became what the one before it became, and that they
-- report no more failures than were counted.
abbrev pub CountsAll : {D : Type 0} → Ghosts D → Manager D → List Event → List Reply → Manager D → Type 0
CountsAll disks m events replies m' =
    (s : State) → ManagerStandsFor disks m s → Trusts disks ⊎ (no_restart events ≡ true)
    → (outcomes : List Outcome) × (s' : State) × (length outcomes ≡ length events)
    × Leads s (recorded events outcomes replies) s' × ManagerStandsFor disks m' s'
    × HasGroups (recorded events outcomes replies)
    × RiseBy (failures_of (recorded events outcomes replies)) (counted_by disks.failures (log_of m))
    (counted_by disks.failures (log_of m'))
