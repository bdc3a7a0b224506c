-- A group that is pending: its records are written, their sync has to follow, and what leaves it as it is is answered
-- meanwhile.
use Rattle.std.specs.Prelude.{ℕ, ◌≡◌, ◌<◌, ◌≤◌, ◌==◌, Bool, true, false, Option, Some, None, List, [], ◌∷◌, length, map, MatchBool, IsSomeAnd, Result, Vec, vec_capacity}
use Rattle.std.specs.declared.alloc.Global.{Global}
use Rattle.std.specs.List.{AllByRecursion}
use Rattle.xa_assoc.specs.Refusals.{is_memory}
use Rattle.xa_branch.specs.Branches.{working_at}
use Rattle.xa_branch.specs.Due.{work_of}
use Rattle.xa_branch.specs.Room.{AreRooms, rooms_of}
use Rattle.xa_branch.specs.declared.branches.Branches.{Branches}
use Rattle.xa_branch.specs.declared.working.Working.{Working}
use Rattle.xa_disk.specs.declared.disk.Disk.{Ghosts}
use Rattle.xa_disk.specs.declared.disk.DiskFault.{DiskFault}
use Rattle.xa_frame.specs.declared.reply.Reply.{Reply}
use Rattle.xa_frame.specs.declared.request.Request.{Request}
use Rattle.xa_frame.specs.declared.request.Request.TheVariants as request
use Rattle.xa_log.specs.Calls.{SettlesBy}
use Rattle.xa_log.specs.Reading.{bodies_of}
use Rattle.xa_log.specs.Written.{HasWritten, IsRange, write_of as answered_as}
use Rattle.xa_log.specs.Believed.LogView.{LogView}
use Rattle.xa_record.specs.Spelling.{spelled}
use Rattle.xa_model.specs.declared.event.Event.{Event}
use Rattle.xa_model.specs.declared.outcome.Appending.{Appending}
use Rattle.xa_model.specs.declared.outcome.Appending.TheVariants.{Lost}
use Rattle.xa_model.specs.declared.outcome.Outcome.TheVariants.{Appended, Quiet}
use Rattle.xa_model.specs.Answer.{Answer}
use Rattle.xa_model.specs.Associations.{open_by, close_by, start_by, end_by}
use Rattle.xa_model.specs.Answer.{ok}
use Rattle.xa_model.specs.Data.{get_by, put_by}
use Rattle.xa_model.specs.History.{Entry, Leads}
use Rattle.xa_model.specs.KnownBranches.{branches_by}
use Rattle.xa_model.specs.Laws.Together.{group_entries, records_of}
use Rattle.xa_model.specs.Phases.{doom_by}
use Rattle.xa_model.specs.Recovering.{recover_by}
use Rattle.xa_model.specs.State.{State, own_branch}
use Rattle.xa_model.specs.Step.{step}
use Rattle.xa_model.specs.TimeLimits.{is_over, tick_by, timeout_by}
use Rattle.xa_model.specs.Turn.{Asked as AskedOf}
use Rattle.xa_xid.specs.Triple.{Triple, xid_eq}
use Rattle.xa_manager.specs.declared.pending.PendingGroup.{PendingGroup}
use Rattle.xa_manager.specs.declared.manager.Manager.{Manager}
use Rattle.xa_manager.specs.declared.together.Asked.{Asked}
use Rattle.xa_manager.specs.declared.together.Joining.{Joining}
use Rattle.xa_manager.specs.Acts.{AreDistinct}
use Rattle.xa_manager.specs.Believed.Answered.{HasCalled, IsPinned, as_appended}
use Rattle.xa_manager.specs.Believed.Crash.{LeavesAppend}
use Rattle.xa_manager.specs.GroupAnswers.{AreReplies, AreTogether}
use Rattle.xa_manager.specs.Believed.LogStands.{Trusts}
use Rattle.xa_manager.specs.Managed.{ManagerStandsFor}
use Rattle.xa_manager.specs.Believed.Parts.{branches_of, is_up, log_of, with_log}
use Rattle.xa_manager.specs.Reserving.{HasReserved}
use Rattle.xa_manager.specs.Rows.{asked_row}
use Rattle.xa_manager.specs.Believed.Together.{Member, members_of, part_of, parts_of, prepares_of}

-- the answer of the row of a call that logs nothing
abbrev pub quiet_by : State → ℕ → Request → Answer
quiet_by s n (request.Open flags info) = open_by s n
quiet_by s n (request.Close flags) = close_by s n
quiet_by s n (request.Start flags xid) = start_by s n flags xid
quiet_by s n (request.End flags xid) = end_by s n flags xid
quiet_by s n (request.Recover flags count) = recover_by s n flags count
quiet_by s n (request.Get key) = get_by s key (own_branch s n)
quiet_by s n (request.Put key value) = put_by s key (Some value) (own_branch s n)
quiet_by s n (request.Delete key) = put_by s key None (own_branch s n)
quiet_by s n (request.Doom xid) = doom_by s xid
quiet_by s n (request.Timeout seconds) = timeout_by s n seconds
quiet_by s n (request.Tick moment) = tick_by s moment
quiet_by s n (request.Branches count after) = branches_by s count after
quiet_by s n _ = ok s

-- the calls that were asked, with those that were left out of it
abbrev pub calls_of : PendingGroup → Vec Asked Global
calls_of f = f.calls

-- what the write of its records returned
abbrev pub write_of : PendingGroup → Result (Unit {0}) DiskFault
write_of f = answered_as f.written

-- The group has some calls, each with its row, of distinct XIDs, and its records stand where the manager's log ends. There
-- is room for its replies.
pub record IsGroupOf {D : Type 0} (m : Manager D) (f : PendingGroup) : Type 0 where
  pub range : IsRange f.written (log_of m)
  pub some : 1 ≤ length f.together.members.items
  pub places : AllByRecursion (λ j. j.at < length (calls_of f).items) f.together.members.items
  pub rows : AllByRecursion (λ c. asked_row c.request ≡ Some (c.row, c.xid))
      (members_of (calls_of f).items f.together.members.items)
  pub distinct : AreDistinct (map (λ j. j.xid) f.together.members.items)
  pub prepares : f.together.prepares.items ≡ prepares_of (members_of (calls_of f).items f.together.members.items)
  -- room for its replies, of which there is none yet
  pub unanswered : f.replies.items ≡ []
  pub replies : length f.together.members.items ≤ vec_capacity f.replies

-- its calls
abbrev pub pending_members : PendingGroup → List Member
pending_members f = members_of (calls_of f).items f.together.members.items

-- What is answered beside it, by what the manager keeps

-- this session asks for none of its calls, nor for one that was left out
abbrev pub AsksNoneOf : ℕ → PendingGroup → Type 0
AsksNoneOf n f = AllByRecursion (λ c. (c.session == n) ≡ false) (calls_of f).items

-- this XID is none of theirs
abbrev pub NamesNoneOf : Triple → PendingGroup → Type 0
NamesNoneOf xid f = AllByRecursion (λ j. xid_eq j.xid xid ≡ false) f.together.members.items

-- whether this moment marks a branch, by what is kept of it at work
abbrev pub is_over_kept : ℕ → Option Working → Bool
is_over_kept moment (Some w) = is_over moment (work_of w)
is_over_kept moment None = false

-- this moment marks none of their branches
abbrev pub MarksNoneOf : Branches → ℕ → List Joining → Type 0
MarksNoneOf m moment js = AllByRecursion (λ j. is_over_kept moment (working_at m j.xid) ≡ false) js

-- A session's call that logs nothing touches neither its branches nor the sessions that ask for its calls. One that lists
-- branches isn't apart: what will be kept of those that are prepared has its room among them.
abbrev pub CallsApartFrom : {D : Type 0} → Manager D → ℕ → Request → PendingGroup → Type 0
CallsApartFrom m n (request.Open flags info) f = AsksNoneOf n f
CallsApartFrom m n (request.Close flags) f = AsksNoneOf n f
CallsApartFrom m n (request.Start flags xid) f = NamesNoneOf xid f
CallsApartFrom m n (request.End flags xid) f = NamesNoneOf xid f
CallsApartFrom m n (request.Doom xid) f = NamesNoneOf xid f
CallsApartFrom m n (request.Tick moment) f = MarksNoneOf (branches_of m) moment f.together.members.items
CallsApartFrom m n (request.Recover flags count) f = ⊥
CallsApartFrom m n (request.Branches count after) f = ⊥
CallsApartFrom m n _ f = Unit {0}

-- A manager stands for a state with a pending group, whose records were written after those of this log: it stands for it
-- with that log, and there the calls might be asked together, and append these records. What will be kept of its branches
-- that are prepared has its room.
pub record IsPendingFrom {D : Type 0} (disks : Ghosts D) (log : LogView D) (m : Manager D) (f : PendingGroup) (s : State)
    : Type 0 where
  pub stands : ManagerStandsFor disks (with_log log m) s
  pub up : is_up m ≡ true
  pub written : HasWritten disks (bodies_of f.together.bodies.items) f.written log (log_of m)
  pub at : AreTogether s (pending_members f)
  pub bodies : map spelled (records_of (parts_of s (pending_members f))) ≡ bodies_of f.together.bodies.items
  pub rooms : AreRooms f.together.prepares.items (rooms_of (branches_of m))

abbrev pub IsPending : {D : Type 0} → Ghosts D → Manager D → PendingGroup → State → Type 0
IsPending {D} disks m f s = (log : LogView D) × IsPendingFrom disks log m f s

-- The group's records were written after those of a log that is the manager's, apart from its memory.
pub record WritesGroup {D : Type 0} (disks : Ghosts D) (m : Manager D) (f : PendingGroup) (m' : Manager D) : Type 0 where
  pub log : LogView D
  pub reserved : HasReserved disks (log_of m) log
  pub written : HasWritten disks (bodies_of f.together.bodies.items) f.written log (log_of m')

-- the entries of calls whose records are lost
abbrev pub lost_group : State → List Member → List Entry
lost_group s [] = []
lost_group s (c ∷ cs) = group_entries Lost (part_of s c) (parts_of s cs)

-- What a crash at any moment since the write leaves stands for the state to which the group's calls lead if their
-- records are lost.
abbrev pub LeavesPending : {D : Type 0} → Ghosts D → LogView D → Manager D → PendingGroup → State → Type 0
LeavesPending disks log m f s =
    Trusts disks → (lost : State) × Leads s (lost_group s (pending_members f)) lost × LeavesAppend disks log (log_of m) s lost

-- An event was answered meanwhile: as the step, or memory ran out. The group stays pending.
pub record AnsweredBeside {D : Type 0} (disks : Ghosts D) (m : Manager D) (f : PendingGroup) (event : Event) (reply : Reply)
    (m' : Manager D) : Type 0 where
  pub answered : (log : LogView D) (s : State) → IsPendingFrom disks log m f s
      → MatchBool (is_memory reply.detail) (IsPendingFrom disks log m' f s)
      (IsSomeAnd (step s (AskedOf event) Quiet) (λ a. (a.reply ≡ reply) × IsPendingFrom disks log m' f a.after))
  pub pinned : IsPinned event reply
  pub log : log_of m' ≡ log_of m
  pub crash : (log : LogView D) (s : State) → IsPendingFrom disks log m f s → LeavesPending disks log m' f s

-- Calls were answered one after another, from a state, each as one step, with this outcome for their records, which were appended
-- to this log: the manager stands for where these steps lead. At any moment of it the files stand for the state to which
-- the same calls lead if their records are lost.
pub record FinishesFrom {D : Type 0} (disks : Ghosts D) (log : LogView D) (s : State) (first : Member) (rest : List Member)
    (a : Appending) (m' : Manager D) : Type 0 where
  pub leads : (s' : State) × Leads s (group_entries a (part_of s first) (parts_of s rest)) s' × ManagerStandsFor disks m' s'
  pub called : HasCalled disks (Appended a) log (log_of m')
  pub crash : Trusts disks
      → (lost : State) × Leads s (group_entries Lost (part_of s first) (parts_of s rest)) lost
      × LeavesAppend disks log (log_of m') s lost

-- So were those of a pending group, from each state that the manager stood for.
abbrev pub HasFinished : {D : Type 0} → Ghosts D → Manager D → PendingGroup → List (ℕ × Reply) → Manager D → Type 0
HasFinished disks m f [] m' = ⊥
HasFinished {D} disks m f (r ∷ rs) m' =
    (first : Member) × (rest : List Member) × (a : Appending) × AreReplies (calls_of f).items a (first ∷ rest) (r ∷ rs)
    × SettlesBy (write_of f) (as_appended a) (disks.failures (log_of m).disk) (disks.failures (log_of m').disk)
    × ((log : LogView D) (s : State) → IsPendingFrom disks log m f s → FinishesFrom disks log s first rest a m')

-- ---- law

-- the same of each state for which a manager stands with a pending group
abbrev pub PendingLeaves : {D : Type 0} → Ghosts D → Type 0
PendingLeaves {D} disks =
    (log : LogView D) (m : Manager D) (f : PendingGroup) (s : State) → IsGroupOf m f → IsPendingFrom disks log m f s
    → LeavesPending disks log m f s
