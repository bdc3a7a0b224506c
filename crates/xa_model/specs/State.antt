-- The state of the sequential resource manager.
use Rattle.std.specs.Prelude.{ℕ, zero, suc, ◌+◌, ◌*◌, ◌==◌, ℤ, Bool, true, false, ◌&&◌, Option, Some, None, List}
use Rattle.std.specs.Prelude.{[], ◌∷◌, find, filter, length, option_map, option_and_then, is_some, if◌then◌else◌}
use Rattle.xa_codes.specs.declared.direction.Direction.{Direction}
use Rattle.xa_xid.specs.Triple.{Triple, xid_eq}
use Rattle.xa_record.specs.declared.record.Record.{Record}
use Rattle.xa_limits.specs.declared.TheConstants.{BOOT_TIMESTAMPS}
use Rattle.xa_model.specs.Ranges.{Range}

-- What a branch did: a get, with its answer and the timestamp of the answer's source (0 if the key was absent
-- before all branches); a walk over a range, with the records that were found, keys and values; or a put or delete that
-- was accepted. A deleted key has no value.
pub data Operation : Type 0 where
  Got : (key : List ℕ) (answer : Option (List ℕ)) (source : ℕ) → Operation
  Walked : (range : Range) (found : List (List ℕ × List ℕ)) → Operation
  Wrote : (key : List ℕ) (value : Option (List ℕ)) → Operation

-- What a branch has only while it is at work: the mark that it may have, the moment at which it began, and its time
-- limit in seconds, 0 for none.
pub record Work : Type 0 where
  pub mark : Option ℤ
  pub start : ℕ
  pub limit : ℕ

-- Where a branch stands: it is known under an XID, at work or prepared; or it is committed and no longer known. A
-- branch that was rolled back stands nowhere.
pub data Phase : Type 0 where
  Working : (xid : Triple) (work : Work) → Phase
  Prepared : (xid : Triple) → Phase
  Committed : Phase

-- The newest operation comes first.
pub record Branch : Type 0 where
  pub timestamp : ℕ
  pub operations : List Operation
  pub phase : Phase

-- An XID whose branch the operator completed, in which direction. Until it is forgotten nothing else is known of it.
pub record Decided : Type 0 where
  pub xid : Triple
  pub direction : Direction

-- Who holds an association: a session at work, a session that has suspended it, or nobody.
pub data Holder : Type 0 where
  Active : (session : ℕ) → Holder
  Suspended : (session : ℕ) → Holder
  Loose : Holder

pub record Association : Type 0 where
  pub xid : Triple
  pub holder : Holder

-- `scan` is the cursor of the recovery scan: no scan is open, or it stands before all XIDs (None), or at one. `limit`
-- is the time limit, in seconds, of the branches that the session begins from now on, 0 for none.
pub record Session : Type 0 where
  pub number : ℕ
  pub opened : Bool
  pub scan : Option (Option Triple)
  pub limit : ℕ

-- What was read: a key, with the timestamp of the answer's source; or each key of a range, the absent ones included,
-- with the timestamps of the sources of some of them: of the others it is 0.
pub data Extent : Type 0 where
  Key : (key : List ℕ) (source : ℕ) → Extent
  Keys : (range : Range) (sources : List (List ℕ × ℕ)) → Extent

-- An answered read: who read, and what.
pub record Read : Type 0 where
  pub reader : ℕ
  pub over : Extent

-- Whether anybody answers: a manager that is up, one that is down until it is restarted, or one whose process ended, so
-- that only an opening can follow.
pub data Standing : Type 0 where
  Up : Standing
  Down : Standing
  Ended : Standing

-- Known and committed branches stand in one list, the greatest timestamp first; besides it there are the XIDs that the
-- operator completed. `given` counts the timestamps that this boot has given. `logged_boot` is the greatest boot number
-- in the log, which a restart that failed may have left above `boot`. `end` is where the log's next record would begin.
-- `open_records` are the records whose append was lost, one or a group, in the log's order: no restart has settled
-- their fates. `moment` is the last moment that was told, in seconds: no clock is read.
pub record State : Type 0 where
  pub name : List ℕ
  pub log_bytes : ℕ
  pub boot : ℕ
  pub given : ℕ
  pub logged_boot : ℕ
  pub sessions : List Session
  pub associations : List Association
  pub branches : List Branch
  pub decided : List Decided
  pub reads : List Read
  pub standing : Standing
  pub end : ℕ
  pub open_records : List Record
  pub moment : ℕ

-- the n-th timestamp of a boot
abbrev pub timestamp_of : ℕ → ℕ → ℕ
timestamp_of boot n = boot * BOOT_TIMESTAMPS + n

-- how many members of a list pass
abbrev pub count : {A : Type 0} → (A → Bool) → List A → ℕ
count p [] = 0
count p (x ∷ xs) = (if p x then 1 else 0) + count p xs

-- Branches

-- the work of a branch that begins at this moment with this time limit
abbrev pub new_work : ℕ → ℕ → Work
new_work start limit = record { mark = None; start = start; limit = limit }

-- a branch that begins
abbrev pub new_branch : ℕ → Triple → Work → Branch
new_branch timestamp xid work = record { timestamp = timestamp; operations = []; phase = Working xid work }

-- the XID that a branch is known under, from its start until it is gone
abbrev pub name_of : Phase → Option Triple
name_of (Working xid work) = Some xid
name_of (Prepared xid) = Some xid
name_of Committed = None

-- whether an XID, if there is one, is this one
abbrev pub is_with : Triple → Option Triple → Bool
is_with xid None = false
is_with xid (Some x) = xid_eq x xid

abbrev pub is_known_as : Triple → Branch → Bool
is_known_as xid b = is_with xid (name_of b.phase)

-- the known branch with this XID
abbrev pub known_of : List Branch → Triple → Option Branch
known_of branches xid = find (is_known_as xid) branches

-- the direction in which the operator completed the branch with this XID
abbrev pub decided_of : List Decided → Triple → Option Direction
decided_of decided xid = option_map (λ d. d.direction) (find (λ d. xid_eq d.xid xid) decided)

-- how many branches are known
abbrev pub known_count : List Branch → ℕ
known_count branches = count (λ b. is_some (name_of b.phase)) branches

-- how many XIDs are known
abbrev pub known_in : State → ℕ
known_in s = known_count s.branches + length s.decided

-- a known branch that is at work
abbrev pub is_working : Phase → Bool
is_working (Working xid work) = true
is_working (Prepared xid) = false
is_working Committed = false

abbrev pub is_at_work : Option Branch → Bool
is_at_work (Some b) = is_working b.phase
is_at_work None = false

-- what the branch wrote is committed
abbrev pub is_committed : Phase → Bool
is_committed (Working x work) = false
is_committed (Prepared x) = false
is_committed Committed = true

-- the committed branches, the greatest timestamp first
abbrev pub committed_of : List Branch → List Branch
committed_of branches = filter (λ b. is_committed b.phase) branches

-- the mark of a branch that is at work
abbrev pub mark_of : Phase → Option ℤ
mark_of (Working x work) = work.mark
mark_of (Prepared x) = None
mark_of Committed = None

-- What is known of an XID: nothing, a branch at work with the mark that it may have, one in doubt, or what the operator
-- decided.
pub data Known : Type 0 where
  Unknown : Known
  AtWork : (mark : Option ℤ) → Known
  InDoubt : Known
  Completed : (direction : Direction) → Known

abbrev pub known_by : Phase → Known
known_by (Working x work) = AtWork work.mark
known_by (Prepared x) = InDoubt
known_by Committed = Unknown

abbrev pub or_completed : Option Direction → Known
or_completed (Some direction) = Completed direction
or_completed None = Unknown

abbrev pub known_among : Option Branch → Option Direction → Known
known_among (Some b) direction = known_by b.phase
known_among None direction = or_completed direction

abbrev pub known_as : State → Triple → Known
known_as s xid = known_among (known_of s.branches xid) (decided_of s.decided xid)

-- Associations

abbrev pub is_active : ℕ → Holder → Bool
is_active n (Active m) = m == n
is_active n (Suspended m) = false
is_active n Loose = false

-- an association of the session's own
abbrev pub is_own : ℕ → Holder → Bool
is_own n (Active m) = m == n
is_own n (Suspended m) = m == n
is_own n Loose = false

abbrev pub is_loose : Holder → Bool
is_loose (Active m) = false
is_loose (Suspended m) = false
is_loose Loose = true

abbrev pub is_suspended : ℕ → Holder → Bool
is_suspended n (Active m) = false
is_suspended n (Suspended m) = m == n
is_suspended n Loose = false

-- an association of the session's own with the XID: any, the one that it is at work in, one that it has suspended
abbrev pub owns : ℕ → Triple → Association → Bool
owns n xid a = is_own n a.holder && xid_eq a.xid xid

abbrev pub works_in : ℕ → Triple → Association → Bool
works_in n xid a = is_active n a.holder && xid_eq a.xid xid

abbrev pub suspends : ℕ → Triple → Association → Bool
suspends n xid a = is_suspended n a.holder && xid_eq a.xid xid

-- a loose one
abbrev pub is_loose_with : Triple → Association → Bool
is_loose_with xid a = is_loose a.holder && xid_eq a.xid xid

-- the XID that the session's active association is with
abbrev pub active_of : List Association → ℕ → Option Triple
active_of held n = option_map (λ a. a.xid) (find (λ a. is_active n a.holder) held)

-- how many associations a branch has, of sessions or loose, and how many of them are loose
abbrev pub holders_of : List Association → Triple → ℕ
holders_of held xid = count (λ a. xid_eq a.xid xid) held

abbrev pub loose_of : List Association → Triple → ℕ
loose_of held xid = count (is_loose_with xid) held

-- the known branch that the session works for, with its XID
abbrev pub branch_with : List Branch → Triple → Option (Triple × Branch)
branch_with branches xid = option_map (λ b. (xid, b)) (known_of branches xid)

abbrev pub own_branch : State → ℕ → Option (Triple × Branch)
own_branch s n = option_and_then (branch_with s.branches) (active_of s.associations n)

-- Sessions

-- a session that connects
abbrev pub new_session : ℕ → Session
new_session n = record { number = n; opened = false; scan = None; limit = 0 }

abbrev pub session_of : List Session → ℕ → Option Session
session_of sessions n = find (λ s. s.number == n) sessions

-- the time limit of the branches that the session begins
abbrev pub limit_by : Option Session → ℕ
limit_by (Some x) = x.limit
limit_by None = 0

abbrev pub limit_of : State → ℕ → ℕ
limit_of s n = limit_by (session_of s.sessions n)

-- the least number from n on, within this many, that is not connected
abbrev pub free_from : List Session → ℕ → ℕ → ℕ
free_from sessions zero n = n
free_from sessions (suc tries) n = if is_some (session_of sessions n) then free_from sessions tries (n + 1) else n

-- the least number from 1 that is not connected
abbrev pub free_number : List Session → ℕ
free_number sessions = free_from sessions (length sessions) 1

-- Changes of lists

-- the first member that passes leaves the list
abbrev pub without : {A : Type 0} → (A → Bool) → List A → List A
without p [] = []
without p (x ∷ xs) = if p x then xs else x ∷ without p xs

-- the first member that passes is changed
abbrev pub change : {A : Type 0} → (A → Bool) → (A → A) → List A → List A
change p f [] = []
change p f (x ∷ xs) = if p x then f x ∷ xs else x ∷ change p f xs
