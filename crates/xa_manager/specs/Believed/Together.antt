-- Calls that are asked together, and share one append.
use Rattle.std.specs.Prelude.{ℕ, ◌≡◌, ◌⊎◌, ◌+◌, ◌<◌, ◌≤◌, Bool, true, false, Some, List, [], ◌∷◌, ◌++◌, length, map}
use Rattle.std.specs.Prelude.{get_or, if◌then◌else◌}
use Rattle.std.specs.List.{AllByRecursion}
use Rattle.xa_disk.specs.declared.disk.Disk.{Ghosts}
use Rattle.xa_frame.specs.declared.request.Request.{Request}
use Rattle.xa_frame.specs.declared.request.Request.TheVariants as request
use Rattle.xa_limits.specs.declared.TheConstants.{AROUND_BODY, AROUND_CLOSED, LENGTH_BYTES, MOST_BODY}
use Rattle.xa_log.specs.Buffer.{Holds}
use Rattle.xa_log.specs.Believed.Chain.{IsBody}
use Rattle.xa_log.specs.Believed.Group.{as_one, group_bytes}
use Rattle.xa_log.specs.Reading.{bodies_of}
use Rattle.xa_xid.specs.Triple.{Triple, xid_eq}
use Rattle.xa_model.specs.State.{State}
use Rattle.xa_model.specs.Logging.{log_room, prepared_count}
use Rattle.xa_model.specs.Laws.Together.{Part, AppendsOf, HaveRoom}
use Rattle.xa_manager.specs.declared.manager.Manager.{Manager}
use Rattle.xa_manager.specs.declared.row.Row.{Row}
use Rattle.xa_manager.specs.declared.row.Row.TheVariants.{Writes}
use Rattle.xa_manager.specs.declared.row.Writing.TheVariants.{Prepare}
use Rattle.xa_manager.specs.declared.together.Asked.{Asked}
use Rattle.xa_log.specs.declared.left_out.TheConstants.{MOST_GROUP}
use Rattle.xa_manager.specs.declared.together.Joining.{Joining}
use Rattle.xa_manager.specs.declared.together.Together.{Together}
use Rattle.xa_manager.specs.Acts.{AreDistinct, MakeRooms}
use Rattle.xa_manager.specs.Managed.{ManagerStandsFor}
use Rattle.xa_manager.specs.Believed.Parts.{is_up, log_of, tables_of}
use Rattle.xa_manager.specs.Plans.{Appends}
use Rattle.xa_manager.specs.Reserving.{HasReserved}
use Rattle.xa_manager.specs.Rows.{asked_row, more_of, record_of}

-- a call of a group: who asks it, of which XID, and the row that logs
pub record Member : Type 0 where
  pub session : ℕ
  pub request : Request
  pub row : Row
  pub xid : Triple

-- what it appends, of this state
abbrev pub part_of : State → Member → Part
part_of s c =
    record { session = c.session; request = c.request; xid = c.xid; appended = record_of c.row c.xid s }

abbrev pub parts_of : State → List Member → List Part
parts_of s cs = map (part_of s) cs

-- one of the calls that were asked, by its place among them
abbrev pub asked_at : List Asked → ℕ → Asked
asked_at calls at = get_or calls at (record { session = 0; request = request.Restart })

abbrev pub member_of : List Asked → Joining → Member
member_of calls j = record {
  session = (asked_at calls j.at).session;
  request = (asked_at calls j.at).request;
  row = j.row;
  xid = j.xid;
}

abbrev pub members_of : List Asked → List Joining → List Member
members_of calls js = map (member_of calls) js

abbrev pub is_prepare : Row → Bool
is_prepare (Writes Prepare) = true
is_prepare _ = false

-- the XIDs of those that prepare
abbrev pub prepares_of : List Member → List Triple
prepares_of [] = []
prepares_of (c ∷ cs) = if is_prepare c.row then c.xid ∷ prepares_of cs else prepares_of cs

-- none prepares after one that doesn't
abbrev pub PreparesFirst : List Member → Type 0
PreparesFirst [] = Unit {0}
PreparesFirst (c ∷ cs) = (is_prepare c.row ≡ false → prepares_of cs ≡ []) × PreparesFirst cs

-- Whichever state the manager stands for, it is up, and the call, alone, appends the record of this body.
pub record AppendsAlone {D : Type 0} (disks : Ghosts D) (m : Manager D) (c : Member) (body : List ℕ) : Type 0 where
  pub up : is_up m ≡ true
  pub asked : asked_row c.request ≡ Some (c.row, c.xid)
  pub size : IsBody (log_of m).format body
  pub appends : (s : State) → ManagerStandsFor disks m s → AppendsOf s (part_of s c) × Appends c.row c.xid body s

abbrev pub AppendAlone : {D : Type 0} → Ghosts D → Manager D → List Member → List (List ℕ) → Type 0
AppendAlone disks m [] [] = Unit {0}
AppendAlone disks m (c ∷ cs) (body ∷ bodies) = AppendsAlone disks m c body × AppendAlone disks m cs bodies
AppendAlone disks m _ _ = ⊥

-- Records of these bodies are one, or with their closing length they have at most `MOST_GROUP` bytes.
abbrev pub IsBounded : List (List ℕ) → Type 0
IsBounded bodies = (length bodies ≤ 1) ⊎ (group_bytes bodies + LENGTH_BYTES ≤ MOST_GROUP)

-- Calls that were asked form a group: each appends its record alone, they are of distinct XIDs, there is room for
-- each after those before it, the prepares stand first, and it is not too long.
pub record IsGroup {D : Type 0} (disks : Ghosts D) (m : Manager D) (calls : List Asked) (t : Together) : Type 0 where
  pub places : AllByRecursion (λ j. j.at < length calls) t.members.items
  pub appends : AppendAlone disks m (members_of calls t.members.items) (bodies_of t.bodies.items)
  pub distinct : AreDistinct (map (λ j. j.xid) t.members.items)
  pub room : (s : State) → ManagerStandsFor disks m s → HaveRoom s [] (parts_of s (members_of calls t.members.items))
  pub prepares : t.prepares.items ≡ prepares_of (members_of calls t.members.items)
  pub first : PreparesFirst (members_of calls t.members.items)
  pub bytes : t.bytes ≡ group_bytes (bodies_of t.bodies.items)
  pub bounded : IsBounded (bodies_of t.bodies.items)

-- How a group grows

-- whether the request prepares
abbrev pub asks_prepare : Request → Bool
asks_prepare (request.Prepare flags xid) = true
asks_prepare _ = false

-- Whether the log has room for a row's record, with a body of this many bytes, after records of this many bytes that
-- prepare this many branches. One without writes takes the room that is kept for it.
abbrev pub has_room_behind : State → ℕ → ℕ → Row → ℕ → Bool
has_room_behind s bytes prepares (Writes writing) len =
    log_room s.log_bytes (s.end + (bytes + len + AROUND_BODY)) (prepared_count s + (more_of writing + prepares))
    (length s.decided)
has_room_behind s bytes prepares _ len = true

-- A call may stand after those of the group: its XID is none of theirs, and there is room for its record after theirs.
pub record MayJoin {D : Type 0} (disks : Ghosts D) (m : Manager D) (t : Together) (row : Row) (xid : Triple)
    (len : ℕ) : Type 0 where
  pub apart : AllByRecursion (λ j. xid_eq j.xid xid ≡ false) t.members.items
  pub short : t.bytes + len ≤ MOST_BODY
  pub bounded : (t.members.items ≡ []) ⊎ (t.bytes + len + AROUND_CLOSED ≤ MOST_GROUP)
  pub room : (s : State) → ManagerStandsFor disks m s → is_up m ≡ true
      → has_room_behind s t.bytes (length t.prepares.items) row len ≡ true

-- it stands last in the group
pub record StandsLast (t : Together) (at : ℕ) (row : Row) (xid : Triple) (body : List ℕ) (t' : Together) : Type 0 where
  pub members : t'.members.items ≡ t.members.items ++ record { at = at; row = row; xid = xid } ∷ []
  pub bodies : bodies_of t'.bodies.items ≡ bodies_of t.bodies.items ++ body ∷ []
  pub bytes : t'.bytes ≡ t.bytes + (AROUND_BODY + length body)
  pub prepares : t'.prepares.items ≡ t.prepares.items ++ (if is_prepare row then xid ∷ [] else [])

-- The call was taken into the group.
pub record HasJoined {D : Type 0} (disks : Ghosts D) (m : Manager D) (at : ℕ) (call : Asked) (t t' : Together)
    : Type 0 where
  pub row : Row
  pub xid : Triple
  pub body : List ℕ
  pub alone : AppendsAlone disks m
      (record { session = call.session; request = call.request; row = row; xid = xid }) body
  pub may : MayJoin disks m t row xid (length body)
  pub last : StandsLast t at row xid body t'

-- the memory for it is taken
pub record AreReady {D : Type 0} (disks : Ghosts D) (m : Manager D) (t : Together) (m' : Manager D) : Type 0 where
  pub holds : Holds (log_of m') (as_one (bodies_of t.bodies.items))
  pub log : HasReserved disks (log_of m) (log_of m')
  pub up : is_up m' ≡ is_up m
  pub tables : MakeRooms (tables_of m) t.prepares.items (tables_of m')
