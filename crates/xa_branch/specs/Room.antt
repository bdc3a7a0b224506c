-- Room for what will be kept of branches once they are prepared.
use Rattle.std.specs.Prelude.{◌≡◌, Bool, true, false, is_some, List, [], ◌∷◌, ◌++◌}
use Rattle.std.specs.BTreeMap.{BTreeMap, get}
use Rattle.std.specs.List.{AllByRecursion}
use Rattle.xa_xid.specs.Triple.{Triple, xid_cmp, xid_eq}
use Rattle.xa_model.specs.State.{State}
use Rattle.xa_model.specs.Phases.{prepared}
use Rattle.xa_model.specs.Invariants.Sound.{IsSound}
use Rattle.xa_branch.specs.declared.branches.Branches.{Branches}
use Rattle.xa_branch.specs.declared.lasting.Lasting.{Lasting}
use Rattle.xa_branch.specs.Branches.{BranchesStandFor}

-- where the rooms are
abbrev pub rooms_of : Branches → BTreeMap Triple Lasting
rooms_of m = m.lasting

abbrev pub has_room : BTreeMap Triple Lasting → Triple → Bool
has_room rooms xid = is_some (get xid_cmp rooms xid)

abbrev pub AreRooms : List Triple → BTreeMap Triple Lasting → Type 0
AreRooms xids rooms = AllByRecursion (λ xid. has_room rooms xid ≡ true) xids

-- The branches stand for the state, and these have their rooms.
pub record HaveRooms (xids : List Triple) (m : Branches) (s : State) : Type 0 where
  pub stand : BranchesStandFor m s
  pub rooms : AreRooms xids (rooms_of m)

-- one branch alone has its room
abbrev pub HasRoom : Triple → Branches → State → Type 0
HasRoom xid m s = HaveRooms (xid ∷ []) m s

-- Rooms of several, of distinct XIDs, in the order in which they were made

-- an XID other than these
abbrev pub IsApart : Triple → List Triple → Type 0
IsApart xid xids = AllByRecursion (λ q. xid_eq xid q ≡ false) xids

-- one more has its room, after the others
abbrev pub MakesRoom : Branches → Triple → Branches → Type 0
MakesRoom m xid m' =
    (xids : List Triple) (s : State) → IsApart xid xids → HaveRooms xids m s → HaveRooms (xids ++ xid ∷ []) m' s

-- the same have their rooms
abbrev pub KeepsRooms : Branches → Branches → Type 0
KeepsRooms m m' = (xids : List Triple) (s : State) → HaveRooms xids m s → HaveRooms xids m' s

-- one of them uses its room, wherever it stands among them, and the others still have theirs
abbrev pub UsesRoom : Branches → Triple → Branches → Type 0
UsesRoom m xid m' =
    (before after : List Triple) (s : State) → IsApart xid (before ++ after) → IsSound s
    → HaveRooms (before ++ xid ∷ after) m s
    → HaveRooms (before ++ after) m' (prepared s xid)

-- or gives it back
abbrev pub GivesRoomBack : Branches → Triple → Branches → Type 0
GivesRoomBack m xid m' =
    (before after : List Triple) (s : State) → IsApart xid (before ++ after)
    → HaveRooms (before ++ xid ∷ after) m s
    → HaveRooms (before ++ after) m' s
