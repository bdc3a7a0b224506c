-- What the acts of the tables do, and of what states.
use Rattle.std.specs.Prelude.{ℕ, ◌≡◌, true, Option, None, Some, IsSome, List, [], ◌∷◌, ◌++◌}
use Rattle.mv_chain.specs.declared.fate.Fate.{Fate}
use Rattle.mv_chain.specs.declared.fate.Fate.TheVariants.{Committed, RolledBack}
use Rattle.xa_codes.specs.declared.direction.Direction.{Direction}
use Rattle.xa_xid.specs.Triple.{Triple}
use Rattle.xa_model.specs.State.{State, InDoubt, known_as, known_of}
use Rattle.xa_model.specs.Phases.{committed, rolled_back, prepared, decided_by, forgotten}
use Rattle.xa_model.specs.Completions.{is_completed}
use Rattle.xa_model.specs.Invariants.Loggable.{IsRecoverable}
use Rattle.xa_assoc.specs.Sessions.{resume_refusal_of, suspend_refusal_of}
use Rattle.xa_branch.specs.Kinds.{ended_kind, resumed_kind}
use Rattle.xa_branch.specs.Room.{IsApart}
use Rattle.xa_branch.specs.declared.kind.Kind.{Kind}
use Rattle.xa_branch.specs.declared.kind.Kind.TheVariants.{Active}
use Rattle.xa_manager.specs.declared.tables.Tables.{Tables}
use Rattle.xa_manager.specs.View.{view_of}
use Rattle.xa_manager.specs.Stands.{StandsFor, StandsWithRoom, StandsWithRooms, Becomes, BecomesAt, ending}

-- a start with TMRESUME isn't refused, and takes an association of this kind
abbrev pub Resumes : ℕ → Triple → Kind → State → Type 0
Resumes n xid kind s = (resume_refusal_of s n xid ≡ None) × (resumed_kind s.associations n xid ≡ Some kind)

-- an end with TMSUSPEND isn't refused: it takes the active association
abbrev pub Suspends : ℕ → Triple → State → Type 0
Suspends n xid s = suspend_refusal_of s n xid ≡ None

abbrev pub SuspendsAs : ℕ → Triple → Kind → State → Type 0
SuspendsAs n xid kind s = (suspend_refusal_of s n xid ≡ None) × (kind ≡ Active)

-- another end takes an association of this kind
abbrev pub Ends : ℕ → Triple → Kind → State → Type 0
Ends n xid kind s = ended_kind s.associations n xid ≡ Some kind

-- the branch with this XID, which is at work or in doubt, is completed like this, wherever the log ends then
abbrev pub BranchBecomes : Tables → Triple → (State → Triple → State) → Tables → Type 0
BranchBecomes t xid act t' = BecomesAt (view_of t) (λ s. IsSome (known_of s.branches xid)) (λ s. act s xid) (view_of t')

-- what becomes of a branch for which nothing is logged: it is settled by this fate, or stays as it is
abbrev pub settled : Option Fate → Triple → State → State
settled None xid s = s
settled (Some Committed) xid s = committed s xid
settled (Some RolledBack) xid s = rolled_back s xid

-- one that is settled is known
abbrev pub MaySettle : Option Fate → Triple → State → Type 0
MaySettle None xid s = Unit {0}
MaySettle (Some fate) xid s = IsSome (known_of s.branches xid)

abbrev pub Settles : Tables → Option Fate → Triple → Tables → Type 0
Settles t fate xid t' = Becomes (view_of t) (MaySettle fate xid) (settled fate xid) (view_of t')

-- it is in doubt, and the operator completes it
abbrev pub Decides : Tables → Direction → Triple → Tables → Type 0
Decides t direction xid t' =
    BecomesAt (view_of t) (λ s. known_as s xid ≡ InDoubt) (λ s. decided_by s direction xid) (view_of t')

-- what the operator completed is forgotten
abbrev pub Forgets : Tables → Triple → Tables → Type 0
Forgets t xid t' = BecomesAt (view_of t) (λ s. is_completed (known_as s xid) ≡ true) (λ s. forgotten s xid) (view_of t')

-- what will be kept of the branch once it is prepared gets its room
abbrev pub MakesRoom : Tables → Triple → Tables → Type 0
MakesRoom t xid t' = (s : State) → StandsFor (view_of t) s → StandsWithRoom xid (view_of t') s

-- the branch takes it: its record stands, wherever the log ends then
abbrev pub TakesPrepared : Tables → Triple → Tables → Type 0
TakesPrepared t xid t' =
    (s : State) (end : ℕ) → StandsWithRoom xid (view_of t) s → IsRecoverable (ending (prepared s xid) end)
    → StandsFor (view_of t') (ending (prepared s xid) end)

-- or gives it back
abbrev pub GivesRoomBack : Tables → Triple → Tables → Type 0
GivesRoomBack t xid t' = (s : State) → StandsWithRoom xid (view_of t) s → StandsFor (view_of t') s

-- Of several branches, of distinct XIDs, in the order in which they get their rooms

-- one more gets its room, after the others
abbrev pub MakesRoomAfter : Tables → Triple → Tables → Type 0
MakesRoomAfter t xid t' =
    (xids : List Triple) (s : State) → IsApart xid xids → StandsWithRooms xids (view_of t) s
    → StandsWithRooms (xids ++ xid ∷ []) (view_of t') s

-- the same have theirs
abbrev pub KeepsRooms : Tables → Tables → Type 0
KeepsRooms t t' = (xids : List Triple) (s : State) → StandsWithRooms xids (view_of t) s → StandsWithRooms xids (view_of t') s

-- the first of them takes its room: its record stands, wherever the log ends then
abbrev pub TakesFirstPrepared : Tables → Triple → Tables → Type 0
TakesFirstPrepared t xid t' =
    (xids : List Triple) (s : State) (end : ℕ) → IsApart xid xids → StandsWithRooms (xid ∷ xids) (view_of t) s
    → IsRecoverable (ending (prepared s xid) end)
    → StandsWithRooms xids (view_of t') (ending (prepared s xid) end)

-- or gives it back
abbrev pub GivesFirstRoomBack : Tables → Triple → Tables → Type 0
GivesFirstRoomBack t xid t' =
    (xids : List Triple) (s : State) → IsApart xid xids → StandsWithRooms (xid ∷ xids) (view_of t) s
    → StandsWithRooms xids (view_of t') s

-- branches of distinct XIDs
abbrev pub AreDistinct : List Triple → Type 0
AreDistinct [] = Unit {0}
AreDistinct (xid ∷ xids) = IsApart xid xids × AreDistinct xids

-- all of them get their rooms
abbrev pub MakeRooms : Tables → List Triple → Tables → Type 0
MakeRooms t xids t' =
    (s : State) → AreDistinct xids → StandsFor (view_of t) s → StandsWithRooms xids (view_of t') s

-- all of them give their rooms back
abbrev pub GiveRoomsBack : Tables → List Triple → Tables → Type 0
GiveRoomsBack t xids t' =
    (s : State) → AreDistinct xids → StandsWithRooms xids (view_of t) s → StandsFor (view_of t') s

-- whichever of them have their rooms, the tables stand for what they stood for
abbrev pub StaysIfDistinct : Tables → List Triple → Tables → Type 0
StaysIfDistinct t xids t' = (s : State) → AreDistinct xids → StandsFor (view_of t) s → StandsFor (view_of t') s
