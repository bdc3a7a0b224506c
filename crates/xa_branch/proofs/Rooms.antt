-- Rooms of branches at work: which changes leave what lasts as it is, and which leave each its room.
use Rattle.std.proofs.Common.{◌≡◌, Bool, true, false, cond, Option, Some, None, List, [], ◌∷◌, ◌++◌, refl, ap, sym, ◌∙◌, subst}
use Rattle.std.specs.Prelude.{is_some, option_map}
use Rattle.std.specs.BTreeMap.{BTreeMap, get}
use Rattle.std.specs.Ordering.{is_eq}
use Rattle.xa_xid.specs.Triple.{Triple, xid_cmp, xid_eq}
use Rattle.xa_xid.proofs.Same.{xid_same, xid_eq_itself}
use Rattle.xa_model.specs.State.{State}
use Rattle.xa_model.proofs.Xids.{cmp_is_eq}
use Rattle.xa_branch.specs.declared.branches.Branches.{Branches}
use Rattle.xa_branch.specs.declared.lasting.Lasting.{Lasting}
use Rattle.xa_branch.specs.declared.working.Working.{Working as Kept}
use Rattle.xa_branch.specs.Branches.{BranchesStandFor, lasting_at, unless_working, working_at}
use Rattle.xa_branch.specs.Changes.{Sets}
use Rattle.xa_branch.specs.Room.{AreRooms, HaveRooms, IsApart, has_room}

-- ---- what lasts

-- nothing is kept
pub nothing_lasts : (w : Option Kept) → unless_working w None ≡ None
nothing_lasts None = refl
nothing_lasts (Some w) = refl

-- the same are at work
pub as_hidden : (w v : Option Kept) (o : Option Lasting) → is_some v ≡ is_some w → unless_working v o ≡ unless_working w o
as_hidden None None o e = refl
as_hidden None (Some v) o e = absurd (cc e)
as_hidden (Some w) None o e = absurd (cc e)
as_hidden (Some w) (Some v) o e = refl

-- of one that isn't at work
pub plainly : (m : Branches) (xid : Triple) → working_at m xid ≡ None → lasting_at m xid ≡ get xid_cmp m.lasting xid
plainly m xid e = ap (λ (w : Option Kept). unless_working w (get xid_cmp m.lasting xid)) e

-- what lasts is kept
pub kept_there : (w : Option Kept) (o : Option Lasting) (l : Lasting) → unless_working w o ≡ Some l → o ≡ Some l
kept_there None o l e = e
kept_there (Some w) o l e = absurd (cc e)

is_here : (xid q : Triple) → is_eq (xid_cmp xid q) ≡ true → xid ≡ q
is_here xid q e = xid_same xid q (sym (cmp_is_eq xid q) ∙ e)

-- another is set for one that isn't at work
pub set_look : (m : Branches) (after : BTreeMap Triple Lasting) (xid : Triple) (o : Option Lasting) → working_at m xid ≡ None → Sets m.lasting xid o after
    → (q : Triple) → unless_working (working_at m q) (get xid_cmp after q) ≡ cond (is_eq (xid_cmp xid q)) o (lasting_at m q)
set_look m after xid o idle sets q = ap (unless_working (working_at m q)) (sets.at q) ∙ by (is_eq (xid_cmp xid q)) refl
  where
    by : (c : Bool) → is_eq (xid_cmp xid q) ≡ c → unless_working (working_at m q) (cond c o (get xid_cmp m.lasting q)) ≡ cond c o (lasting_at m q)
    by true e =
        let none : working_at m q ≡ None = subst (λ (x : Triple). working_at m x ≡ None) (is_here xid q e) idle in
        ap (λ (w : Option Kept). unless_working w o) none
    by false e = refl

-- of one that is at work whatever is set is its room
pub room_look : (m : Branches) (after : BTreeMap Triple Lasting) (xid : Triple) (w : Kept) (o : Option Lasting) → working_at m xid ≡ Some w → Sets m.lasting xid o after
    → (q : Triple) → unless_working (working_at m q) (get xid_cmp after q) ≡ lasting_at m q
room_look m after xid w o busy sets q = ap (unless_working (working_at m q)) (sets.at q) ∙ by (is_eq (xid_cmp xid q)) refl
  where
    by : (c : Bool) → is_eq (xid_cmp xid q) ≡ c → unless_working (working_at m q) (cond c o (get xid_cmp m.lasting q)) ≡ lasting_at m q
    by true e =
        let there : working_at m q ≡ Some w = subst (λ (x : Triple). working_at m x ≡ Some w) (is_here xid q e) busy in
        rw there refl
    by false e = refl

-- one that is at work is changed
pub mapped_look : (f : Kept → Kept) (m : Branches) (kept : BTreeMap Triple Kept) (xid : Triple) → Sets m.working xid (option_map f (working_at m xid)) kept
    → (q : Triple) → unless_working (get xid_cmp kept q) (get xid_cmp m.lasting q) ≡ lasting_at m q
mapped_look f m kept xid sets q =
    as_hidden (working_at m q) (get xid_cmp kept q) (get xid_cmp m.lasting q) (ap (λ (w : Option Kept). is_some w) (sets.at q) ∙ by (is_eq (xid_cmp xid q)) refl)
  where
    some_mapped : (w : Option Kept) → is_some (option_map f w) ≡ is_some w
    some_mapped None = refl
    some_mapped (Some w) = refl

    by : (c : Bool) → is_eq (xid_cmp xid q) ≡ c → is_some (cond c (option_map f (working_at m xid)) (working_at m q)) ≡ is_some (working_at m q)
    by true e = some_mapped (working_at m xid) ∙ ap (λ (x : Triple). is_some (working_at m x)) (is_here xid q e)
    by false e = refl

-- one of which nothing lasts comes to work
pub begun_look : (m : Branches) (kept : BTreeMap Triple Kept) (xid : Triple) (w : Kept) → lasting_at m xid ≡ None → Sets m.working xid (Some w) kept
    → (q : Triple) → unless_working (get xid_cmp kept q) (get xid_cmp m.lasting q) ≡ lasting_at m q
begun_look m kept xid w none sets q = ap (λ (o : Option Kept). unless_working o (get xid_cmp m.lasting q)) (sets.at q) ∙ by (is_eq (xid_cmp xid q)) refl
  where
    by : (c : Bool) → is_eq (xid_cmp xid q) ≡ c → unless_working (cond c (Some w) (working_at m q)) (get xid_cmp m.lasting q) ≡ lasting_at m q
    by true e = sym (subst (λ (x : Triple). lasting_at m x ≡ None) (is_here xid q e) none)
    by false e = refl

-- one is at work no more, and this is kept of it
pub left_look : (w : Option Kept) (o p : Option Lasting) (c : Bool) → unless_working (cond c None w) (cond c p o) ≡ cond c p (unless_working w o)
left_look w o p true = refl
left_look w o p false = refl

-- ---- rooms

pub each_room : (xids : List Triple) (rooms after : BTreeMap Triple Lasting) → ((x : Triple) → has_room rooms x ≡ true → has_room after x ≡ true) → AreRooms xids rooms → AreRooms xids after
each_room [] rooms after f h = tt
each_room (x ∷ xids) rooms after f h = (f x h.0, each_room xids rooms after f h.1)

-- one more is set
pub set_room : (rooms after : BTreeMap Triple Lasting) (xid : Triple) (l : Lasting) → Sets rooms xid (Some l) after → (x : Triple) → has_room rooms x ≡ true → has_room after x ≡ true
set_room rooms after xid l sets x h = ap (λ (o : Option Lasting). is_some o) (sets.at x) ∙ by (is_eq (xid_cmp xid x))
  where
    by : (c : Bool) → is_some (cond c (Some l) (get xid_cmp rooms x)) ≡ true
    by true = refl
    by false = h

pub own_room : (rooms after : BTreeMap Triple Lasting) (xid : Triple) (l : Lasting) → Sets rooms xid (Some l) after → has_room after xid ≡ true
own_room rooms after xid l sets = rw (sets.at xid, cmp_is_eq xid xid, xid_eq_itself xid) refl

-- those of others stay where one is taken away
pub others_rooms : (xids : List Triple) (rooms after : BTreeMap Triple Lasting) (xid : Triple) → Sets rooms xid None after → IsApart xid xids → AreRooms xids rooms → AreRooms xids after
others_rooms [] rooms after xid sets apart h = tt
others_rooms (x ∷ xids) rooms after xid sets apart h = (
  ap (λ (o : Option Lasting). is_some o) (sets.at x ∙ rw (cmp_is_eq xid x, apart.0) refl) ∙ h.0,
  others_rooms xids rooms after xid sets apart.1 h.1,
)

pub room_last : (xids : List Triple) (xid : Triple) (rooms : BTreeMap Triple Lasting) → AreRooms xids rooms → has_room rooms xid ≡ true → AreRooms (xids ++ xid ∷ []) rooms
room_last [] xid rooms h k = (k, tt)
room_last (x ∷ xids) xid rooms h k = (h.0, room_last xids xid rooms h.1 k)

pub room_among : (before after : List Triple) (xid : Triple) (rooms : BTreeMap Triple Lasting) → AreRooms (before ++ xid ∷ after) rooms → has_room rooms xid ≡ true
room_among [] after xid rooms h = h.0
room_among (x ∷ before) after xid rooms h = room_among before after xid rooms h.1

pub room_less : (before after : List Triple) (xid : Triple) (rooms : BTreeMap Triple Lasting) → AreRooms (before ++ xid ∷ after) rooms → AreRooms (before ++ after) rooms
room_less [] after xid rooms h = h.1
room_less (x ∷ before) after xid rooms h = (h.0, room_less before after xid rooms h.1)

-- without rooms

pub no_rooms_yet : (m : Branches) (s : State) → BranchesStandFor m s → HaveRooms [] m s
no_rooms_yet m s st = record { stand = st; rooms = tt }

pub no_rooms_left : (m : Branches) (s : State) → HaveRooms [] m s → BranchesStandFor m s
no_rooms_left m s st = st.stand
