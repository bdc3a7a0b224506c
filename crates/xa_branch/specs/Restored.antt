-- Branches that are restored from what lasted.
use Rattle.std.specs.Prelude.{ℕ, ◌≡◌, ◌+◌, ◌==◌, false, Option, Some, None, List, [], ◌∷◌, ◌++◌, find, length, option_map}
use Rattle.std.specs.BTreeMap.{IsEmpty, btree_map_len}
use Rattle.std.specs.BTreeSet.{IsEmpty as IsEmptySet}
use Rattle.std.specs.List.{list_any}
use Rattle.xa_codes.specs.declared.direction.Direction.{Direction}
use Rattle.xa_xid.specs.Triple.{Triple, xid_eq}
use Rattle.xa_model.specs.State.{State, Decided}
use Rattle.xa_model.specs.Durable.{Durable, PreparedBranch, is_prepared, is_decided}
use Rattle.xa_model.specs.Invariants.Restored.{IsRestored}
use Rattle.xa_branch.specs.declared.branches.Branches.{Branches}
use Rattle.xa_branch.specs.declared.lasting.Lasting.{Lasting}
use Rattle.xa_branch.specs.declared.lasting.Lasting.TheVariants as lasting
use Rattle.xa_branch.specs.Branches.{BranchesStandFor, lasting_at, timed_at}

-- what is kept of an XID: that its branch is prepared, or what the operator decided
abbrev pub restored_by : Option PreparedBranch → Option Decided → Option Lasting
restored_by (Some p) d = Some (lasting.Prepared p.timestamp)
restored_by None d = option_map (λ e. lasting.Completed e.direction) d

abbrev pub restored_at : List PreparedBranch → List Decided → Triple → Option Lasting
restored_at ps ds xid = restored_by (find (λ p. xid_eq p.xid xid) ps) (find (λ d. xid_eq d.xid xid) ds)

-- In the boot of this number, which has given no timestamp yet, and at this moment these prepared branches and these XIDs
-- that the operator completed are known, and no branch is at work.
pub record HasRestored (m : Branches) (n now : ℕ) (ps : List PreparedBranch) (ds : List Decided) : Type 0 where
  pub boot : m.boot ≡ n
  pub given : m.given ≡ 0
  pub moment : m.moment ≡ now
  pub working : IsEmpty m.working
  pub lasting : (xid : Triple) → lasting_at m xid ≡ restored_at ps ds xid
  pub times : (t : ℕ) → timed_at m t ≡ list_any (λ p. p.timestamp == t) ps
  pub due : IsEmptySet m.due
  pub number : btree_map_len m.lasting ≡ length ps + length ds
  pub prepared : m.prepared ≡ length ps
  pub completed : m.completed ≡ length ds

-- whatever they have restored without this XID, the others have this prepared branch as well
abbrev pub RestoresPrepared : Branches → Triple → ℕ → Branches → Type 0
RestoresPrepared m xid timestamp m' =
    (boot moment : ℕ) (ps : List PreparedBranch) (ds : List Decided) (p : PreparedBranch)
    → p.xid ≡ xid → p.timestamp ≡ timestamp → is_prepared xid ps ≡ false → is_decided xid ds ≡ false
    → HasRestored m boot moment ps ds → HasRestored m' boot moment (ps ++ p ∷ []) ds

-- the same of an XID that the operator completed in this direction
abbrev pub RestoresCompleted : Branches → Triple → Direction → Branches → Type 0
RestoresCompleted m xid direction m' =
    (boot moment : ℕ) (ps : List PreparedBranch) (ds : List Decided) (d : Decided)
    → d.xid ≡ xid → d.direction ≡ direction → is_prepared xid ps ≡ false → is_decided xid ds ≡ false
    → HasRestored m boot moment ps ds → HasRestored m' boot moment ps (ds ++ d ∷ [])

-- once all that lasted is restored, the branches stand for each state at the same moment that it leads to
abbrev pub RestoredStand : Type 0
RestoredStand =
    (m : Branches) (d : Durable) (next : ℕ) (s : State)
    → HasRestored m next s.moment d.prepared d.decided → IsRestored d next s → BranchesStandFor m s
