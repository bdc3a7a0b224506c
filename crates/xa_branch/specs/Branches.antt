-- Which states of the sequential resource manager the known branches stand for.
use Rattle.std.specs.Prelude.{ℕ, ◌≡◌, ◌+◌, Bool, Option, Some, None, List, length, option_map, option_and_then}
use Rattle.std.specs.BTreeMap.{get, btree_map_len}
use Rattle.std.specs.BTreeSet.{contains}
use Rattle.std.specs.Ordering.{nat_cmp}
use Rattle.xa_codes.specs.declared.direction.Direction.{Direction}
use Rattle.xa_xid.specs.Triple.{Triple, xid_cmp}
use Rattle.xa_model.specs.State.{State, Branch, Phase, Working, Prepared, Committed, Association, count, known_of, known_in, decided_of, Work}
use Rattle.xa_model.specs.Logging.{is_in_doubt, prepared_count}
use Rattle.xa_model.specs.Invariants.LowWater.{is_known_at}
use Rattle.xa_branch.specs.declared.branches.Branches.{Branches}
use Rattle.xa_branch.specs.declared.kind.Kind.TheVariants as kind
use Rattle.xa_branch.specs.declared.lasting.Lasting.{Lasting}
use Rattle.xa_branch.specs.declared.lasting.Lasting.TheVariants as lasting
use Rattle.xa_branch.specs.declared.working.Working.{Working as Kept}
use Rattle.xa_branch.specs.Due.{due_named, due_among, is_then}
use Rattle.xa_branch.specs.Kinds.{held_as}

-- the number of their boot, and the last moment that was told
abbrev pub boot_of : Branches → ℕ
boot_of m = m.boot

abbrev pub moment_of : Branches → ℕ
moment_of m = m.moment

-- what is kept of the branch at work with this XID
abbrev pub working_at : Branches → Triple → Option Kept
working_at m xid = get xid_cmp m.working xid

-- what is kept of the prepared or completed branch with this XID: for one at work nothing, though it may have its room there
abbrev pub unless_working : Option Kept → Option Lasting → Option Lasting
unless_working None lasting = lasting
unless_working (Some w) lasting = None

abbrev pub lasting_at : Branches → Triple → Option Lasting
lasting_at m xid = unless_working (working_at m xid) (get xid_cmp m.lasting xid)

-- whether a branch at work or a prepared one is kept under this timestamp
abbrev pub timed_at : Branches → ℕ → Bool
timed_at m t = contains nat_cmp m.times t

-- how many branches are kept, each once
abbrev pub number_of : Branches → ℕ
number_of m = btree_map_len m.working + (m.prepared + m.completed)

-- a branch at work: its timestamp, what it has while it is at work, and how many active, suspended and loose associations
abbrev pub kept_with : ℕ → Work → ℕ → ℕ → ℕ → Kept
kept_with timestamp work active suspended loose = record {
  timestamp = timestamp;
  mark = work.mark;
  start = work.start;
  limit = work.limit;
  active = active;
  suspended = suspended;
  loose = loose;
}

abbrev pub kept_of : List Association → Triple → ℕ → Work → Kept
kept_of held xid timestamp work =
    kept_with timestamp work
    (held_as kind.Active held xid) (held_as kind.Suspended held xid) (held_as kind.Loose held xid)

abbrev pub working_by : List Association → Triple → ℕ → Phase → Option Kept
working_by held xid timestamp (Working x work) = Some (kept_of held xid timestamp work)
working_by held xid timestamp (Prepared x) = None
working_by held xid timestamp Committed = None

abbrev pub working_in : List Association → Triple → Branch → Option Kept
working_in held xid b = working_by held xid b.timestamp b.phase

-- the known branch with this XID, if it is at work
abbrev pub working_known : State → Triple → Option Kept
working_known s xid = option_and_then (working_in s.associations xid) (known_of s.branches xid)

-- what lasts of a branch: for one at work nothing
abbrev pub lasting_by : ℕ → Phase → Option Lasting
lasting_by timestamp (Working x work) = None
lasting_by timestamp (Prepared x) = Some (lasting.Prepared timestamp)
lasting_by timestamp Committed = None

abbrev pub lasting_in : Branch → Option Lasting
lasting_in b = lasting_by b.timestamp b.phase

abbrev pub lasting_among : Option Branch → Option Direction → Option Lasting
lasting_among (Some b) direction = lasting_in b
lasting_among None direction = option_map lasting.Completed direction

-- what lasts of the known branch with this XID, or the direction in which the operator completed it
abbrev pub lasting_known : State → Triple → Option Lasting
lasting_known s xid = lasting_among (known_of s.branches xid) (decided_of s.decided xid)

-- how many branches are prepared
abbrev pub prepared_among : List Branch → ℕ
prepared_among branches = count (λ b. is_in_doubt b.phase) branches

-- The branches that will run out of time are kept in the order in which they do: these and no others. Nothing is said of
-- what branches did, of sessions or of reads.
pub record BranchesStandFor (m : Branches) (s : State) : Type 0 where
  pub boot : m.boot ≡ s.boot
  pub given : m.given ≡ s.given
  pub moment : m.moment ≡ s.moment
  pub working : (xid : Triple) → working_at m xid ≡ working_known s xid
  pub lasting : (xid : Triple) → lasting_at m xid ≡ lasting_known s xid
  pub times : (t : ℕ) → timed_at m t ≡ is_known_at t s.branches
  pub due : (t : ℕ) (xid : Triple) → due_among m.due t xid ≡ is_then (due_named s.branches xid) t
  pub known : number_of m ≡ known_in s
  pub prepared : m.prepared ≡ prepared_count s
  pub completed : m.completed ≡ length s.decided
