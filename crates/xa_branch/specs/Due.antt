-- When branches at work run out of time, and how that is kept.
use Rattle.std.specs.Prelude.{ℕ, ◌≡◌, ◌+◌, ◌^◌, ◌==◌, ◌<◌, ◌≤◌, Bool, true, false, not, ◌&&◌, ◌||◌, Option, Some, None, List}
use Rattle.std.specs.Prelude.{is_some, option_and_then, nat_lt, if◌then◌else◌}
use Rattle.std.specs.BTreeMap.{BTreeMap, get}
use Rattle.std.specs.BTreeSet.{BTreeSet, contains}
use Rattle.std.specs.declared.cmp.Ordering.{Ordering}
use Rattle.std.specs.Ordering.{nat_cmp, ordering_then}
use Rattle.xa_xid.specs.Triple.{Triple, xid_eq, xid_cmp}
use Rattle.xa_model.specs.State.{Branch, Phase, Working, Prepared, Committed, Work, known_of}
use Rattle.xa_branch.specs.declared.working.Working.{Working as Kept}

-- a moment that can be told has 64 bits
abbrev pub told : ℕ → Option ℕ
told t = if nat_lt t (2 ^ 64) then Some t else None

-- The moment at which a branch at work runs out of time: one that isn't marked, and has a limit.
abbrev pub due_of : Work → Option ℕ
due_of work = if is_some work.mark || work.limit == 0 then None else told (work.start + work.limit)

abbrev pub due_phase : Phase → Option ℕ
due_phase (Working xid work) = due_of work
due_phase (Prepared xid) = None
due_phase Committed = None

abbrev pub due_in : Branch → Option ℕ
due_in b = due_phase b.phase

-- of the known branch with this XID
abbrev pub due_named : List Branch → Triple → Option ℕ
due_named bs xid = option_and_then due_in (known_of bs xid)

-- the same of what is kept of a branch at work
abbrev pub work_of : Kept → Work
work_of w = record { mark = w.mark; start = w.start; limit = w.limit }

abbrev pub due_kept : Option Kept → Option ℕ
due_kept o = option_and_then (λ w. due_of (work_of w)) o

-- whether it is this moment
abbrev pub is_then : Option ℕ → ℕ → Bool
is_then None t = false
is_then (Some u) t = u == t

-- Moments with XIDs, in the order of the moments, and of the XIDs at one moment

abbrev pub due_cmp : ℕ × Triple → ℕ × Triple → Ordering
due_cmp x y = ordering_then (nat_cmp x.0 y.0) (xid_cmp x.1 y.1)

abbrev pub due_among : BTreeSet (ℕ × Triple) → ℕ → Triple → Bool
due_among due t xid = contains due_cmp due (t, xid)

-- an XID at the moment, if there is one, is among these from now on, or no longer, and no other changes

abbrev pub GainsDue : BTreeSet (ℕ × Triple) → Triple → Option ℕ → BTreeSet (ℕ × Triple) → Type 0
GainsDue due xid o due' =
    (t : ℕ) (q : Triple) → due_among due' t q ≡ (due_among due t q || (is_then o t && xid_eq xid q))

abbrev pub LosesDue : BTreeSet (ℕ × Triple) → Triple → Option ℕ → BTreeSet (ℕ × Triple) → Type 0
LosesDue due xid o due' =
    (t : ℕ) (q : Triple) → due_among due' t q ≡ (due_among due t q && not (is_then o t && xid_eq xid q))

-- each of these XIDs is no longer at the moment that follows from what is kept of it
abbrev pub LosesAllDue : BTreeMap Triple Kept → BTreeSet (ℕ × Triple) → BTreeSet Triple → BTreeSet (ℕ × Triple) → Type 0
LosesAllDue m due own due' =
    (t : ℕ) (q : Triple)
    → due_among due' t q ≡ (due_among due t q && not (contains xid_cmp own q && is_then (due_kept (get xid_cmp m q)) t))

-- an XID whose moment has come is among these, and no longer then
pub record PopsDue (moment : ℕ) (due : BTreeSet (ℕ × Triple)) (xid : Triple) (due' : BTreeSet (ℕ × Triple)) : Type 0 where
  pub at : ℕ
  pub come : at ≤ moment
  pub there : due_among due at xid ≡ true
  pub loses : LosesDue due xid (Some at) due'

-- none has come
abbrev pub NoneDue : ℕ → BTreeSet (ℕ × Triple) → Type 0
NoneDue moment due = (t : ℕ) (q : Triple) → due_among due t q ≡ true → moment < t
