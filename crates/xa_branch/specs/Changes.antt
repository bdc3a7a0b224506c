-- What calls change of what is kept.
use Rattle.std.specs.Prelude.{ℕ, ◌≡◌, ◌+◌, ◌-◌, ◌^◌, ◌==◌, ℤ, min, Bool, true, Option, Some, None, cond, is_some, option_map}
use Rattle.std.specs.BTreeMap.{BTreeMap, get, btree_map_len}
use Rattle.std.specs.BTreeSet.{BTreeSet, contains}
use Rattle.std.specs.Ordering.{nat_cmp, is_eq}
use Rattle.xa_codes.specs.declared.codes.TheConstants.{XA_RBCOMMFAIL}
use Rattle.xa_xid.specs.Triple.{Triple, xid_cmp}
use Rattle.xa_model.specs.Associations.{or_mark}
use Rattle.xa_branch.specs.declared.kind.Kind.{Kind}
use Rattle.xa_branch.specs.declared.kind.Kind.TheVariants as kind
use Rattle.xa_branch.specs.declared.branches.Branches.{Branches}
use Rattle.xa_branch.specs.declared.working.Working.{Working as Kept}
use Rattle.xa_branch.specs.Due.{GainsDue, due_of, work_of}
use Rattle.xa_branch.specs.Kinds.{own_kind}

-- what is at one XID changes, and nothing else does
pub record Sets
    {V : Type 0} (m : BTreeMap Triple V) (xid : Triple) (o : Option V) (m' : BTreeMap Triple V)
    : Type 0 where
  pub at : (q : Triple) → get xid_cmp m' q ≡ cond (is_eq (xid_cmp xid q)) o (get xid_cmp m q)
  pub number : btree_map_len m' + cond (is_some (get xid_cmp m xid)) 1 0 ≡ btree_map_len m + cond (is_some o) 1 0

-- a timestamp is among these from now on, or no longer, and no other changes
abbrev pub SetsTime : BTreeSet ℕ → ℕ → Bool → BTreeSet ℕ → Type 0
SetsTime ts t b ts' = (u : ℕ) → contains nat_cmp ts' u ≡ cond (t == u) b (contains nat_cmp ts u)

-- a branch that has just begun, with this timestamp, at this moment and with this time limit
abbrev pub new_kept : ℕ → ℕ → ℕ → Kept
new_kept timestamp start limit = record {
  timestamp = timestamp;
  mark = None;
  start = start;
  limit = limit;
  active = 1;
  suspended = 0;
  loose = 0;
}

-- the first mark stays
abbrev pub marked : ℤ → Kept → Kept
marked code w = record w { mark = or_mark w.mark code }

-- one more association, or one fewer
abbrev pub one_more : ℕ → ℕ
one_more n = min (n + 1) (2 ^ 64 - 1)

abbrev pub with_one : Kind → Kept → Kept
with_one kind.Active w = record w { active = one_more w.active }
with_one kind.Suspended w = record w { suspended = one_more w.suspended }
with_one kind.Loose w = record w { loose = one_more w.loose }

abbrev pub less_one : Kind → Kept → Kept
less_one kind.Active w = record w { active = w.active - 1 }
less_one kind.Suspended w = record w { suspended = w.suspended - 1 }
less_one kind.Loose w = record w { loose = w.loose - 1 }

-- a branch that a session leaves behind when it hangs up: its association of this kind ends, and the branch is marked
abbrev pub left_behind : Kind → Kept → Kept
left_behind k w = marked XA_RBCOMMFAIL (less_one k w)

-- Each of these branches is left behind once, by a session that is at work for one of them or for none; nothing else
-- changes.
pub record LeavesAll
    (m : BTreeMap Triple Kept) (own : BTreeSet Triple) (active : Option Triple) (m' : BTreeMap Triple Kept)
    : Type 0 where
  pub at : (q : Triple)
      → get xid_cmp m' q
      ≡ cond (contains xid_cmp own q) (option_map (left_behind (own_kind active q)) (get xid_cmp m q)) (get xid_cmp m q)
  pub number : btree_map_len m' ≡ btree_map_len m

-- one more branch at work is kept
pub record Keeps (m : Branches) (xid : Triple) (w : Kept) (m' : Branches) : Type 0 where
  pub working : Sets m.working xid (Some w) m'.working
  pub times : SetsTime m.times w.timestamp true m'.times
  pub due : GainsDue m.due xid (due_of (work_of w)) m'.due
  pub boot : m'.boot ≡ m.boot
  pub given : m'.given ≡ m.given
  pub moment : m'.moment ≡ m.moment
  pub lasting : m'.lasting ≡ m.lasting
  pub prepared : m'.prepared ≡ m.prepared
  pub completed : m'.completed ≡ m.completed
