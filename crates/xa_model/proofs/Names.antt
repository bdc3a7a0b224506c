-- Branches that leave their names: rolled back, or committed.
use Rattle.std.proofs.Common.{◌≡◌, ◌+◌, Bool, true, false, Option, Some, None, refl, sym, subst, List}
use Rattle.std.specs.Prelude.{is_some}
use Rattle.xa_xid.specs.Triple.{Triple, xid_eq}
use Rattle.xa_xid.proofs.Same.{xid_same}
use Rattle.xa_model.specs.State.{State, Branch, change, without, name_of, is_with, is_known_as, known_of, holders_of, timestamp_of, is_at_work}
use Rattle.xa_model.specs.Phases.{as_committed, committed, rolled_back}
use Rattle.xa_model.specs.Invariants.Sound.{IsSound}
use Rattle.xa_model.proofs.Counts.{count_changed, count_without}
use Rattle.xa_model.proofs.Finds.{find_without}
use Rattle.xa_model.proofs.Lists.{find_change_other}
use Rattle.xa_model.proofs.Order.{KeepsTimestamp, change_descends, without_descends}
use Rattle.xa_model.proofs.Parts.{with_branches}

-- who is called by one XID isn't called by another
pub called_apart_by : (x q : Triple) (o : Option Triple) → xid_eq x q ≡ false → is_with x o ≡ true → is_with q o ≡ false
called_apart_by x q None h is = refl
called_apart_by x q (Some y) h is = subst (λ (z : Triple). xid_eq z q ≡ false) (sym (xid_same y x is)) h

pub called_apart : (x q : Triple) (b : Branch) → xid_eq x q ≡ false → is_known_as x b ≡ true → is_known_as q b ≡ false
called_apart x q b h is = called_apart_by x q (name_of b.phase) h is

bound_by : (s : State) (bs : List Branch) (xid q : Triple) (c : Bool) → xid_eq xid q ≡ c → IsSound s → holders_of s.associations xid ≡ 0
    → (xid_eq xid q ≡ false → known_of bs q ≡ known_of s.branches q) → is_at_work (known_of bs q) ≡ false → holders_of s.associations q ≡ 0
bound_by s bs xid q true e h free same none = subst (λ (x : Triple). holders_of s.associations x ≡ 0) (xid_same xid q e) free
bound_by s bs xid q false e h free same none = h.bound q (subst (λ (o : Option Branch). is_at_work o ≡ false) (same e) none)

-- where only a branch that nobody holds changes, the held ones are at work still
pub bound_beside : (s : State) (bs : List Branch) (xid q : Triple) → IsSound s → holders_of s.associations xid ≡ 0
    → (xid_eq xid q ≡ false → known_of bs q ≡ known_of s.branches q) → is_at_work (known_of bs q) ≡ false → holders_of s.associations q ≡ 0
bound_beside s bs xid q h free same none = bound_by s bs xid q (xid_eq xid q) refl h free same none

-- a branch that nobody holds is gone
pub gone_sound : (s : State) (xid : Triple) → IsSound s → holders_of s.associations xid ≡ 0 → IsSound (rolled_back s xid)
gone_sound s xid h free = with_branches s (without (is_known_as xid) s.branches) h (record {
  descends = without_descends (is_known_as xid) (timestamp_of s.boot s.given + 1) s.branches h.descends;
  names = λ q. count_without (is_known_as xid) (is_known_as q) s.branches;
  known = count_without (is_known_as xid) (λ b. is_some (name_of b.phase)) s.branches;
  bound = λ q none. bound_beside s (without (is_known_as xid) s.branches) xid q h free (λ e. find_without (is_known_as xid) (is_known_as q) (λ b. called_apart xid q b e) s.branches) none;
})

committed_keeps : KeepsTimestamp as_committed
committed_keeps = record { same = λ b. refl }

-- a branch that nobody holds is committed
pub committed_sound : (s : State) (xid : Triple) → IsSound s → holders_of s.associations xid ≡ 0 → IsSound (committed s xid)
committed_sound s xid h free = with_branches s (change (is_known_as xid) as_committed s.branches) h (record {
  descends = change_descends as_committed committed_keeps (is_known_as xid) (timestamp_of s.boot s.given + 1) s.branches h.descends;
  names = λ q. count_changed (is_known_as xid) as_committed (is_known_as q) (λ b is now. absurd (cc now)) s.branches;
  known = count_changed (is_known_as xid) as_committed (λ b. is_some (name_of b.phase)) (λ b is now. absurd (cc now)) s.branches;
  bound = λ q none. bound_beside s (change (is_known_as xid) as_committed s.branches) xid q h free
      (λ e. find_change_other (is_known_as xid) (is_known_as q) as_committed (λ b is. (called_apart xid q b e is, refl)) s.branches) none;
})
