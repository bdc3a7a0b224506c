-- Branches that may come into the log: boots that were logged gave their timestamps, and their writes are within a record's
-- limits.
use Rattle.std.proofs.Common.{◌≡◌, ℕ, ◌+◌, ◌<◌, ◌≤◌, true, List, refl, sym, subst, arith}
use Rattle.std.specs.Prelude.{filter}
use Rattle.std.specs.List.{AllByRecursion}
use Rattle.xa_codes.specs.declared.direction.Direction.TheVariants as direction
use Rattle.xa_record.specs.Limits.{IsRecord}
use Rattle.xa_record.specs.declared.record.Record.{Record}
use Rattle.xa_record.specs.declared.record.Record.TheVariants as logged
use Rattle.xa_model.specs.State.{State, Branch, Phase, Committed, is_known_as}
use Rattle.xa_model.specs.Phases.{as_committed, as_prepared, prepared_phase}
use Rattle.xa_model.specs.Durable.{is_past, writes_of}
use Rattle.xa_model.specs.Logging.{applied}
use Rattle.xa_model.specs.Invariants.MayLog.{MayLog}
use Rattle.xa_model.specs.Invariants.Loggable.{AreShort, IsLoggable}
use Rattle.xa_model.specs.Restarting.{lasts}
use Rattle.xa_limits.specs.declared.TheConstants.{MOST_BOOTS}
use Rattle.xa_model.proofs.Inserts.{all_imply, all_both, filter_keeps}
use Rattle.xa_model.proofs.Lists.{change_all, without_all}
use Rattle.xa_model.proofs.Tests.{past_more}

pub record IsRecordable (logged_boot : ℕ) (b : Branch) : Type 0 where
  pub past : is_past (logged_boot + 1) b.timestamp ≡ true
  pub written : AreShort (writes_of b.operations)

abbrev pub AreRecordable : ℕ → List Branch → Type 0
AreRecordable logged_boot bs = AllByRecursion (IsRecordable logged_boot) bs

-- to and from the parts of a state

both : (logged_boot : ℕ) (bs : List Branch) → AllByRecursion (λ b. is_past (logged_boot + 1) b.timestamp ≡ true) bs
    → AllByRecursion (λ b. AreShort (writes_of b.operations)) bs → AreRecordable logged_boot bs
both logged_boot bs p q =
    all_both (λ b. is_past (logged_boot + 1) b.timestamp ≡ true) (λ b. AreShort (writes_of b.operations)) (IsRecordable logged_boot)
    (λ b past written. record { past = past; written = written }) bs p q

pub recordable : (s : State) → IsLoggable s → AreRecordable s.logged_boot s.branches
recordable s h = both s.logged_boot s.branches h.past h.written

pub record AreBoots (boot logged_boot : ℕ) : Type 0 where
  pub first : 1 ≤ boot
  pub boots : boot ≤ logged_boot
  pub last : logged_boot ≤ MOST_BOOTS

pub loggable : (t : State) → AreBoots t.boot t.logged_boot → AreRecordable t.logged_boot t.branches → IsLoggable t
loggable t b h = record {
  first = b.first;
  boots = b.boots;
  last = b.last;
  past = all_imply (IsRecordable t.logged_boot) (λ b. is_past (t.logged_boot + 1) b.timestamp ≡ true) (λ b k. k.past) t.branches h;
  written = all_imply (IsRecordable t.logged_boot) (λ b. AreShort (writes_of b.operations)) (λ b k. k.written) t.branches h;
}

pub boots_of : (s : State) → IsLoggable s → AreBoots s.boot s.logged_boot
boots_of s h = record { first = h.first; boots = h.boots; last = h.last }

-- with the same boots, and branches that may come into the log
pub relogged : (s t : State) → IsLoggable s → t.boot ≡ s.boot → t.logged_boot ≡ s.logged_boot → AreRecordable s.logged_boot t.branches → IsLoggable t
relogged s t h e f k =
    loggable t (subst (λ (x : ℕ). AreBoots x t.logged_boot) (sym e) (subst (λ (y : ℕ). AreBoots s.boot y) (sym f) (boots_of s h)))
    (subst (λ (y : ℕ). AreRecordable y t.branches) (sym f) k)

-- changes of branches

pub with_phase : (logged_boot : ℕ) (b : Branch) (p : Phase) → IsRecordable logged_boot b → IsRecordable logged_boot (record b { phase = p })
with_phase logged_boot b p h = record { past = h.past; written = h.written }

pub committed_recordable : (logged_boot : ℕ) (b : Branch) → IsRecordable logged_boot b → IsRecordable logged_boot (as_committed b)
committed_recordable logged_boot b h = with_phase logged_boot b Committed h

prepared_recordable : (logged_boot : ℕ) (b : Branch) → IsRecordable logged_boot b → IsRecordable logged_boot (as_prepared b)
prepared_recordable logged_boot b h = with_phase logged_boot b (prepared_phase b.phase) h

-- what a record does

pub raised : (low high : ℕ) (bs : List Branch) → low < high → AreRecordable low bs → AreRecordable high bs
raised low high bs less h =
    all_imply (IsRecordable low) (IsRecordable high) (λ b k. record { past = past_more low high b.timestamp less k.past; written = k.written }) bs h

pub applied_loggable : (s : State) (r : Record) → IsLoggable s → MayLog s r → IsRecord r → IsLoggable (applied r s)
applied_loggable s (logged.Opened boot) h may limits =
    loggable (applied (logged.Opened boot) s) (record { first = h.first; boots = omega (arith, h.boots, may); last = omega (arith, limits.1) })
    (raised s.logged_boot boot s.branches may (recordable s h))
applied_loggable s (logged.Prepared xid t ws) h may limits =
    relogged s (applied (logged.Prepared xid t ws) s) h refl refl (change_all _ (is_known_as xid) as_prepared (prepared_recordable s.logged_boot) s.branches (recordable s h))
applied_loggable s (logged.Committed xid t ws) h may limits =
    relogged s (applied (logged.Committed xid t ws) s) h refl refl (change_all _ (is_known_as xid) as_committed (committed_recordable s.logged_boot) s.branches (recordable s h))
applied_loggable s (logged.Completed xid direction.Commit) h may limits =
    relogged s (applied (logged.Completed xid direction.Commit) s) h refl refl (change_all _ (is_known_as xid) as_committed (committed_recordable s.logged_boot) s.branches (recordable s h))
applied_loggable s (logged.Completed xid direction.Rollback) h may limits =
    relogged s (applied (logged.Completed xid direction.Rollback) s) h refl refl (without_all _ (is_known_as xid) s.branches (recordable s h))
applied_loggable s (logged.Decided xid direction.Commit) h may limits =
    relogged s (applied (logged.Decided xid direction.Commit) s) h refl refl (change_all _ (is_known_as xid) as_committed (committed_recordable s.logged_boot) s.branches (recordable s h))
applied_loggable s (logged.Decided xid direction.Rollback) h may limits =
    relogged s (applied (logged.Decided xid direction.Rollback) s) h refl refl (without_all _ (is_known_as xid) s.branches (recordable s h))
applied_loggable s (logged.Forgotten xid) h may limits = relogged s (applied (logged.Forgotten xid) s) h refl refl (recordable s h)
applied_loggable s (logged.Base t ws) h may limits = absurd may
applied_loggable s (logged.Held xid t ws) h may limits = absurd may
applied_loggable s (logged.Known xid direction) h may limits = absurd may

-- a restart keeps those that aren't at work

pub lasting_recordable : (logged_boot next : ℕ) (bs : List Branch) → logged_boot < next → AreRecordable logged_boot bs → AreRecordable next (filter lasts bs)
lasting_recordable logged_boot next bs less h = filter_keeps (IsRecordable next) lasts bs (raised logged_boot next bs less h)
