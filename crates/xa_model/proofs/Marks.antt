-- Marks, operations and other changes that leave a branch its name and its work.
use Rattle.std.proofs.Common.{◌≡◌, ℕ, ℤ, Bool, true, false, cond, List, refl}
use Rattle.xa_codes.specs.declared.codes.TheConstants.{XA_RBTIMEOUT}
use Rattle.xa_xid.specs.Triple.{Triple}
use Rattle.xa_model.specs.State.{State, Branch, Phase, Working, Prepared, Committed, Operation, Association, name_of, is_known_as, change, is_working}
use Rattle.xa_model.specs.Associations.{with_mark, marked_phase, left_behind, is_worked_by}
use Rattle.xa_model.specs.TimeLimits.{runs_out, timed_out}
use Rattle.xa_model.specs.Data.{having_done}
use Rattle.xa_model.specs.Invariants.Sound.{IsSound}
use Rattle.xa_model.proofs.Order.{KeepsTimestamp}
use Rattle.xa_model.proofs.Parts.{KeepsName, with_branches, changed_kept}

marked_name : (code : ℤ) (p : Phase) → name_of (marked_phase code p) ≡ name_of p
marked_name code (Working xid work) = refl
marked_name code (Prepared xid) = refl
marked_name code Committed = refl

marked_working : (code : ℤ) (p : Phase) → is_working (marked_phase code p) ≡ is_working p
marked_working code (Working xid work) = refl
marked_working code (Prepared xid) = refl
marked_working code Committed = refl

mark_time : (code : ℤ) → KeepsTimestamp (with_mark code)
mark_time code = record { same = λ b. refl }

pub mark_keeps : (code : ℤ) → KeepsName (with_mark code)
mark_keeps code = record { time = mark_time code; name = λ b. marked_name code b.phase; working = λ b. marked_working code b.phase }

left_time : (code : ℤ) (b : Branch) (c : Bool) → (cond c (with_mark code b) b).timestamp ≡ b.timestamp
left_time code b true = refl
left_time code b false = refl

left_name : (code : ℤ) (b : Branch) (c : Bool) → name_of (cond c (with_mark code b) b).phase ≡ name_of b.phase
left_name code b true = marked_name code b.phase
left_name code b false = refl

left_working : (code : ℤ) (b : Branch) (c : Bool) → is_working (cond c (with_mark code b) b).phase ≡ is_working b.phase
left_working code b true = marked_working code b.phase
left_working code b false = refl

left_times : (held : List Association) (n : ℕ) → KeepsTimestamp (left_behind held n)
left_times held n = record { same = λ b. left_time _ b (is_worked_by held n b.phase) }

pub left_keeps : (held : List Association) (n : ℕ) → KeepsName (left_behind held n)
left_keeps held n = record { time = left_times held n; name = λ b. left_name _ b (is_worked_by held n b.phase); working = λ b. left_working _ b (is_worked_by held n b.phase) }

timed_times : (moment : ℕ) → KeepsTimestamp (timed_out moment)
timed_times moment = record { same = λ b. left_time XA_RBTIMEOUT b (runs_out moment b) }

pub timed_keeps : (moment : ℕ) → KeepsName (timed_out moment)
timed_keeps moment = record { time = timed_times moment; name = λ b. left_name XA_RBTIMEOUT b (runs_out moment b); working = λ b. left_working XA_RBTIMEOUT b (runs_out moment b) }

done_time : (op : Operation) → KeepsTimestamp (having_done op)
done_time op = record { same = λ b. refl }

pub done_keeps : (op : Operation) → KeepsName (having_done op)
done_keeps op = record { time = done_time op; name = λ b. refl; working = λ b. refl }

pub changed_sound : (s : State) (f : Branch → Branch) (xid : Triple) → KeepsName f → IsSound s → IsSound (record s { branches = change (is_known_as xid) f s.branches })
changed_sound s f xid k h = with_branches s (change (is_known_as xid) f s.branches) h (changed_kept s (is_known_as xid) f k h)
