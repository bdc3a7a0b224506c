-- The history of writes and reads, after changes that leave what branches wrote.
use Rattle.std.proofs.Common.{◌≡◌, ◌≤◌, ◌+◌, ℕ, ℤ, Bool, true, false, cond, List, [], ◌∷◌, ◌++◌, map, Option, refl, ap, sym, ◌∙◌, subst, arith}
use Rattle.xa_xid.specs.Triple.{Triple}
use Rattle.mv_chain.specs.declared.fate.Fate.{Fate}
use Rattle.mv_chain.specs.Accesses.{Written}
use Rattle.mv_rules.specs.declared.records.Records.{Records}
use Rattle.mv_rules.specs.Records.{StandsFor as RecordsStandFor}
use Rattle.mv_rules.specs.Ties.{history_of, low_of, writes_in, writes_by, writes_one, fate_of, read_as}
use Rattle.mv_rules.proofs.Branches.{unwritten}
use Rattle.mv_rules.proofs.Remade.{low_rises}
use Rattle.xa_codes.specs.declared.codes.TheConstants.{XA_RBCOMMFAIL, XA_RBTIMEOUT}
use Rattle.xa_model.specs.State.{State, Branch, Read, Phase, Working, Prepared, Committed, is_known_as, change}
use Rattle.xa_model.specs.Phases.{prepared, prepared_phase, as_prepared}
use Rattle.xa_model.specs.Associations.{with_mark, marked_phase, left_behind, is_worked_by}
use Rattle.xa_model.specs.TimeLimits.{runs_out, ticked}
use Rattle.xa_model.proofs.ChangedWaters.{marked_water, left_water, timed_water, prepared_water, marked_floor, left_floor, timed_floor, prepared_floor}
use Rattle.xa_model.specs.Invariants.Loggable.{IsRecoverable}
use Rattle.xa_model.specs.Trimming.{trimmed}
use Rattle.xa_model.proofs.LowWaters.{rises}
use Rattle.xa_model.proofs.Moves.{Moves, core, trims}
use Rattle.xa_model.proofs.WorkFloors.{lifts}
use Rattle.xa_manager.proofs.Lows.{rises_with, stays_with}

-- the low water may have risen
same_writes : (s t : State) (r : Records) → t.reads ≡ s.reads → writes_in t.branches ≡ writes_in s.branches → low_of s ≤ low_of t → RecordsStandFor (history_of s) r → RecordsStandFor (history_of t) r
same_writes s t r reads writes low st =
    let risen : RecordsStandFor (record { low = low_of t; writes = writes_in s.branches; reads = map read_as s.reads }) r = low_rises (history_of s) r (low_of t) st low in
    let moved : RecordsStandFor (record { low = low_of t; writes = writes_in t.branches; reads = map read_as s.reads }) r =
    subst (λ (ws : List Written). RecordsStandFor (record { low = low_of t; writes = ws; reads = map read_as s.reads }) r) (sym writes) risen in
    subst (λ (rs : List Read). RecordsStandFor (record { low = low_of t; writes = writes_in t.branches; reads = map read_as rs }) r) (sym reads) moved

marked_fate : (code : ℤ) (p : Phase) → fate_of (marked_phase code p) ≡ fate_of p
marked_fate code (Working xid work) = refl
marked_fate code (Prepared xid) = refl
marked_fate code Committed = refl

marked_one : (code : ℤ) (b : Branch) → writes_one (with_mark code b) ≡ writes_one b
marked_one code b = ap (λ (fate : Option Fate). writes_by b.timestamp fate b.operations) (marked_fate code b.phase)

-- a branch is marked
pub marked_records : (code : ℤ) (xid : Triple) (s : State) (r : Records) → RecordsStandFor (history_of s) r
    → RecordsStandFor (history_of (record s { branches = change (is_known_as xid) (with_mark code) s.branches })) r
marked_records code xid s r st =
    let t : State = record s { branches = change (is_known_as xid) (with_mark code) s.branches } in
    same_writes s t r refl (unwritten (is_known_as xid) (with_mark code) (marked_one code) s.branches) (stays_with s t (marked_floor s code xid) (marked_water s code xid)) st

-- some branches are marked

abbrev marking : ℤ → (Branch → Bool) → Branch → Branch
marking code p b = cond (p b) (with_mark code b) b

marking_one : (code : ℤ) (c : Bool) (b : Branch) → writes_one (cond c (with_mark code b) b) ≡ writes_one b
marking_one code true b = marked_one code b
marking_one code false b = refl

marking_writes : (code : ℤ) (p : Branch → Bool) (bs : List Branch) → writes_in (map (marking code p) bs) ≡ writes_in bs
marking_writes code p [] = refl
marking_writes code p (b ∷ bs) =
    ap (λ (ws : List Written). ws ++ writes_in (map (marking code p) bs)) (marking_one code (p b) b) ∙ ap (λ (ws : List Written). writes_one b ++ ws) (marking_writes code p bs)

-- a session hangs up
pub left_records : (n : ℕ) (s : State) (r : Records) → RecordsStandFor (history_of s) r
    → RecordsStandFor (history_of (record s { branches = map (left_behind s.associations n) s.branches })) r
left_records n s r st =
    let t : State = record s { branches = map (left_behind s.associations n) s.branches } in
    same_writes s t r refl (marking_writes XA_RBCOMMFAIL (λ b. is_worked_by s.associations n b.phase) s.branches) (stays_with s t (left_floor s s.associations n) (left_water s s.associations n)) st

-- a moment is told
pub ticked_records : (moment : ℕ) (s : State) (r : Records) → RecordsStandFor (history_of s) r → RecordsStandFor (history_of (ticked s moment)) r
ticked_records moment s r st =
    same_writes s (ticked s moment) r refl (marking_writes XA_RBTIMEOUT (runs_out moment) s.branches) (stays_with s (ticked s moment) (timed_floor s moment) (timed_water s moment)) st

-- a branch is prepared

prepared_fate : (p : Phase) → fate_of (prepared_phase p) ≡ fate_of p
prepared_fate (Working xid work) = refl
prepared_fate (Prepared xid) = refl
prepared_fate Committed = refl

prepared_one : (b : Branch) → writes_one (as_prepared b) ≡ writes_one b
prepared_one b = ap (λ (fate : Option Fate). writes_by b.timestamp fate b.operations) (prepared_fate b.phase)

pub prepared_records : (xid : Triple) (s : State) (r : Records) → RecordsStandFor (history_of s) r → RecordsStandFor (history_of (prepared s xid)) r
prepared_records xid s r st =
    same_writes s (prepared s xid) r refl (unwritten (is_known_as xid) as_prepared prepared_one s.branches) (stays_with s (prepared s xid) (prepared_floor s xid) (prepared_water s xid)) st

-- a boot begins while all goes on
pub trimmed_records : (boot : ℕ) (s : State) (r : Records) → IsRecoverable s → s.logged_boot + 1 ≡ boot → RecordsStandFor (history_of s) r → RecordsStandFor (history_of (trimmed s boot)) r
trimmed_records boot s r h next st =
    let moves : Moves (core s) (core (trimmed s boot)) = trims boot (omega (arith, h.loggable.boots, next)) in
    same_writes s (trimmed s boot) r refl refl (rises_with s (trimmed s boot) (lifts s (trimmed s boot) moves) (rises s (trimmed s boot) h.sound moves)) st
