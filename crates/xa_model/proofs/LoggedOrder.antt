-- What a state may log fits after the log that backs the state.
use Rattle.std.proofs.Common.{◌≡◌, ℕ, ◌+◌, ◌<◌, Bool, true, false, not, ◌&&◌, List, ◌++◌, Option, Some, None, refl, ap, sym, ◌∙◌, subst, arith}
use Rattle.std.specs.Prelude.{find, option_map}
use Rattle.std.specs.List.{AllByRecursion}
use Rattle.std.proofs.lemmas.Bool.Decides.{nat_tests}
use Rattle.xa_codes.specs.declared.direction.Direction.{Direction}
use Rattle.xa_codes.specs.declared.write.Write.{Write}
use Rattle.xa_record.specs.declared.record.Record.{Record}
use Rattle.xa_record.specs.declared.record.Record.TheVariants as logged
use Rattle.xa_xid.specs.Triple.{Triple, xid_eq}
use Rattle.xa_model.specs.State.{State, Branch, Phase, Working, Prepared, Committed, InDoubt, Decided, count, known_among, known_by, known_of, decided_of, or_completed, is_known_as, is_working, is_at_work}
use Rattle.xa_model.specs.Invariants.Sound.{IsSound}
use Rattle.xa_model.specs.Durable.{Durable, PreparedBranch, durable, by_name, is_prepared, is_decided, is_past}
use Rattle.xa_model.specs.Fold.{Reading, fits, reading, unread, is_new, is_used, prepared_as}
use Rattle.xa_model.specs.Completions.{is_completed}
use Rattle.xa_model.specs.Invariants.MayLog.{IsIdle}
use Rattle.xa_model.specs.Invariants.Loggable.{IsLoggable, IsRecoverable, MayBeLast}
use Rattle.xa_model.specs.Invariants.Backing.{IsNew, Backs}
use Rattle.xa_model.specs.Laws.Backing.{LoggedInOrder}
use Rattle.xa_model.proofs.Folds.{fold_reads}
use Rattle.xa_model.proofs.Inserts.{none_passes}
use Rattle.xa_model.proofs.Leaving.{found_any}
use Rattle.xa_model.proofs.Lists.{found_all, found_passes}
use Rattle.xa_model.proofs.Splits.{parts, parts_none, parts_all, all_append, uncounted}
use Rattle.xa_model.proofs.Applied.{prepared_of, among, unnamed_by, doubt_by, doubted, idle_branch}
use Rattle.xa_model.proofs.AppliedDecisions.{all_by_name}
use Rattle.xa_model.proofs.Behind.{any_named}

-- names

idle_unprepared : (s : State) (xid : Triple) (t : ℕ) (ws : List Write) → IsSound s → IsIdle s xid t ws → is_prepared xid (durable s).prepared ≡ false
idle_unprepared s xid t ws h idle =
    let i = idle_branch s xid t ws idle in
    let k = among s xid i.branch h i.found in
    let before : parts prepared_of s.branches ≡ parts prepared_of k.here.back ++ parts prepared_of k.here.front =
    ap (parts prepared_of) k.here.whole ∙ parts_none prepared_of k.here.front i.branch k.here.back i.work.unprepared in
    none_passes (λ q. xid_eq q.xid xid) (parts prepared_of s.branches)
    (subst (AllByRecursion (λ (q : PreparedBranch). xid_eq q.xid xid ≡ false)) (sym before)
    (all_append (λ (q : PreparedBranch). xid_eq q.xid xid ≡ false) (parts prepared_of k.here.back) (parts prepared_of k.here.front)
    (parts_all (λ (c : Branch). is_known_as xid c ≡ false) (λ (q : PreparedBranch). xid_eq q.xid xid ≡ false) prepared_of
    (λ x y e other. unnamed_by xid x x.phase y e other) k.here.back k.alone)
    (parts_all (λ (c : Branch). is_known_as xid c ≡ false) (λ (q : PreparedBranch). xid_eq q.xid xid ≡ false) prepared_of
    (λ x y e other. unnamed_by xid x x.phase y e other) k.here.front k.here.first)))

idle_undecided : (s : State) (xid : Triple) (t : ℕ) (ws : List Write) → IsSound s → IsIdle s xid t ws → is_decided xid (durable s).decided ≡ false
idle_undecided s xid t ws h idle =
    let i = idle_branch s xid t ws idle in
    let k = among s xid i.branch h i.found in
    let none : count (λ (d : Decided). xid_eq d.xid xid) s.decided ≡ 0 = omega (arith, k.here.counted, h.distinct xid) in
    none_passes (λ d. xid_eq d.xid xid) (by_name s.decided)
    (all_by_name (λ (d : Decided). xid_eq d.xid xid ≡ false) s.decided (uncounted (λ (d : Decided). xid_eq d.xid xid) s.decided none))

no_doubt : (o : Option Direction) → or_completed o ≡ InDoubt → ⊥
no_doubt None e = cc e
no_doubt (Some direction) e = cc e

prepared_by : (s : State) (xid : Triple) (o : Option Branch) → IsSound s → known_of s.branches xid ≡ o
    → known_among o (decided_of s.decided xid) ≡ InDoubt → is_prepared xid (durable s).prepared ≡ true
prepared_by s xid None h found doubt = absurd (no_doubt (decided_of s.decided xid) doubt)
prepared_by s xid (Some b) h found doubt =
    let made = doubt_by b b.phase xid refl (found_passes (is_known_as xid) b s.branches found) doubt in
    found_any (prepared_as xid) _ (parts prepared_of s.branches) (doubted s xid b (among s xid b h found) made.1).found

-- completed by the operator

phase_uncompleted : (b : Branch) → is_completed (known_by b.phase) ≡ false
phase_uncompleted b = by_phase b.phase
  where
    by_phase : (p : Phase) → is_completed (known_by p) ≡ false
    by_phase (Working x work) = refl
    by_phase (Prepared x) = refl
    by_phase Committed = refl

decided_found : (s : State) (xid : Triple) (f : Option Decided) → find (λ (d : Decided). xid_eq d.xid xid) s.decided ≡ f
    → is_completed (or_completed (option_map (λ (d : Decided). d.direction) f)) ≡ true
    → is_decided xid (durable s).decided ≡ true
decided_found s xid None found e = absurd (cc e)
decided_found s xid (Some d) found e =
    any_named (λ (c : Decided). xid_eq c.xid xid) s.decided ∙ found_any (λ (c : Decided). xid_eq c.xid xid) d s.decided found

decided_is : (s : State) (xid : Triple) (o : Option Branch) → is_completed (known_among o (decided_of s.decided xid)) ≡ true
    → is_decided xid (durable s).decided ≡ true
decided_is s xid (Some b) e = absurd (cc (phase_uncompleted b, e))
decided_is s xid None e = decided_found s xid (find (λ (d : Decided). xid_eq d.xid xid) s.decided) refl e

-- a branch at work is new

working_by : (s : State) (xid : Triple) (b : Branch) → known_of s.branches xid ≡ Some b → is_at_work (known_of s.branches xid) ≡ true
    → is_working b.phase ≡ true
working_by s xid b found works = sym (ap is_at_work found) ∙ works

all_true : (a b c d : Bool) → a ≡ true → b ≡ false → c ≡ false → d ≡ false → (a && not b && (not c && not d)) ≡ true
all_true a b c d ha hb hc hd = rw (ha, hb, hc, hd) refl

-- what is read of the log that backs a state
record IsBehind (x : Reading) (s : State) : Type 0 where
  lasts : x.durable ≡ durable s
  new : IsNew s x.timestamps

-- a state of which records may be logged
pub record LogsOn (s : State) : Type 0 where
  pub sound : IsSound s
  pub loggable : IsLoggable s

pub logs_on : (s : State) → IsRecoverable s → LogsOn s
logs_on s h = record { sound = h.sound; loggable = h.loggable }

new_fits : (x : Reading) (s : State) (xid : Triple) (t : ℕ) (ws : List Write) → LogsOn s → s.logged_boot ≡ s.boot → IsBehind x s
    → IsIdle s xid t ws → is_new xid t x ≡ true
new_fits x s xid t ws h current k idle =
    let i = idle_branch s xid t ws idle in
    let working : is_working i.branch.phase ≡ true = working_by s xid i.branch i.found idle.working in
    let there = found_all (λ (b : Branch). is_working b.phase ≡ true → is_used b.timestamp x.timestamps ≡ false)
    (is_known_as xid) i.branch s.branches k.new.unused i.found in
    let past = found_all (λ (b : Branch). is_past (s.logged_boot + 1) b.timestamp ≡ true)
    (is_known_as xid) i.branch s.branches h.loggable.past i.found in
    let unused : is_used t x.timestamps ≡ false = subst (λ u. is_used u x.timestamps ≡ false) i.time (there working) in
    let same : x.durable.boot ≡ s.logged_boot = ap (λ (d : Durable). d.boot) k.lasts in
    let given : is_past (x.durable.boot + 1) t ≡ true =
    subst (λ n. is_past (n + 1) t ≡ true) (sym same) (subst (λ u. is_past (s.logged_boot + 1) u ≡ true) i.time past) in
    let unprepared : is_prepared xid x.durable.prepared ≡ false =
    ap (λ (d : Durable). is_prepared xid d.prepared) k.lasts ∙ idle_unprepared s xid t ws h.sound idle in
    let undecided : is_decided xid x.durable.decided ≡ false =
    ap (λ (d : Durable). is_decided xid d.decided) k.lasts ∙ idle_undecided s xid t ws h.sound idle in
    all_true (is_past (x.durable.boot + 1) t) (is_used t x.timestamps)
    (is_prepared xid x.durable.prepared) (is_decided xid x.durable.decided)
    given unused unprepared undecided

behind : (rs : List Record) (s : State) → Backs rs s → s.logged_boot ≡ s.boot → IsBehind (reading unread rs) s
behind rs s k current = record { lasts = fold_reads rs (durable s) k.lasts; new = k.new current }

fits_read : (x : Reading) (s : State) (r : Record) → LogsOn s → MayBeLast s r → x.durable ≡ durable s
    → (s.logged_boot ≡ s.boot → IsBehind x s) → fits r x ≡ true
fits_read x s (logged.Opened boot) h k lasts new =
    let same : x.durable.boot ≡ s.logged_boot = ap (λ (d : Durable). d.boot) lasts in
    let may : s.logged_boot < boot = k.may in grind (arith, nat_tests)
fits_read x s (logged.Prepared xid t ws) h k lasts new = new_fits x s xid t ws h (k.current refl) (new (k.current refl)) k.may
fits_read x s (logged.Committed xid t ws) h k lasts new = new_fits x s xid t ws h (k.current refl) (new (k.current refl)) k.may
fits_read x s (logged.Completed xid direction) h k lasts new =
    ap (λ (d : Durable). is_prepared xid d.prepared) lasts ∙ prepared_by s xid (known_of s.branches xid) h.sound refl k.may
fits_read x s (logged.Decided xid direction) h k lasts new =
    ap (λ (d : Durable). is_prepared xid d.prepared) lasts ∙ prepared_by s xid (known_of s.branches xid) h.sound refl k.may
fits_read x s (logged.Forgotten xid) h k lasts new =
    ap (λ (d : Durable). is_decided xid d.decided) lasts ∙ decided_is s xid (known_of s.branches xid) k.may
fits_read x s (logged.Base t ws) h k lasts new = absurd k.may
fits_read x s (logged.Held xid t ws) h k lasts new = absurd k.may
fits_read x s (logged.Known xid direction) h k lasts new = absurd k.may

pub in_order : (rs : List Record) (s : State) (r : Record) → LogsOn s → Backs rs s → MayBeLast s r → fits r (reading unread rs) ≡ true
in_order rs s r h k last = fits_read (reading unread rs) s r h last (fold_reads rs (durable s) k.lasts) (λ current. behind rs s k current)

pub logged_in_order : LoggedInOrder
logged_in_order rs s r h k last = in_order rs s r (logs_on s h) k last
