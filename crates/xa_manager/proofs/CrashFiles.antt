-- What two files leave of a state, by what the log stands for.
use Rattle.std.proofs.Common.{◌≡◌, ◌⊎◌, inl, inr, ⊎_elim, ℕ, zero, suc, ◌<◌, ◌≤◌, Bool, true, false, List, [], ◌∷◌, ◌++◌, length, take, refl, sym, ◌∙◌, ap, subst, cond, None, arith}
use Rattle.std.specs.Prelude.{map}
use Rattle.std.specs.List.{AllByRecursion}
use Rattle.std.proofs.lemmas.List.{append-nil, map-append, length-map, take-map}
use Rattle.xa_disk.specs.declared.disk.Disk.{Ghosts}
use Rattle.xa_record.specs.Spelling.{spelled}
use Rattle.xa_record.specs.declared.record.Record.{Record}
use Rattle.xa_record.specs.declared.record.Record.TheVariants as logged
use Rattle.xa_record.proofs.Sizes.{opened}
use Rattle.xa_recovery.proofs.Boots.{begins_with_boot}
use Rattle.xa_log.specs.declared.format.Format.{Format}
use Rattle.xa_log.specs.declared.format.Format.TheVariants.{One, Two}
use Rattle.xa_log.specs.Believed.Chain.{IsBody, newest}
use Rattle.xa_log.specs.Believed.Group.{IsPlain}
use Rattle.xa_log.specs.Believed.Chain.{logged as bodies_of_file}
use Rattle.xa_log.specs.Believed.Pair.{generation, IsCalm, logged_pair, pair_fault}
use Rattle.xa_log.specs.Believed.Checkpoint.{HasBytes, LeavesAny}
use Rattle.xa_log.specs.Believed.Laws.{IsLogOf}
use Rattle.xa_log.specs.Believed.LogStates.{LogState, Whole, LostAppend, LostCheckpoint, IsIn, MayFind, LeavesBoth, LooksTo, LeftByLook}
use Rattle.xa_log.specs.Believed.Stands.{Leaves}
use Rattle.xa_log.specs.Believed.TwoFiles.{HasOther, Pair, first_of, second_of}
use Rattle.xa_log.specs.Believed.Unfit.{missing_of}
use Rattle.xa_log.specs.declared.unfit.Unfit.TheVariants.{Neither}
use Rattle.xa_log.specs.Believed.LogView.{LogView}
use Rattle.xa_log.proofs.Beside.{HasFirst, append_generation, bodies_in, by_order, current_filled, image_missing, left_missing, log_filled, read_missing, rests_filled}
use Rattle.xa_log.proofs.Choosing.{no_fault_log}
use Rattle.xa_log.proofs.States.{left_both, reads_both, same_left}
use Rattle.xa_model.specs.State.{State}
use Rattle.xa_model.specs.Invariants.Loggable.{IsRecoverable, is_boot}
use Rattle.xa_model.specs.Durable.{durable}
use Rattle.xa_model.specs.Logging.{applied}
use Rattle.xa_model.specs.Invariants.Backing.{Backs, settled, settled_first}
use Rattle.xa_model.proofs.AppliedAll.{finds_first}
use Rattle.xa_model.proofs.Booted.{backs_found, settles_group}
use Rattle.xa_manager.specs.Believed.Crash.{StandFor, LeavesLook}
use Rattle.xa_manager.specs.Believed.LogStands.{IsSettled, LogStandsFor, snapshot_bodies}
use Rattle.xa_manager.specs.Believed.Files.{Settles, FilesStandFor}
use Rattle.xa_manager.specs.Believed.CrashLaws.{ReadLeaves, CrashLeaves}
use Rattle.xa_manager.proofs.CrashImages.{AreFilesOf, files_of_other, files_of_none, files_of_group, files_of_seal}
use Rattle.xa_manager.proofs.Generations.{boot_of}
use Rattle.xa_manager.proofs.LogsBehind.{lost_trusted, calm_trusted}

-- ---- the fates are settled

first_settle : (rs : List Record) (s : State) (k : ℕ) → IsRecoverable s → Backs rs s → k ≤ length s.open_records → Settles (settled_first k s.open_records rs s) s
first_settle rs s k h backs few = let (t, found) = finds_first s k few in (k, t, found, backs_found rs s k t h backs found)

-- ---- neither file is missing

-- a log of these records begins with a boot's
abbrev pub IsBegun : (format : Format) (rs : List Record) → Type 0
IsBegun format rs = HasFirst format (map spelled rs)

first_fits : (format : Format) (boot : ℕ) → IsBody format (spelled (logged.Opened boot))
first_fits One boot = record { some = omega (arith, opened boot); small = omega (arith, opened boot) }
first_fits Two boot = record { some = omega (arith, opened boot); small = omega (arith, opened boot) }

by_first : (format : Format) (r : Record) (rs : List Record) (boot : ℕ) → r ≡ logged.Opened boot → IsBegun format (r ∷ rs)
by_first format r rs boot is = subst (λ (x : Record). IsBody format (spelled x)) (sym is) (first_fits format boot)

-- so do those that back a state
pub backs_begun : (format : Format) (rs : List Record) (s : State) → IsRecoverable s → Backs rs s → IsBegun format rs
backs_begun format [] s h backs = absurd (omega (arith, boot_of (durable s) backs.lasts, h.loggable.first, h.loggable.boots))
backs_begun format (r ∷ rs) s h backs = let first = begins_with_boot r rs (durable s) backs.lasts in by_first format r rs first.0 first.1

begun_more : (format : Format) (r : Record) (rs : List Record) → IsBegun format rs → IsBegun format (rs ++ r ∷ [])
begun_more format r [] is = absurd is
begun_more format r (x ∷ rs) is = is

begun_settled : (format : Format) (r : Record) (rs : List Record) (s : State) → IsBegun format rs → IsBegun format (settled rs s r)
begun_settled format (logged.Opened boot) rs s is = first_fits format boot
begun_settled format (logged.Prepared xid ts ws) rs s is = begun_more format (logged.Prepared xid ts ws) rs is
begun_settled format (logged.Committed xid ts ws) rs s is = begun_more format (logged.Committed xid ts ws) rs is
begun_settled format (logged.Completed xid direction) rs s is = begun_more format (logged.Completed xid direction) rs is
begun_settled format (logged.Decided xid direction) rs s is = begun_more format (logged.Decided xid direction) rs is
begun_settled format (logged.Forgotten xid) rs s is = begun_more format (logged.Forgotten xid) rs is
begun_settled format (logged.Base ts ws) rs s is = begun_more format (logged.Base ts ws) rs is
begun_settled format (logged.Held xid ts ws) rs s is = begun_more format (logged.Held xid ts ws) rs is
begun_settled format (logged.Known xid direction) rs s is = begun_more format (logged.Known xid direction) rs is

begun_first : (format : Format) (k : ℕ) (lost rs : List Record) (s : State) → IsBegun format rs → IsBegun format (settled_first k lost rs s)
begun_first format zero lost rs s is = is
begun_first format (suc k) [] rs s is = is
begun_first format (suc k) (r ∷ lost) rs s is = begun_first format k lost (settled rs s r) (applied r s) (begun_settled format r rs s is)

-- and what the log that stands for it has
may_find : (state : LogState) → MayFind state (bodies_in state)
may_find (Whole bodies stood) = refl
may_find (LostAppend bodies group stood) = record { many = 0; within = omega arith; is = sym (append-nil bodies) }
may_find (LostCheckpoint bodies fresh) = inl refl

some_first : {D : Type 0} (disks : Ghosts D) (log : LogView D) (s : State) → IsRecoverable s → (l : LogStandsFor disks log s) → HasFirst log.format (bodies_in l.state)
some_first disks log s h l = by (l.finds (bodies_in l.state) (may_find l.state))
  where
    by : IsSettled l.records s (bodies_in l.state) → HasFirst log.format (bodies_in l.state)
    by (k, few, is) = subst (λ (b : List (List ℕ)). HasFirst log.format b) (sym is) (begun_first log.format k s.open_records l.records s (backs_begun log.format l.records s h l.backs))

-- one file isn't empty, or the log is of the first generation in the first file
abbrev pub IsBeside : {D : Type 0} → Ghosts D → LogView D → List ℕ → Type 0
IsBeside disks log other = HasBytes other ⊎ ((log.on_first ≡ true) × (generation (bodies_of_file (disks.seen log.disk)) ≤ 1))

-- ---- files of a state

files_for : (most : ℕ) (first : Bool) (rs : List Record) (s : State) (current other : List ℕ) → AreFilesOf most first (map spelled rs) current other
    → missing_of (cond first current other) (cond first other current) ≡ Neither → Settles rs s
    → FilesStandFor most (cond first current other) (cond first other current) s
files_for most first rs s current other f there settles = record { whole = f.whole; none_missing = there; records = rs; logged = f.logged; settles = settles }

-- the records, with the first n of those that were lost
first_for : (most : ℕ) (first : Bool) (rs : List Record) (s : State) (k : ℕ) (current other : List ℕ) → IsRecoverable s → Backs rs s → k ≤ length s.open_records
    → AreFilesOf most first (map spelled (settled_first k s.open_records rs s)) current other
    → missing_of (cond first current other) (cond first other current) ≡ Neither
    → FilesStandFor most (cond first current other) (cond first other current) s
first_for most first rs s k current other h backs few f there =
    files_for most first (settled_first k s.open_records rs s) s current other f there (first_settle rs s k h backs few)

-- ---- what a crash leaves while records are appended

pub append_files : {D : Type 0} (disks : Ghosts D) (log : LogView D) (rs : List Record) (t : State) (group : List Record) (stood : List (List ℕ)) (current other : List ℕ)
    → AllByRecursion (λ (r : Record). is_boot r ≡ false) group → Pair disks (map spelled rs) stood log
    → Leaves log.log_bytes log.format (map spelled rs) (map spelled group) current
    → IsPlain log.format (map spelled rs) (map spelled group) current → disks.may_leave log.other other → IsCalm stood other
    → IsRecoverable t → Backs rs t → t.open_records ≡ group → HasOther disks log
    → FilesStandFor log.log_bytes (cond log.on_first current other) (cond log.on_first other current) t
append_files disks log rs t group stood current other others p leaves plain two calm h k is beside =
    let part = leaves.reads plain in
    let many = part.many in
    let settles : settled_first many t.open_records rs t ≡ rs ++ take many group = ap (λ (l : List Record). settled_first many l rs t) is ∙ settles_group many group rs t others in
    let spells : map spelled rs ++ take many (map spelled group) ≡ map spelled (settled_first many t.open_records rs t) =
    ap (λ (l : List (List ℕ)). map spelled rs ++ l) (take-map spelled many group) ∙ (sym (map-append spelled rs (take many group)) ∙ ap (λ (us : List Record). map spelled us) (sym settles)) in
    first_for log.log_bytes log.on_first rs t many current other h k
    (subst (λ (l : List Record). many ≤ length l) (sym is) (omega (arith, part.within, length-map group spelled)))
    (subst (λ (x : List (List ℕ)). AreFilesOf log.log_bytes log.on_first x current other) spells
    (files_of_group log.log_bytes log.on_first log.format (map spelled rs) (map spelled group) stood current other leaves.fits part
    (p.other.left_fits other two) (p.other.left_behind other two) calm p.older))
    (image_missing disks log beside current other (log_filled current (no_fault_log log.log_bytes current leaves.opens))
    (append_generation disks log (map spelled rs) (map spelled group) current (backs_begun log.format rs t h k) p.current leaves)
    (λ filled. filled.left other two))

-- ---- what a crash leaves while a snapshot is written

pub checkpoint_files : {D : Type 0} (disks : Ghosts D) (log : LogView D) (rs : List Record) (t : State) (boot : ℕ) (stood : List (List ℕ)) (current other : List ℕ)
    → Pair disks (map spelled rs) stood log → generation (map spelled rs) < generation (snapshot_bodies t boot)
    → IsRecoverable t → Backs rs t → t.open_records ≡ logged.Opened boot ∷ []
    → disks.may_leave log.disk current → LeavesAny log.log_bytes newest stood (snapshot_bodies t boot) other → IsBeside disks log other
    → (IsCalm stood other → StandFor log current other t) ⊎ StandFor log current other t ⊎ (IsCalm (snapshot_bodies t boot) other → StandFor log current other t)
checkpoint_files {D} disks log rs t boot stood current other p above h k is one leaves beside = by leaves
  where
    there : missing_of (cond log.on_first current other) (cond log.on_first other current) ≡ Neither
    there = subst (λ (c : List ℕ). missing_of (cond log.on_first c other) (cond log.on_first other c) ≡ Neither) (sym (p.current.durable current one))
        (by_order log.on_first (disks.seen log.disk) other (rests_filled log.format (map spelled rs) (disks.seen log.disk) p.current.file) beside)

    l : IsLogOf log.log_bytes (map spelled rs) current
    l = subst (λ (x : List ℕ). IsLogOf log.log_bytes (map spelled rs) x) (sym (p.current.durable current one))
        (record { format = log.format; fits = p.current.fits; rests = p.current.file; whole = p.current.whole })

    old : AreFilesOf log.log_bytes log.on_first (map spelled rs) current other → StandFor log current other t
    old f = first_for log.log_bytes log.on_first rs t 0 current other h k (omega arith) f there

    fresh : AreFilesOf log.log_bytes log.on_first (snapshot_bodies t boot) current other → StandFor log current other t
    fresh f = first_for log.log_bytes log.on_first rs t 1 current other h k (subst (λ (l : List Record). 1 ≤ length l) (sym is) (omega arith))
        (subst (λ (l : List Record). AreFilesOf log.log_bytes log.on_first (map spelled (settled_first 1 l rs t)) current other) (sym is) f) there

    by : LeavesAny log.log_bytes newest stood (snapshot_bodies t boot) other
        → (IsCalm stood other → StandFor log current other t) ⊎ StandFor log current other t ⊎ (IsCalm (snapshot_bodies t boot) other → StandFor log current other t)
    by (inl leaves) = inl (λ calm. old (files_of_other log.log_bytes log.on_first (map spelled rs) stood current other l leaves calm p.older))
    by (inr (inl none)) = inr (inl (old (files_of_none log.log_bytes log.on_first newest (map spelled rs) current other l none)))
    by (inr (inr leaves)) = inr (inr (λ calm. ⊎_elim old fresh
        (files_of_seal log.log_bytes log.on_first (map spelled rs) (snapshot_bodies t boot) current other l leaves calm above)))

-- ---- what the log stands for

-- what is found by the state that the log is in
found_files : {D : Type 0} (disks : Ghosts D) (log : LogView D) (s : State) (most : ℕ) (first second : List ℕ) → IsRecoverable s → (l : LogStandsFor disks log s)
    → (pair_fault most first second ≡ None) × MayFind l.state (logged_pair first second) → missing_of first second ≡ Neither → FilesStandFor most first second s
found_files disks log s most first second h l it there = by (l.finds (logged_pair first second) it.1)
  where
    by : IsSettled l.records s (logged_pair first second) → FilesStandFor most first second s
    by (k, few, is) = record { whole = it.0; none_missing = there; records = settled_first k s.open_records l.records s; logged = is; settles = first_settle l.records s k h l.backs few }

pub read_leaves : {D : Type 0} (disks : Ghosts D)
    → ReadLeaves disks
read_leaves disks log s t h stands =
    found_files disks log s log.log_bytes (disks.seen (first_of log)) (disks.seen (second_of log)) h stands
    (reads_both disks log stands.state stands.is_in (lost_trusted disks t stands.state) (calm_trusted disks t stands.state log))
    (read_missing disks log stands.beside (current_filled disks log stands.state stands.is_in).seen)

pub crash_leaves : {D : Type 0} (disks : Ghosts D)
    → CrashLeaves disks
crash_leaves disks log s first second h one two w =
    found_files disks log s log.log_bytes first second h w.stands ((left_both disks log w.stands.state w.stands.is_in first second one two).opens w.plain)
    (left_missing disks log w.stands.beside w.stands.state (some_first disks log s h w.stands) w.stands.is_in first second one two)

-- a look leaves of both files what the state says that the log is in
pub look_files : {D : Type 0} (disks : Ghosts D) (old new : LogView D) (s : State) → IsRecoverable s → LooksTo disks old new
    → ((d : D) (c : List ℕ) → disks.left_since d (disks.moment d) c → disks.may_leave d c)
    → ((state : LogState) → IsIn disks state old → (first second : List ℕ) → LeftByLook disks old new first second → LeavesBoth state old first second)
    → LeavesLook disks old new s
look_files disks old new s h looks only_now leaves = (
  looks,
  λ first second left w.
      found_files disks old s old.log_bytes first second h w.stands ((leaves w.stands.state w.stands.is_in first second left).opens w.plain)
      (left_missing disks old w.stands.beside w.stands.state (some_first disks old s h w.stands) w.stands.is_in first second
      (same_left disks (first_of old) (first_of new) looks.first (only_now (first_of old)) first left.first_left)
      (same_left disks (second_of old) (second_of new) looks.second (only_now (second_of old)) second left.second_left)),
)
