-- A trim: the snapshot of what lasts becomes the log, and all that is at work goes on.
use Rattle.std.proofs.Common.{◌≡◌, ◌⊎◌, inl, inr, cond, not, ◌+◌, ◌<◌, ◌≤◌, ℕ, Bool, true, false, List, [], map, length, Option, Some, None, refl, ap, sym, ◌∙◌, subst, arith}
use Rattle.std.specs.Prelude.{IsSomeAnd, nat_lt}
use Rattle.std.specs.List.{AllByRecursion}
use Rattle.std.proofs.lemmas.Bool.Decides.{nat_tests}
use Rattle.xa_codes.specs.declared.codes.TheConstants.{XAER_RMERR}
use Rattle.xa_codes.specs.declared.detail.Detail.TheVariants as detail
use Rattle.xa_disk.specs.declared.disk.Disk.{Ghosts}
use Rattle.xa_frame.specs.declared.reply.Reply.{Reply}
use Rattle.xa_record.specs.Spelling.{spelled}
use Rattle.xa_record.specs.declared.record.Record.{Record}
use Rattle.xa_record.specs.declared.record.Record.TheVariants as logged
use Rattle.xa_log.specs.Answers.{HasCause, HasRisen}
use Rattle.xa_log.specs.Believed.Chain.{IsBody, newest, text}
use Rattle.xa_log.specs.Believed.Pair.{generation}
use Rattle.xa_log.specs.declared.appending.Appended.{Appended as Told}
use Rattle.xa_log.specs.declared.appending.Appended.TheVariants as told
use Rattle.xa_log.specs.Believed.TwoFiles.{HasOther, MaySeal, Swaps, written}
use Rattle.xa_log.specs.Believed.LogView.{LogView}
use Rattle.xa_limits.specs.declared.TheConstants.{LENGTH_BYTES}
use Rattle.xa_model.specs.declared.outcome.Outcome.{Outcome}
use Rattle.xa_model.specs.declared.outcome.Outcome.TheVariants.{Quiet, Appended}
use Rattle.xa_model.specs.declared.outcome.Appending.{Appending}
use Rattle.xa_model.specs.declared.outcome.Appending.TheVariants.{Kept, Refused, Lost}
use Rattle.xa_model.specs.State.{State, Up}
use Rattle.xa_model.specs.Answer.{Answer, answer, detailed}
use Rattle.xa_model.specs.Invariants.Backing.{Backs}
use Rattle.xa_model.specs.Durable.{durable}
use Rattle.xa_model.specs.Fold.{snapshot, sizes}
use Rattle.xa_model.specs.Logging.{lost}
use Rattle.xa_model.specs.Invariants.Loggable.{IsRecoverable}
use Rattle.xa_model.specs.Restarting.{can_open}
use Rattle.xa_model.specs.Trimming.{trim_refusal, trimmed, trim_became, trim_turn}
use Rattle.xa_model.specs.Turn.{Turn, Checkpoints, taken, unless_now}
use Rattle.xa_model.proofs.Booted.{trimmed_backed, lost_backed}
use Rattle.xa_model.proofs.Restarts.{lost_in_doubt}
use Rattle.xa_model.proofs.RoomWith.{none_open}
use Rattle.xa_model.proofs.Trims.{may_trim, trimmed_recoverable}
use Rattle.xa_model.proofs.Written.{snapshot_is_written}
use Rattle.xa_assoc.specs.Refusals.{is_memory}
use Rattle.xa_manager.specs.declared.doubt.Doubt.TheVariants.{Boot}
use Rattle.xa_manager.specs.declared.manager.Manager.{Manager}
use Rattle.xa_manager.specs.Believed.Answered.{as_appended, HasCalledToTrim, NoneRises, OneRises}
use Rattle.xa_manager.specs.Believed.Crash.{LeavesBy, LeavesCurrent, LeavesWritten, checkpoints}
use Rattle.xa_manager.specs.Believed.LogStands.{HasRecords, LogBacks, LogStandsFor, Trusts, snapshot_bodies}
use Rattle.xa_manager.specs.Managed.{view, AnswersAs, ManagerStandsFor}
use Rattle.xa_manager.specs.Reserving.{HasReserved}
use Rattle.xa_manager.specs.Stands.{StandsFor, TablesStandFor}
use Rattle.xa_manager.specs.Tables.{TablesBecome}
use Rattle.xa_manager.specs.Turns.{HasTrimmed}
use Rattle.xa_manager.specs.declared.tables.Tables.{Tables}
use Rattle.xa_manager.specs.View.{view_of}
use Rattle.xa_manager.proofs.CrashBoots.{Checkpointed, snapshot_leaves}
use Rattle.xa_manager.proofs.Generations.{newer}
use Rattle.xa_manager.proofs.LogsBehind.{only_records, stands_whole, still_backed}
use Rattle.xa_manager.proofs.NextBoots.{are_bodies}
use Rattle.xa_manager.proofs.Reserved.{first_same, second_same}
use Rattle.xa_manager.proofs.Standing.{is_up, never_full, lost_stands, outside}
use Rattle.xa_manager.proofs.Stepping.{now_leaves}

-- ---- its turn

pub trim_is : (s : State) → trim_refusal s ≡ None
    → trim_turn s ≡ Checkpoints (logged.Opened (s.logged_boot + 1)) (trim_became s (s.logged_boot + 1))
trim_is s e = ap (λ (o : Option Reply). unless_now o s (Checkpoints (logged.Opened (s.logged_boot + 1)) (trim_became s (s.logged_boot + 1)))) e

pub trim_taken : (s : State) (a : Appending) → trim_refusal s ≡ None → taken (trim_turn s) (Appended a) ≡ Some (trim_became s (s.logged_boot + 1) a)
trim_taken s a e = ap (λ (t : Turn). taken t (Appended a)) (trim_is s e)

trim_refused : (s : State) (reply : Reply) → trim_refusal s ≡ Some reply → taken (trim_turn s) Quiet ≡ Some (answer reply s)
trim_refused s reply e =
    ap (λ (o : Option Reply). taken (unless_now o s (Checkpoints (logged.Opened (s.logged_boot + 1)) (trim_became s (s.logged_boot + 1)))) Quiet) e

some_is : (o : Option Answer) (a : Answer) (P : Answer → Type 0) → o ≡ Some a → P a → IsSomeAnd o P
some_is o a P e h = subst (λ (x : Option Answer). IsSomeAnd x P) (sym e) h

-- ---- what the manager stands for

module _ {D : Type 0} (disks : Ghosts D) (m : Manager D) (s : State) (st : ManagerStandsFor disks m s) (up : m.up ≡ true) where
  pub trim_up : s.standing ≡ Up
  trim_up = is_up m.up (view m) s st.tables up

  pub trim_recoverable : IsRecoverable s
  trim_recoverable = (outside m.up (view m) s st.tables).recoverable

  pub trim_settled : s.open_records ≡ []
  trim_settled = trim_recoverable.settled trim_up

  pub trim_tables : StandsFor (view m) s
  trim_tables = subst (λ (b : Bool). TablesStandFor b (view m) s) up st.tables

  -- it was refused before anything was written
  pub refused_answer : (reply : Reply) → trim_refusal s ≡ Some reply → AnswersAs disks (taken (trim_turn s) Quiet) reply m
  refused_answer reply e = some_is (taken (trim_turn s) Quiet) (answer reply s) (λ a. (a.reply ≡ reply) × ManagerStandsFor disks m a.after) (trim_refused s reply e) (refl, st)

  less_of : trim_refusal s ≡ None → s.logged_boot < 4294967295
  less_of e = omega (arith, (may_trim s e).boots)

  -- its boot began
  pub kept_stands : (m' : Manager D) (next : ℕ) → trim_refusal s ≡ None → next ≡ s.logged_boot + 1
      → TablesBecome m.tables (λ t. t.logged_boot + 1 ≡ next) (λ t. trimmed t next) m'.tables → m'.up ≡ true → m'.doubt ≡ None
      → m'.log.log_bytes ≡ m.log.log_bytes → m'.log.end ≡ 8 + sizes (snapshot (durable s) (s.logged_boot + 1)) → m'.log.lost ≡ false → m'.log.format ≡ newest
      → m'.log.generation ≡ generation (snapshot_bodies s (s.logged_boot + 1))
      → (Trusts disks → HasRecords disks (snapshot (durable s) (s.logged_boot + 1)) m'.log)
      → ManagerStandsFor disks m' (trimmed s (s.logged_boot + 1))
  kept_stands m' next e number becomes still doubt bytes end alive modern begins has =
      let recoverable = trimmed_recoverable s trim_recoverable trim_settled (less_of e) in
      let b = st.backed up in
      let backs = trimmed_backed b.records s b.backs (trim_recoverable.current trim_up) (less_of e) in
      let after = subst (λ (n : ℕ). IsRecoverable (trimmed s n) → StandsFor (view m') (trimmed s n)) number (becomes s trim_tables (sym number)) recoverable in
      record {
        tables = subst (λ (b : Bool). TablesStandFor b (view m') (trimmed s (s.logged_boot + 1))) (sym still) after;
        roomy = λ standing. record {
          room = (may_trim s e).room;
          found = none_open (trimmed s (s.logged_boot + 1)) s.open_records trim_settled;
        };
        end = λ is. end;
        alive = λ is. alive;
        modern = λ is. modern;
        log_bytes = bytes ∙ st.log_bytes;
        doubt = rw doubt trim_settled;
        backed = λ is. record { records = snapshot (durable s) (s.logged_boot + 1); backs = backs; number = begins };
        log = λ trusts. stands_whole disks m'.log (trimmed s (s.logged_boot + 1)) (snapshot (durable s) (s.logged_boot + 1)) backs (has trusts);
      }

  -- it was refused by the device
  pub refused_stands : (m' : Manager D) → m'.tables ≡ m.tables → m'.up ≡ true → m'.doubt ≡ None
      → m'.log.log_bytes ≡ m.log.log_bytes → m'.log.end ≡ m.log.end → m'.log.lost ≡ m.log.lost → m'.log.format ≡ m.log.format
      → m'.log.generation ≡ m.log.generation → (Trusts disks → (rs : List Record) × Backs rs s × HasRecords disks rs m'.log) → ManagerStandsFor disks m' s
  refused_stands m' tables still doubt bytes end alive modern number has = record {
    tables = subst (λ (b : Bool). TablesStandFor b (view m') s) (sym still) (subst (λ (t : Tables). StandsFor (view_of t) s) (sym tables) trim_tables);
    roomy = st.roomy;
    end = λ is. end ∙ st.end up;
    alive = λ is. alive ∙ st.alive up;
    modern = λ is. modern ∙ st.modern up;
    log_bytes = bytes ∙ st.log_bytes;
    doubt = rw doubt trim_settled;
    backed = λ is. still_backed m.log m'.log s number (st.backed up);
    log = λ trusts. let it = has trusts in stands_whole disks m'.log s it.0 it.1 it.2;
  }

  backs_settled : (rs : List Record) → Backs rs s → Backs rs (record s { open_records = [] })
  backs_settled rs k = record { records = k.records; lasts = k.lasts; end = k.end; new = λ same. record { given = (k.new same).given; unused = (k.new same).unused } }

  -- it was lost
  pub sealed_stands : (m' : Manager D) (next : ℕ) → trim_refusal s ≡ None → next ≡ s.logged_boot + 1
      → m'.tables ≡ m.tables → m'.up ≡ false → m'.doubt ≡ Some (Boot next) → m'.log.log_bytes ≡ m.log.log_bytes
      → (Trusts disks → (rs : List Record) × Backs rs s × MaySeal disks (map spelled rs) (snapshot_bodies s (s.logged_boot + 1)) m'.log × HasOther disks m'.log)
      → ManagerStandsFor disks m' (lost s (logged.Opened (s.logged_boot + 1))).after
  sealed_stands m' next e number tables stopped doubt bytes seal =
      let b = st.backed up in
      lost_stands disks m m' s (record s { open_records = [] }) 0 b.records tables stopped (doubt ∙ ap (λ (n : ℕ). Some (Boot n)) number) bytes st refl
      (backs_settled b.records b.backs) (less_of e) (λ trusts. let it = seal trusts in (it.0, backs_settled it.0 it.1, it.2, it.3))

  -- under the premises the log has some records
  pub records_here : Trusts disks → (l : LogStandsFor disks m.log s) × HasRecords disks l.records m.log
  records_here trusts = let l = st.log trusts in (l, only_records disks m.log s trim_settled l)

  -- the log has room for the snapshot, as it always has: where it was refused, that was by a failure
  pub is_refused : (fresh : List (List ℕ)) (r : Told) → fresh ≡ snapshot_bodies s (s.logged_boot + 1) → (r ≡ told.Full → m.log.log_bytes < length (text newest fresh) + LENGTH_BYTES)
      → (r ≡ told.Refused) ⊎ (r ≡ told.Full) → r ≡ told.Refused
  is_refused fresh r same full (inl is) = is
  is_refused fresh r same full (inr is) =
      let b = st.backed up in absurd (never_full disks m s (record s { open_records = [] }) 0 b.records st refl (backs_settled b.records b.backs) fresh same (full is))

-- ---- what a crash leaves

-- of a log whose buffer may have grown before the snapshot was written
current_same : {D : Type 0} (disks : Ghosts D) (old mid new : LogView D) (a : Appending) → HasReserved disks old mid → LeavesCurrent a mid new → LeavesCurrent a old new
current_same disks old mid new Kept r x = (x.0 ∙ r.files.0, x.1 ∙ ap not r.fields.on_first)
current_same disks old mid new Refused r x = (x.0 ∙ r.files.0, x.1 ∙ r.fields.on_first)
current_same disks old mid new Lost r x = (x.0 ∙ r.files.0, x.1 ∙ r.fields.on_first)

pub trim_leaves : {D : Type 0} (disks : Ghosts D) (m : Manager D) (log new : LogView D) (s : State) (rs : List Record) (a : Appending) (o : Outcome)
    → ManagerStandsFor disks m s → m.up ≡ true → HasReserved disks log m.log → trim_refusal s ≡ None → Backs rs s → (has : HasRecords disks rs log) → o ≡ Appended a
    → Checkpointed disks m.log new a has.0 (snapshot_bodies s (s.logged_boot + 1)) → LeavesBy disks log (trim_turn s) o new s
trim_leaves disks m log new s rs a o st up r e backs has told left =
    let boot : ℕ = s.logged_boot + 1 in
    let after : State = (lost s (logged.Opened boot)).after in
    let less : s.logged_boot < 4294967295 = omega (arith, (may_trim s e).boots) in
    subst (λ (x : Outcome). LeavesBy disks log (trim_turn s) x new s) (sym told)
    (subst (λ (x : Option Answer). IsSomeAnd x (λ l. LeavesWritten disks (checkpoints (trim_turn s)) log a new s l.after)) (sym (trim_taken s Lost e))
    (subst (λ (b : Bool). LeavesWritten disks b log a new s after) (sym (ap checkpoints (trim_is s e)))
    (snapshot_leaves disks log new after boot rs a (lost_in_doubt s (trim_recoverable disks m s st up) less).recoverable refl (lost_backed rs s (logged.Opened boot) backs) has
    (newer rs (durable s) backs.lasts less) (left.log_bytes ∙ r.fields.log_bytes) (current_same disks log m.log new a r left.current)
    (rw (← r.fields.log_bytes, ← r.files.1) left.other) (rw (← r.files.1) left.filled))))

-- ---- a refusal before the device was called

pub refused_trim : {D : Type 0} (disks : Ghosts D) (m : Manager D) (reply : Reply) → m.up ≡ true → is_memory reply.detail ≡ false
    → ((s : State) → ManagerStandsFor disks m s → trim_refusal s ≡ Some reply) → HasTrimmed disks m reply Quiet m
refused_trim disks m reply up served refuses = record {
  turn = λ s st. refused_answer disks m s st up reply (refuses s st);
  leaves = λ s st trusts. (refl, now_leaves disks m s st);
  called = λ s st. refl;
  served = served;
}

-- ---- what the device did

-- of the file that isn't the current one
rises_by : {D : Type 0} (failures : D → ℕ) (b c : Bool) (x y v w : D) → c ≡ b → v ≡ x → HasRisen (failures y) (failures w)
    → (HasRisen (failures (cond b x y)) (failures (cond c v w)) × (failures (cond c w v) ≡ failures (cond b y x)))
    ⊎ ((failures (cond c v w) ≡ failures (cond b x y)) × HasRisen (failures (cond b y x)) (failures (cond c w v)))
rises_by failures true true x y v w e same h = inr (ap failures same, h)
rises_by failures false false x y v w e same h = inl (h, ap failures same)
rises_by failures true false x y v w e same h = absurd (cc e)
rises_by failures false true x y v w e same h = absurd (cc e)

other_rises : {D : Type 0} (failures : D → ℕ) (old new : LogView D) → new.on_first ≡ old.on_first → new.disk ≡ old.disk
    → HasRisen (failures old.other) (failures new.other) → OneRises failures old new
other_rises failures old new first same h = rises_by failures old.on_first new.on_first old.disk old.other new.disk new.other first same h

-- the current file is the other one, and no call of either failed
swapped_by : {D : Type 0} (failures : D → ℕ) (b c : Bool) (x y v w : D) → c ≡ not b → w ≡ x → failures v ≡ failures y
    → (failures (cond c v w) ≡ failures (cond b x y)) × (failures (cond c w v) ≡ failures (cond b y x))
swapped_by failures true false x y v w e same h = (ap failures same, h)
swapped_by failures false true x y v w e same h = (h, ap failures same)
swapped_by failures true true x y v w e same h = absurd (cc e)
swapped_by failures false false x y v w e same h = absurd (cc e)

none_rises_swapped : {D : Type 0} (failures : D → ℕ) (old new : LogView D) → new.on_first ≡ not old.on_first → new.other ≡ old.disk
    → failures new.disk ≡ failures old.other → NoneRises failures old new
none_rises_swapped failures old new first same h = swapped_by failures old.on_first new.on_first old.disk old.other new.disk new.other first same h

one_same : (a b x y v w : ℕ) → a ≡ x → b ≡ y → (HasRisen a v × (w ≡ b)) ⊎ ((v ≡ a) × HasRisen b w) → (HasRisen x v × (w ≡ y)) ⊎ ((v ≡ x) × HasRisen y w)
one_same a b x y v w e f (inl (risen, same)) = inl (subst (λ (n : ℕ). HasRisen n v) e risen, same ∙ f)
one_same a b x y v w e f (inr (same, risen)) = inr (same ∙ e, subst (λ (n : ℕ). HasRisen n w) f risen)

called_same : {D : Type 0} (disks : Ghosts D) (old mid new : LogView D) (a : Appending) → HasReserved disks old mid
    → HasCalledToTrim disks (Appended a) mid new → HasCalledToTrim disks (Appended a) old new
called_same disks old mid new Kept r h = (h.0 ∙ ap disks.failures (first_same disks old mid r), h.1 ∙ ap disks.failures (second_same disks old mid r))
called_same disks old mid new Refused r h = one_same _ _ _ _ _ _ (ap disks.failures (first_same disks old mid r)) (ap disks.failures (second_same disks old mid r)) h
called_same disks old mid new Lost r h = one_same _ _ _ _ _ _ (ap disks.failures (first_same disks old mid r)) (ap disks.failures (second_same disks old mid r)) h

-- of a log whose buffer alone was another
pub trim_called : {D : Type 0} (disks : Ghosts D) (log old new : LogView D) (fresh : List (List ℕ)) (r : Told) (a : Appending) (o : Outcome) → r ≡ as_appended a → o ≡ Appended a → HasReserved disks log old
    → Swaps r fresh old new → HasCause r (disks.failures old.other) (disks.failures (written r new)) → HasCalledToTrim disks o log new
trim_called disks log old new fresh r a o is told reserved swaps cause =
    subst (λ (x : Outcome). HasCalledToTrim disks x log new) (sym told)
    (called_same disks log old new a reserved
    (by a (subst (λ (x : Told). Swaps x fresh old new) is swaps) (subst (λ (x : Told). HasCause x (disks.failures old.other) (disks.failures (written x new))) is cause)))
  where
    by : (a : Appending) → Swaps (as_appended a) fresh old new → HasCause (as_appended a) (disks.failures old.other) (disks.failures (written (as_appended a) new)) → HasCalledToTrim disks (Appended a) old new
    by Kept x y = none_rises_swapped disks.failures old new x.1 x.0 y
    by Refused x y = other_rises disks.failures old new x.1 x.0 y
    by Lost x y = other_rises disks.failures old new x.1 x.0 y

-- ---- the snapshot is one that the other file takes

pub record IsTaken {D : Type 0} (log : LogView D) (fresh : List (List ℕ)) : Type 0 where
  pub some : 1 ≤ length fresh
  pub sizes : AllByRecursion (IsBody newest) fresh
  pub above : log.generation < generation fresh

pub snapshot_taken : {D : Type 0} (log : LogView D) (s : State) → LogBacks log s → s.logged_boot < 4294967295
    → IsTaken log (snapshot_bodies s (s.logged_boot + 1))
snapshot_taken log s b less = record {
  some = omega arith;
  sizes = are_bodies (snapshot (durable s) (s.logged_boot + 1)) (snapshot_is_written b.records (durable s) (s.logged_boot + 1) b.backs.records b.backs.lasts (omega arith) (omega (arith, less)));
  above = omega (arith, newer b.records (durable s) b.backs.lasts less, b.number);
}

-- ---- what is refused

pub limit_refusal : (s : State) → 2147483648 ≤ s.logged_boot → trim_refusal s ≡ Some (detailed XAER_RMERR detail.Limit)
limit_refusal s h = let used : nat_lt s.logged_boot 2147483648 ≡ false = grind (arith, nat_tests, h) in rw used refl

pub full_refusal : (s : State) → s.logged_boot < 2147483648 → can_open s s.log_bytes (s.logged_boot + 1) ≡ false
    → trim_refusal s ≡ Some (detailed XAER_RMERR detail.LogFull)
full_refusal s h full = let less : nat_lt s.logged_boot 2147483648 ≡ true = grind (arith, nat_tests, h) in rw (less, full) refl

pub no_refusal : (s : State) → s.logged_boot < 2147483648 → can_open s s.log_bytes (s.logged_boot + 1) ≡ true → trim_refusal s ≡ None
no_refusal s h room = let less : nat_lt s.logged_boot 2147483648 ≡ true = grind (arith, nat_tests, h) in rw (less, room) refl
