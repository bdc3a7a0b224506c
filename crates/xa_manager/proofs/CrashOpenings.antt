-- What a crash leaves at any moment of an opening.
use Rattle.std.proofs.Common.{◌≡◌, ◌≢◌, inl, inr, ◌+◌, ◌<◌, ℕ, Bool, true, false, ◌&&◌, ◌||◌, cond, List, [], ◌∷◌, Option, Some, None, map, refl, ap, sym, ◌∙◌, subst}
use Rattle.std.specs.Prelude.{Result, Ok, Err, IfOk, IfErr, IsSomeAnd, nat_lt, option_map, option_and_then}
use Rattle.xa_disk.specs.Disk.{Only}
use Rattle.xa_disk.specs.Time.{LeavesOnly}
use Rattle.xa_disk.specs.declared.disk.Disk.{Ghosts}
use Rattle.xa_record.specs.Spelling.{spelled}
use Rattle.xa_record.specs.declared.record.Record.TheVariants as logged_as
use Rattle.xa_log.proofs.States.{same_left}
use Rattle.xa_log.specs.Believed.Chain.{newest, logged}
use Rattle.xa_log.specs.Believed.Checkpoint.{HasBytes, LeavesAny, NeverEmpty}
use Rattle.xa_log.specs.Believed.Pair.{pair_fault}
use Rattle.xa_log.specs.Believed.TwoFiles.{Pair, NoStray, first_of, second_of, written}
use Rattle.xa_log.specs.declared.appending.Appended.{Appended}
use Rattle.xa_log.specs.declared.appending.Appended.TheVariants as appended
use Rattle.xa_log.specs.declared.fault.OpenFault.TheVariants.{TooLong, NotALog}
use Rattle.xa_log.specs.Believed.LogView.{LogView}
use Rattle.xa_log.specs.Believed.Unfit.{missing_of}
use Rattle.xa_log.specs.declared.unfit.Unfit.TheVariants.{Neither}
use Rattle.xa_log.proofs.Beside.{other_found}
use Rattle.xa_log.proofs.Opens.{opened_law}
use Rattle.xa_limits.specs.declared.TheConstants.{MOST_BOOTS}
use Rattle.xa_model.specs.declared.outcome.Appending.{Appending}
use Rattle.xa_model.specs.declared.outcome.Appending.TheVariants.{Kept, Refused, Lost}
use Rattle.xa_model.specs.declared.outcome.Outcome.TheVariants.{Reread}
use Rattle.xa_model.specs.Answer.{Answer, ok}
use Rattle.xa_model.specs.Durable.{Durable, durable}
use Rattle.xa_model.specs.Fold.{snapshot}
use Rattle.xa_model.specs.Invariants.Loggable.{IsRecoverable}
use Rattle.xa_model.specs.Restarting.{refused_opening, reopen_became, reopening, reopen_turn, can_open}
use Rattle.xa_model.specs.State.{State, Ended}
use Rattle.xa_model.specs.Turn.{Reopened, Opens, Stops, going_on, taken}
use Rattle.xa_model.proofs.Booted.{same_backed}
use Rattle.xa_model.proofs.Recoveries.{keeps_recoverable}
use Rattle.xa_model.proofs.Rooms.{prepared_lasting, decided_lasting}
use Rattle.xa_manager.specs.declared.fault.ManagerFault.{ManagerFault}
use Rattle.xa_manager.specs.declared.fault.ManagerFault.TheVariants as fault
use Rattle.xa_manager.specs.declared.manager.Manager.{Manager}
use Rattle.xa_manager.specs.declared.refused.RefusedOpening.{RefusedOpening}
use Rattle.xa_manager.specs.Believed.Crash.{LeavesCurrent, LeavesCheckpoint, wrote}
use Rattle.xa_manager.specs.Believed.CrashOpening.{LooksOver, LeavesReopening, LeavesUnopened, CrashesOpening}
use Rattle.xa_manager.specs.Believed.Files.{FilesStandFor}
use Rattle.xa_manager.specs.Believed.LogStands.{Trusts, HasRecords}
use Rattle.xa_manager.specs.Believed.Opening.{IsFound, has_boot_room}
use Rattle.xa_manager.specs.Believed.Refused.{LeavesFinding, KeepsCurrent, SnapshotsFirst, LogsFirst, LeavesLogging, LeavesRefused}
use Rattle.xa_manager.specs.Rereading.{IsFate}
use Rattle.xa_manager.proofs.CrashBoots.{snapshot_leaves}
use Rattle.xa_manager.proofs.Generations.{newer, rebuilt_is}
use Rattle.xa_manager.proofs.OpenedStates.{below_limit, both_hold}

-- ---- in the model's words

reopen_taken : (k : ℕ) (s t : State) (name : List ℕ) (log_bytes : ℕ) (o : Option Appending) → IsFate k s t
    → taken (reopen_turn s name log_bytes) (Reread k o) ≡ going_on o (reopening name log_bytes t)
reopen_taken k s t name log_bytes o fate = ap (λ (u : Option State). option_and_then (going_on o) (option_map (reopening name log_bytes) u)) fate

opens_by : (t : State) (name : List ℕ) (log_bytes : ℕ) (a : Appending) (c : Bool) → c ≡ true
    → going_on (Some a) (cond c (Opens (logged_as.Opened (t.logged_boot + 1)) (reopen_became t name log_bytes (t.logged_boot + 1))) (Stops (ok (refused_opening t name log_bytes))))
    ≡ Some (reopen_became t name log_bytes (t.logged_boot + 1) a)
opens_by t name log_bytes a true e = refl
opens_by t name log_bytes a false e = absurd (cc e)

-- what a device's answer is in the model's words, where the records have room
abbrev became : Appended → Appending
became appended.Kept = Kept
became appended.Refused = Refused
became appended.Lost = Lost
became appended.Full = Refused

-- ---- the look

empty_by : (c : Bool) → cond c (Some TooLong) (Some NotALog) ≡ None → ⊥
empty_by true e = absurd (cc e)
empty_by false e = absurd (cc e)

-- two empty files have no log
never_empty : (most : ℕ) (a b : List ℕ) → pair_fault most a b ≡ None → a ≡ [] → b ≡ [] → ⊥
never_empty most a b whole ea eb =
    empty_by (nat_lt most 0 || nat_lt most 0)
    (subst (λ (y : List ℕ). pair_fault most [] y ≡ None) eb (subst (λ (x : List ℕ). pair_fault most x b ≡ None) ea whole))

module _ {D : Type 0} (disks : Ghosts D) (only_now : (d : D) (c : List ℕ) → disks.left_since d (disks.moment d) c → disks.may_leave d c) where
  looks_over : (log_bytes : ℕ) (first first' second second' : D) (s : State) → pair_fault log_bytes (disks.seen first) (disks.seen second) ≡ None
      → LeavesFinding disks first first' second second' → LooksOver disks log_bytes first first' second second' s
  looks_over log_bytes first first' second second' s whole (inr made) =
      absurd (never_empty log_bytes (disks.seen first) (disks.seen second) whole made.empty made.empty_second)
  looks_over log_bytes first first' second second' s whole (inl (one, two)) =
      let left : (a b : List ℕ) → disks.left_since first' (disks.moment first) a → disks.left_since second' (disks.moment second) b → disks.may_leave first a × disks.may_leave second b =
      λ a b p q. (same_left disks first first' one.time (only_now first) a p, same_left disks second second' two.time (only_now second) b q) in
      record {
        first_is = one;
        second_is = two;
        left = left;
        stands = λ before a b p q. before a b (left a b p q).0 (left a b p q).1;
      }

  -- ---- the checkpoint

  became_kept : (a : Appended) → a ≢ appended.Kept → became a ≢ Kept
  became_kept appended.Kept h = absurd (h refl)
  became_kept appended.Refused h = λ e. absurd (cc e)
  became_kept appended.Lost h = λ e. absurd (cc e)
  became_kept appended.Full h = λ e. absurd (cc e)

  same_written : (a : Appended) (new : LogView D) → written a new ≡ wrote (became a) new
  same_written appended.Kept new = refl
  same_written appended.Refused new = refl
  same_written appended.Lost new = refl
  same_written appended.Full new = refl

  same_current : (a : Appended) (old new : LogView D) → KeepsCurrent a old new → LeavesCurrent (became a) old new
  same_current appended.Kept old new k = k
  same_current appended.Refused old new k = k
  same_current appended.Lost old new k = k
  same_current appended.Full old new k = k

  -- the first records are a snapshot, since the log wasn't made
  read_snapshot : (is_new : Bool) (a : Appended) (fresh : List (List ℕ)) (old new : LogView D) → (is_new ≡ true → ⊥) → LogsFirst disks is_new a fresh old new → SnapshotsFirst disks a fresh old new
  read_snapshot is_new a fresh old new not_new (inl x) = absurd (not_new x.0)
  read_snapshot is_new a fresh old new not_new (inr x) = x

  -- each crash leaves of the other file what was read
  read_durable : (is_new : Bool) (bodies : List (List ℕ)) (log : LogView D) → (is_new ≡ true → ⊥) → IsFound disks is_new bodies log → Only (disks.seen log.other) (disks.may_leave log.other)
  read_durable true bodies log not_new found = absurd (not_new refl)
  read_durable false bodies log not_new found = found.durable

  read_pair : (is_new : Bool) (bodies : List (List ℕ)) (log : LogView D) → (is_new ≡ true → ⊥) → NoStray (disks.seen (first_of log)) (disks.seen (second_of log))
      → IsFound disks is_new bodies log → Pair disks bodies (logged (disks.seen log.other)) log
  read_pair true bodies log not_new stray found = absurd (not_new refl)
  read_pair false bodies log not_new stray found = opened_law disks bodies log found stray

  reopening_leaves : (first second : D) (s : State) (name : List ℕ) (log_bytes : ℕ) (a : Appended) (after : LogView D)
      → Trusts disks → IsRecoverable s → FilesStandFor log_bytes (disks.seen first) (disks.seen second) s → NoStray (disks.seen first) (disks.seen second)
      → LeavesLogging disks log_bytes first second a after → LeavesReopening disks first second s name log_bytes (became a) after
  reopening_leaves first second s name log_bytes a after trusts h files stray l =
      let look = looks_over log_bytes first (first_of l.log) second (second_of l.log) s files.whole (l.finding trusts.disk) in
      let (many, t, fate, backs) = files.settles in
      let not_new : l.is_new ≡ true → ⊥ = λ new. never_empty log_bytes (disks.seen first) (disks.seen second) files.whole (l.made trusts.disk new).0 (l.made trusts.disk new).1 in
      let spells : l.bodies ≡ map spelled files.records = sym (l.read trusts.disk) ∙ files.logged in
      let d_is : l.logs.durable ≡ durable t =
      rebuilt_is l.bodies files.records l.logs.durable (durable t) (l.logs.comes.records, l.logs.comes.bodies_are, l.logs.comes.folded) spells backs.records backs.lasts in
      let less : t.logged_boot < MOST_BOOTS = subst (λ (x : Durable). x.boot < MOST_BOOTS) d_is l.logs.boots in
      let room : has_boot_room log_bytes (durable t) (t.logged_boot + 1) ≡ true = subst (λ (x : Durable). has_boot_room log_bytes x (x.boot + 1) ≡ true) d_is l.logs.room in
      let opens : can_open t log_bytes (t.logged_boot + 1) ≡ true = rw (← prepared_lasting t, ← decided_lasting t) room in
      let both : nat_lt t.logged_boot MOST_BOOTS && can_open t log_bytes (t.logged_boot + 1) ≡ true = both_hold _ _ (below_limit t.logged_boot less) opens in
      let is = reopen_taken many s t name log_bytes (Some Lost) fate ∙ opens_by t name log_bytes Lost _ both in
      let lost = (reopen_became t name log_bytes (t.logged_boot + 1) Lost).after in
      let no_stray : NoStray (disks.seen (first_of l.log)) (disks.seen (second_of l.log)) =
      subst (λ (y : List ℕ). NoStray (disks.seen (first_of l.log)) y) (sym look.second_is.seen) (subst (λ (x : List ℕ). NoStray x (disks.seen second)) (sym look.first_is.seen) stray) in
      let pair = read_pair l.is_new l.bodies l.log not_new no_stray (l.found trusts.disk) in
      let there : missing_of (disks.seen (first_of l.log)) (disks.seen (second_of l.log)) ≡ Neither =
      subst (λ (y : List ℕ). missing_of (disks.seen (first_of l.log)) y ≡ Neither) (sym look.second_is.seen) (subst (λ (x : List ℕ). missing_of x (disks.seen second) ≡ Neither) (sym look.first_is.seen) files.none_missing) in
      let has : HasRecords disks files.records l.log = (
        logged (disks.seen l.log.other),
        subst (λ (x : List (List ℕ)). Pair disks x (logged (disks.seen l.log.other)) l.log) spells pair,
        other_found disks l.bodies l.log pair.current (read_durable l.is_new l.bodies l.log not_new (l.found trusts.disk)) there,
      ) in
      let snap = read_snapshot l.is_new a (map spelled (snapshot l.logs.durable (l.logs.durable.boot + 1))) l.log after not_new l.logs.logs in
      let left : LeavesOnly disks l.log.other (wrote (became a) after) (LeavesAny l.log.log_bytes newest (logged (disks.seen l.log.other)) (map spelled (snapshot (durable t) (t.logged_boot + 1)))) =
      subst (λ (x : Durable). LeavesOnly disks l.log.other (wrote (became a) after) (LeavesAny l.log.log_bytes newest (logged (disks.seen l.log.other)) (map spelled (snapshot x (x.boot + 1))))) d_is
      (subst (λ (x : D). LeavesOnly disks l.log.other x (LeavesAny l.log.log_bytes newest (logged (disks.seen l.log.other)) (map spelled (snapshot l.logs.durable (l.logs.durable.boot + 1))))) (same_written a after)
      (snap.left trusts.disk l.bodies (logged (disks.seen l.log.other)) pair).1) in
      record {
        log = l.log;
        survived = many;
        look = look;
        boot = subst (λ (o : Option Answer). IsSomeAnd o (λ x. LeavesCheckpoint disks l.log (became a) after x.after)) (sym is)
            (snapshot_leaves disks l.log after lost (t.logged_boot + 1) files.records (became a)
            (keeps_recoverable s (Reopened name log_bytes) (Reread many (Some Lost)) (reopen_became t name log_bytes (t.logged_boot + 1) Lost) tt h is)
            refl (same_backed files.records t name log_bytes [] [] Ended (logged_as.Opened (t.logged_boot + 1) ∷ []) t.moment backs) has
            (newer files.records (durable t) backs.lasts less) snap.log_bytes (same_current a l.log after snap.current) left
            (subst (λ (x : D). NeverEmpty disks l.log.other → LeavesOnly disks l.log.other x HasBytes) (same_written a after) (snap.filled trusts.disk)));
      }

  -- ---- the opening

  unopened : (first second : D) (s : State) (name : List ℕ) (log_bytes : ℕ) (e : ManagerFault) (first' second' : D)
      → Trusts disks → IsRecoverable s → FilesStandFor log_bytes (disks.seen first) (disks.seen second) s → NoStray (disks.seen first) (disks.seen second)
      → LeavesRefused disks e log_bytes first first' second second' → LeavesUnopened disks first second s name log_bytes e first' second'
  unopened first second s name log_bytes fault.Setting first' second' trusts h files stray left = left
  unopened first second s name log_bytes fault.Device first' second' trusts h files stray (a, after, kept, l, one, two) =
      (became a, after, became_kept a kept, reopening_leaves first second s name log_bytes a after trusts h files stray l, one, two)
  unopened first second s name log_bytes (fault.Log e) first' second' trusts h files stray left = looks_over log_bytes first first' second second' s files.whole (left trusts.disk)
  unopened first second s name log_bytes fault.MissingFirst first' second' trusts h files stray left = looks_over log_bytes first first' second second' s files.whole (left trusts.disk)
  unopened first second s name log_bytes fault.MissingSecond first' second' trusts h files stray left = looks_over log_bytes first first' second second' s files.whole (left trusts.disk)
  unopened first second s name log_bytes (fault.Malformed i) first' second' trusts h files stray left = looks_over log_bytes first first' second second' s files.whole (left trusts.disk)
  unopened first second s name log_bytes (fault.Order i) first' second' trusts h files stray left = looks_over log_bytes first first' second second' s files.whole (left trusts.disk)
  unopened first second s name log_bytes fault.Boots first' second' trusts h files stray left = looks_over log_bytes first first' second second' s files.whole (left trusts.disk)
  unopened first second s name log_bytes fault.LogFull first' second' trusts h files stray left = looks_over log_bytes first first' second second' s files.whole (left trusts.disk)
  unopened first second s name log_bytes fault.Memory first' second' trusts h files stray left = looks_over log_bytes first first' second second' s files.whole (left trusts.disk)

  pub crash_opening : (first second : D) (name : List ℕ) (log_bytes : ℕ) (r : Result (Manager D) (RefusedOpening D))
      → IfOk r (λ m. LeavesLogging disks log_bytes first second appended.Kept m.log)
      → IfErr r (λ x. LeavesRefused disks x.fault log_bytes first x.first second x.second)
      → CrashesOpening disks first second name log_bytes r
  crash_opening first second name log_bytes (Ok m) logs left = λ s trusts h files stray. reopening_leaves first second s name log_bytes appended.Kept m.log trusts h files stray logs
  crash_opening first second name log_bytes (Err x) logs left = λ s trusts h files stray. unopened first second s name log_bytes x.fault x.first x.second trusts h files stray left
