-- What an opening that was refused tells, and what it leaves.
use Rattle.std.proofs.Common.{◌≡◌, ◌⊎◌, inl, inr, ℕ, Bool, true, false, ◌&&◌, List, [], refl, sym, ◌∙◌, subst, cond, nat_lt}
use Rattle.std.specs.Prelude.{Result, Ok, Err, IfOk, IfErr, IsErrAnd, None}
use Rattle.xa_disk.specs.declared.disk.Disk.{Ghosts}
use Rattle.xa_log.specs.Believed.Pair.{has_log, pair_fault, logged_pair}
use Rattle.xa_log.specs.Believed.TwoFiles.{first_of, second_of}
use Rattle.xa_log.specs.declared.appending.Appended.{Appended}
use Rattle.xa_log.specs.declared.appending.Appended.TheVariants.{Kept}
use Rattle.xa_log.specs.Believed.LogView.{LogView}
use Rattle.xa_log.specs.Believed.Unfit.{generation_in, is_empty, missing_of}
use Rattle.xa_log.specs.Opened.{WasFound}
use Rattle.xa_log.specs.declared.opened.Opened.{Opened}
use Rattle.xa_log.specs.declared.unfit.Unfit.{Unfit}
use Rattle.xa_log.specs.declared.unfit.Unfit.TheVariants as unfit
use Rattle.xa_manager.specs.declared.fault.ManagerFault.{ManagerFault}
use Rattle.xa_manager.specs.declared.fault.ManagerFault.TheVariants as fault
use Rattle.xa_manager.specs.declared.manager.Manager.{Manager}
use Rattle.xa_manager.specs.declared.refused.RefusedOpening.{RefusedOpening}
use Rattle.xa_manager.specs.Believed.Opening.{IsFound, BootRefused, Misses, OpenRefused}
use Rattle.xa_manager.specs.Believed.Refused.{LeavesFinding, LogsBoot, LeavesBegin, LeavesLogging, LeavesRefused}

-- ---- what it tells

refused_for : (e : ManagerFault) (bodies : List (List ℕ)) (name : List ℕ) (log_bytes : ℕ) (a b : List ℕ) → BootRefused e bodies log_bytes
    → ((a ≡ []) × (b ≡ [])) ⊎ (pair_fault log_bytes a b ≡ None) → logged_pair a b ≡ bodies → OpenRefused e name log_bytes a b
refused_for (fault.Log e) bodies name log_bytes a b h whole same = absurd h
refused_for fault.MissingFirst bodies name log_bytes a b h whole same = absurd h
refused_for fault.MissingSecond bodies name log_bytes a b h whole same = absurd h
refused_for (fault.Malformed i) bodies name log_bytes a b h whole same = (whole, rw same h)
refused_for (fault.Order i) bodies name log_bytes a b h whole same = (whole, rw same h)
refused_for fault.Boots bodies name log_bytes a b h whole same = (whole, rw same h)
refused_for fault.LogFull bodies name log_bytes a b h whole same = (whole, rw same h)
refused_for fault.Device bodies name log_bytes a b h whole same = (whole, tt)
refused_for fault.Memory bodies name log_bytes a b h whole same = (whole, tt)
refused_for fault.Setting bodies name log_bytes a b h whole same = absurd h

pub refused_by : {D M : Type 0} (r : Result M (RefusedOpening D)) (bodies : List (List ℕ)) (name : List ℕ) (log_bytes : ℕ) (a b : List ℕ)
    → IfErr r (λ x. BootRefused x.fault bodies log_bytes)
    → ((a ≡ []) × (b ≡ [])) ⊎ (pair_fault log_bytes a b ≡ None) → logged_pair a b ≡ bodies → IfErr r (λ x. OpenRefused x.fault name log_bytes a b)
refused_by (Ok m) bodies name log_bytes a b h whole same = tt
refused_by (Err x) bodies name log_bytes a b h whole same = refused_for x.fault bodies name log_bytes a b h whole same

-- no boot tells a bad setting
pub never_setting : {D M : Type 0} (r : Result M (RefusedOpening D)) (bodies : List (List ℕ)) (log_bytes : ℕ)
    → IfErr r (λ x. BootRefused x.fault bodies log_bytes) → IsErrAnd r (λ x. x.fault ≡ fault.Setting) → ⊥
never_setting (Ok m) bodies log_bytes h is = is
never_setting (Err x) bodies log_bytes h is = subst (λ e. BootRefused e bodies log_bytes) is h

-- ---- which file is missing

none_stray : (p q : Bool) (u : Unfit) → u ≡ cond p unfit.MissingFirst (cond q unfit.MissingSecond unfit.Neither) → (u ≡ unfit.Neither) ⊎ (u ≡ unfit.StrayFirst) ⊎ (u ≡ unfit.StraySecond)
    → cond p unfit.MissingFirst (cond q unfit.MissingSecond unfit.Neither) ≡ unfit.Neither
none_stray p q u is (inl neither) = sym is ∙ neither
none_stray true q u is (inr (inl stray)) = absurd (cc (is, stray))
none_stray false true u is (inr (inl stray)) = absurd (cc (is, stray))
none_stray false false u is (inr (inl stray)) = refl
none_stray true q u is (inr (inr stray)) = absurd (cc (is, stray))
none_stray false true u is (inr (inr stray)) = absurd (cc (is, stray))
none_stray false false u is (inr (inr stray)) = refl

pub none_missing : (a b : List ℕ) (u : Unfit) → u ≡ missing_of a b → (u ≡ unfit.Neither) ⊎ (u ≡ unfit.StrayFirst) ⊎ (u ≡ unfit.StraySecond) → missing_of a b ≡ unfit.Neither
none_missing a b u is left = none_stray (is_empty a && has_log b) (is_empty b && nat_lt 1 (generation_in a)) u is left

told_missing : (e : ManagerFault) (name : List ℕ) (log_bytes : ℕ) (a b : List ℕ) → pair_fault log_bytes a b ≡ None → Misses e a b → OpenRefused e name log_bytes a b
told_missing (fault.Log e) name log_bytes a b whole gone = absurd gone
told_missing fault.MissingFirst name log_bytes a b whole gone = (whole, gone)
told_missing fault.MissingSecond name log_bytes a b whole gone = (whole, gone)
told_missing (fault.Malformed i) name log_bytes a b whole gone = absurd gone
told_missing (fault.Order i) name log_bytes a b whole gone = absurd gone
told_missing fault.Boots name log_bytes a b whole gone = absurd gone
told_missing fault.LogFull name log_bytes a b whole gone = absurd gone
told_missing fault.Device name log_bytes a b whole gone = absurd gone
told_missing fault.Memory name log_bytes a b whole gone = absurd gone
told_missing fault.Setting name log_bytes a b whole gone = absurd gone

-- of two files that were found
pub refused_missing : (e : ManagerFault) (name : List ℕ) (log_bytes : ℕ) (a b : List ℕ) (opened : Opened) → WasFound a b opened → opened.log_bytes ≡ log_bytes → Misses e a b
    → OpenRefused e name log_bytes a b
refused_missing e name log_bytes a b opened found is gone = told_missing e name log_bytes a b (subst (λ (n : ℕ). pair_fault n a b ≡ None) is found.fault) gone

pub left_missing : {D : Type 0} (disks : Ghosts D) (e : ManagerFault) (log_bytes : ℕ) (first first' second second' : D) → (e ≡ fault.MissingFirst) ⊎ (e ≡ fault.MissingSecond)
    → (disks.honest → LeavesFinding disks first first' second second') → LeavesRefused disks e log_bytes first first' second second'
left_missing disks e log_bytes first first' second second' (inl is) left = subst (λ (x : ManagerFault). LeavesRefused disks x log_bytes first first' second second') (sym is) left
left_missing disks e log_bytes first first' second second' (inr is) left = subst (λ (x : ManagerFault). LeavesRefused disks x log_bytes first first' second second') (sym is) left

-- and none of two that were made
pub there_by : (made : Bool) (a b : List ℕ) → (made ≡ true → (a ≡ []) × (b ≡ [])) → (made ≡ false → missing_of a b ≡ unfit.Neither) → missing_of a b ≡ unfit.Neither
there_by true a b empty read = let e = empty refl in subst (λ (x : List ℕ). missing_of x b ≡ unfit.Neither) (sym e.0) (subst (λ (y : List ℕ). missing_of [] y ≡ unfit.Neither) (sym e.1) refl)
there_by false a b empty read = read refl

-- ---- what it leaves

module _ {D : Type 0} (disks : Ghosts D) (first second : D) (is_new : Bool) (bodies : List (List ℕ)) (log_bytes : ℕ) (log : LogView D)
    (finding : disks.honest → LeavesFinding disks first (first_of log) second (second_of log))
    (read : disks.honest → logged_pair (disks.seen first) (disks.seen second) ≡ bodies) (found : disks.honest → IsFound disks is_new bodies log) (sized : log.log_bytes ≡ log_bytes)
    (made : disks.honest → is_new ≡ true → (disks.seen first ≡ []) × (disks.seen second ≡ [])) where
  logging : (a : Appended) (after : LogView D) → LogsBoot disks is_new bodies log_bytes a log after → LeavesLogging disks log_bytes first second a after
  logging a after logs = record {
    is_new = is_new;
    bodies = bodies;
    log = log;
    finding = finding;
    read = read;
    found = found;
    log_bytes_is = sized;
    made = made;
    logs = logs;
  }

  pub begun_logs : {E : Type 0} (r : Result (Manager D) E) → IfOk r (λ m. LogsBoot disks is_new bodies log_bytes Kept log m.log)
      → IfOk r (λ m. LeavesLogging disks log_bytes first second Kept m.log)
  begun_logs (Ok m) logs = logging Kept m.log logs
  begun_logs (Err e) logs = tt

  as_found : (after : LogView D) (first' second' : D) → after ≡ log → first' ≡ first_of after → second' ≡ second_of after
      → disks.honest → LeavesFinding disks first first' second second'
  as_found after first' second' same one two h =
      subst (λ (d : D). LeavesFinding disks first d second second') (sym one)
      (subst (λ (d : D). LeavesFinding disks first (first_of after) second d) (sym two)
      (subst (λ (l : LogView D). LeavesFinding disks first (first_of l) second (second_of l)) (sym same) (finding h)))

  left_for : (e : ManagerFault) (after : LogView D) (first' second' : D) → BootRefused e bodies log_bytes
      → LeavesBegin disks e is_new bodies log_bytes log after → first' ≡ first_of after → second' ≡ second_of after → LeavesRefused disks e log_bytes first first' second second'
  left_for (fault.Log e) after first' second' h left one two = absurd h
  left_for fault.MissingFirst after first' second' h left one two = absurd h
  left_for fault.MissingSecond after first' second' h left one two = absurd h
  left_for (fault.Malformed i) after first' second' h left one two = as_found after first' second' left one two
  left_for (fault.Order i) after first' second' h left one two = as_found after first' second' left one two
  left_for fault.Boots after first' second' h left one two = as_found after first' second' left one two
  left_for fault.LogFull after first' second' h left one two = as_found after first' second' left one two
  left_for fault.Memory after first' second' h left one two = as_found after first' second' left one two
  left_for fault.Setting after first' second' h left one two = absurd h
  left_for fault.Device after first' second' h (a, kept, logs) one two = (a, after, kept, logging a after logs, one, two)

  pub refused_left : {M : Type 0} (r : Result M (RefusedOpening D)) → IfErr r (λ x. BootRefused x.fault bodies log_bytes)
      → IfErr r (λ x. (after : LogView D) × LeavesBegin disks x.fault is_new bodies log_bytes log after × (x.first ≡ first_of after) × (x.second ≡ second_of after))
      → IfErr r (λ x. LeavesRefused disks x.fault log_bytes first x.first second x.second)
  refused_left (Ok m) h left = tt
  refused_left (Err x) h (after, left, one, two) = left_for x.fault after x.first x.second h left one two
