-- The states that an opened manager stands for.
use Rattle.std.proofs.lemmas.Bool.Decides.{nat_tests}
use Rattle.std.proofs.Common.{◌≡◌, ◌+◌, ◌<◌, ℕ, Bool, true, List, [], ◌∷◌, map, Option, Some, IsSomeAnd, refl, ap, sym, ◌∙◌, subst, arith}
use Rattle.std.specs.Prelude.{Result, Ok, Err, IfOk, nat_lt, ◌&&◌, option_map, option_and_then}
use Rattle.xa_disk.specs.declared.disk.Disk.{Ghosts}
use Rattle.xa_record.specs.Spelling.{spelled}
use Rattle.xa_record.specs.declared.record.Record.{Record}
use Rattle.xa_log.specs.Believed.Pair.{logged_pair}
use Rattle.xa_model.specs.declared.outcome.Outcome.TheVariants.{Reread}
use Rattle.xa_model.specs.declared.outcome.Appending.TheVariants.{Kept}
use Rattle.xa_model.specs.State.{State}
use Rattle.xa_model.specs.Answer.{Answer, ok}
use Rattle.xa_model.specs.Durable.{Durable, durable}
use Rattle.xa_model.specs.Fold.{fold, nothing}
use Rattle.xa_model.specs.Invariants.Loggable.{IsRecoverable}
use Rattle.xa_model.specs.Invariants.Backing.{Backs}
use Rattle.xa_model.specs.Restarting.{can_open, reopened, reopening}
use Rattle.xa_limits.specs.declared.TheConstants.{MOST_BOOTS}
use Rattle.xa_model.specs.Invariants.Restored.{IsRestored}
use Rattle.xa_model.specs.Turn.{Reopened, going_on}
use Rattle.xa_model.specs.Step.{step}
use Rattle.xa_model.specs.History.{fresh}
use Rattle.xa_model.proofs.Openings.{opens_restored}
use Rattle.xa_model.proofs.Restores.{reopens_restored}
use Rattle.xa_model.proofs.Rooms.{prepared_lasting, decided_lasting}
use Rattle.xa_manager.specs.declared.manager.Manager.{Manager}
use Rattle.xa_manager.specs.Managed.{ManagerStandsFor}
use Rattle.xa_manager.specs.Believed.Opening.{HasBegun, HasBegunOn, has_boot_room}
use Rattle.xa_manager.specs.Believed.Files.{FilesStandFor, Settles}
use Rattle.xa_manager.specs.Rereading.{IsFate}
use Rattle.xa_manager.proofs.Fates.{fate_recoverable, fate_settled}
use Rattle.xa_manager.proofs.Generations.{same_records}

-- a manager that began
begun_map : {D E : Type 0} (r : Result (Manager D) E) (P Q : Manager D → Type 0) → ((m : Manager D) → P m → Q m) → IfOk r P → IfOk r Q
begun_map (Ok m) P Q f h = f m h
begun_map (Err e) P Q f h = tt

-- on honest disks it began with what a read gives
pub begun_read : {D E : Type 0} (disks : Ghosts D) (r : Result (Manager D) E) (a b : List ℕ) (name : List ℕ) (log_bytes : ℕ) → disks.honest
    → IfOk r (HasBegunOn disks a b name log_bytes) → IfOk r (HasBegun disks (logged_pair a b) name log_bytes)
begun_read disks r a b name log_bytes h begun =
    begun_map r (HasBegunOn disks a b name log_bytes) _ (λ m it. subst (λ (l : List (List ℕ)). HasBegun disks l name log_bytes m) (sym (it.read h)) it.begun) begun

-- what it began with is what a read gives of the two files
pub begun_on : {D E : Type 0} (disks : Ghosts D) (r : Result (Manager D) E) (a b : List ℕ) (bodies : List (List ℕ)) (name : List ℕ) (log_bytes : ℕ)
    → (disks.honest → logged_pair a b ≡ bodies) → IfOk r (HasBegun disks bodies name log_bytes) → IfOk r (HasBegunOn disks a b name log_bytes)
begun_on disks r a b bodies name log_bytes read begun =
    begun_map r (HasBegun disks bodies name log_bytes) _ (λ m it. record { bodies = bodies; begun = it; read = read }) begun

no_records : (rs : List Record) → map spelled rs ≡ [] → rs ≡ []
no_records [] e = refl
no_records (r ∷ rs) e = absurd (cc e)

none_logged : (a b : List ℕ) → a ≡ [] → b ≡ [] → logged_pair a b ≡ []
none_logged [] [] ea eb = refl
none_logged (x ∷ a) b ea eb = absurd (cc ea)
none_logged [] (y ∷ b) ea eb = absurd (cc eb)

pub below_limit : (n : ℕ) → n < MOST_BOOTS → nat_lt n MOST_BOOTS ≡ true
below_limit n less = grind (arith, nat_tests)

pub both_hold : (a b : Bool) → a ≡ true → b ≡ true → a && b ≡ true
both_hold a b ea eb = rw (ea, eb) refl

-- an opening whose record was kept
kept_reopens : (t : State) (name : List ℕ) (log_bytes : ℕ) → nat_lt t.logged_boot MOST_BOOTS && can_open t log_bytes (t.logged_boot + 1) ≡ true
    → going_on (Some Kept) (reopening name log_bytes t) ≡ Some (ok (reopened t name log_bytes (t.logged_boot + 1)))
kept_reopens t name log_bytes e = rw e refl

found_step : (k : ℕ) (s t : State) (name : List ℕ) (log_bytes : ℕ) → IsFate k s t
    → step s (Reopened name log_bytes) (Reread k (Some Kept)) ≡ going_on (Some Kept) (reopening name log_bytes t)
found_step k s t name log_bytes fate = ap (λ (o : Option State). option_and_then (going_on (Some Kept)) (option_map (reopening name log_bytes) o)) fate

module _ {D : Type 0} (disks : Ghosts D) where
  fresh_one : (m : Manager D) (name : List ℕ) (log_bytes : ℕ) → HasBegun disks [] name log_bytes m → ManagerStandsFor disks m (fresh name log_bytes)
  fresh_one m name log_bytes begun =
      let none : begun.comes.records ≡ [] = no_records begun.comes.records begun.comes.bodies_are.spelling in
      let same : nothing ≡ begun.durable = cc (begun.comes.folded, ap (λ (rs : List Record). fold rs) none) in
      let it = (opens_restored [] nothing name log_bytes tt refl (omega arith) (omega arith)).0 in
      begun.stands (fresh name log_bytes) (subst (λ (x : Durable). IsRestored x (x.boot + 1) (fresh name log_bytes)) same it) refl refl refl refl

  pub fresh_opened : {E : Type 0} (r : Result (Manager D) E) (name : List ℕ) (log_bytes : ℕ) (a b : List ℕ)
      → IfOk r (HasBegun disks (logged_pair a b) name log_bytes) → a ≡ [] → b ≡ [] → IfOk r (λ m. ManagerStandsFor disks m (fresh name log_bytes))
  fresh_opened r name log_bytes a b h ea eb =
      begun_map r (HasBegun disks (logged_pair a b) name log_bytes) _
      (λ m begun. fresh_one m name log_bytes (subst (λ (l : List (List ℕ)). HasBegun disks l name log_bytes m) (none_logged a b ea eb) begun)) h

  -- the state whose last records' fates are known
  opened_one : (m : Manager D) (name : List ℕ) (log_bytes : ℕ) (bodies : List (List ℕ)) (rs : List Record) (t : State) → HasBegun disks bodies name log_bytes m
      → bodies ≡ map spelled rs → Backs rs t → IsRecoverable t → t.open_records ≡ []
      → (nat_lt t.logged_boot MOST_BOOTS && can_open t log_bytes (t.logged_boot + 1) ≡ true) × ManagerStandsFor disks m (reopened t name log_bytes (t.logged_boot + 1))
  opened_one m name log_bytes bodies rs t begun are backs rec none =
      let same : begun.comes.records ≡ rs = same_records begun.comes.records rs begun.comes.bodies_are.limits backs.records (begun.comes.bodies_are.spelling ∙ are) in
      let d_is : begun.durable ≡ durable t = cc (begun.comes.folded, ap (λ (qs : List Record). fold qs) same, backs.lasts) in
      let less : t.logged_boot < MOST_BOOTS = subst (λ (x : Durable). x.boot < MOST_BOOTS) d_is begun.boots in
      let room : has_boot_room log_bytes (durable t) (t.logged_boot + 1) ≡ true = subst (λ (x : Durable). has_boot_room log_bytes x (x.boot + 1) ≡ true) d_is begun.room in
      let it : IsRestored begun.durable (begun.durable.boot + 1) (reopened t name log_bytes (t.logged_boot + 1)) =
      subst (λ (x : Durable). IsRestored x (x.boot + 1) (reopened t name log_bytes (t.logged_boot + 1))) (sym d_is) (reopens_restored t name log_bytes rec none less) in
      let opens : can_open t log_bytes (t.logged_boot + 1) ≡ true = rw (← prepared_lasting t, ← decided_lasting t) room in
      (both_hold (nat_lt t.logged_boot MOST_BOOTS) (can_open t log_bytes (t.logged_boot + 1)) (below_limit t.logged_boot less) opens, begun.stands (reopened t name log_bytes (t.logged_boot + 1)) it refl refl refl refl)

  opened_some : (m : Manager D) (o : Option Answer) (a : Answer) → o ≡ Some a → ManagerStandsFor disks m a.after → IsSomeAnd o (λ x. ManagerStandsFor disks m x.after)
  opened_some m o a e st = subst (λ (x : Option Answer). IsSomeAnd x (λ y. ManagerStandsFor disks m y.after)) (sym e) st

  reopens_one : (m : Manager D) (s : State) (name : List ℕ) (log_bytes : ℕ) (bodies : List (List ℕ)) (rs : List Record) → IsRecoverable s → bodies ≡ map spelled rs → Settles rs s
      → HasBegun disks bodies name log_bytes m
      → (found : ℕ) × IsSomeAnd (step s (Reopened name log_bytes) (Reread found (Some Kept))) (λ a. ManagerStandsFor disks m a.after)
  reopens_one m s name log_bytes bodies rs rec are (k, t, fate, backs) begun =
      let x = opened_one m name log_bytes bodies rs t begun are backs (fate_recoverable k s t rec fate) (fate_settled k s t fate) in (
        k,
        opened_some m (step s (Reopened name log_bytes) (Reread k (Some Kept))) (ok (reopened t name log_bytes (t.logged_boot + 1)))
            (found_step k s t name log_bytes fate ∙ kept_reopens t name log_bytes x.0) x.1,
      )

  pub reopens_opened : {E : Type 0} (r : Result (Manager D) E) (s : State) (name : List ℕ) (log_bytes : ℕ) (a b : List ℕ) → IsRecoverable s → FilesStandFor log_bytes a b s
      → IfOk r (HasBegun disks (logged_pair a b) name log_bytes)
      → IfOk r (λ m. (found : ℕ) × IsSomeAnd (step s (Reopened name log_bytes) (Reread found (Some Kept))) (λ x. ManagerStandsFor disks m x.after))
  reopens_opened r s name log_bytes a b rec files h =
      begun_map r (HasBegun disks (logged_pair a b) name log_bytes) _
      (λ m begun. reopens_one m s name log_bytes (logged_pair a b) files.records rec files.logged files.settles begun) h
