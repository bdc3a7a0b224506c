-- Records that are kept one after another: what they leave alone, what they come to, and the state with the first of them.
use Rattle.std.proofs.Common.{◌≡◌, ◌≤◌, ℕ, zero, suc, true, false, List, [], ◌∷◌, ◌++◌, length, Option, Some, None, refl, sym, ap, ◌∙◌, subst, arith, inl, inr}
use Rattle.std.specs.Prelude.{Contains, IfSome, take, option_map}
use Rattle.std.specs.List.{AllByRecursion}
use Rattle.std.proofs.lemmas.Bool.{not-true}
use Rattle.xa_codes.specs.declared.direction.Direction.TheVariants as direction
use Rattle.xa_record.specs.declared.record.Record.{Record}
use Rattle.xa_record.specs.declared.record.Record.TheVariants as logged
use Rattle.xa_model.specs.State.{State, Standing, Up}
use Rattle.xa_model.specs.Durable.{Durable, durable}
use Rattle.xa_model.specs.Fold.{apply}
use Rattle.xa_model.specs.Logging.{applied, applied_all, supposed, is_boot, takes_more}
use Rattle.xa_model.specs.Restarting.{fates_with, looked, with_first}
use Rattle.xa_model.specs.Invariants.Sound.{IsSound}
use Rattle.xa_model.specs.Invariants.Loggable.{IsLoggable, IsRecoverable, MayBeLast, MayFollow, AreOneGroup}
use Rattle.xa_model.specs.Laws.Groups.{SupposedFirst, SupposedNext, FindsFirst}
use Rattle.xa_model.specs.Laws.Logging.{apply_all}
use Rattle.xa_model.proofs.AppliedDecisions.{applied_lasts, applied_sound}
use Rattle.xa_model.proofs.Likeness.{like_last, same_branches}
use Rattle.xa_model.proofs.Parts.{sound_beside}
use Rattle.xa_model.proofs.Recordable.{recordable, relogged, applied_loggable}

-- what a record leaves alone

-- it changes no more than the branches, what was decided, and the log
pub applied_changes : (s : State) (r : Record)
    → applied r s ≡ record s { logged_boot = (applied r s).logged_boot; branches = (applied r s).branches; decided = (applied r s).decided; end = (applied r s).end }
applied_changes s (logged.Opened boot) = refl
applied_changes s (logged.Prepared xid t ws) = refl
applied_changes s (logged.Committed xid t ws) = refl
applied_changes s (logged.Completed xid direction.Commit) = refl
applied_changes s (logged.Completed xid direction.Rollback) = refl
applied_changes s (logged.Decided xid direction.Commit) = refl
applied_changes s (logged.Decided xid direction.Rollback) = refl
applied_changes s (logged.Forgotten xid) = refl
applied_changes s (logged.Base t ws) = refl
applied_changes s (logged.Held xid t ws) = refl
applied_changes s (logged.Known xid way) = refl

pub applied_standing : (s : State) (r : Record) → (applied r s).standing ≡ s.standing
applied_standing s r = ap (λ (t : State). t.standing) (applied_changes s r)

pub applied_open : (s : State) (r : Record) → (applied r s).open_records ≡ s.open_records
applied_open s r = ap (λ (t : State). t.open_records) (applied_changes s r)

-- the boot that was logged last is this one still
pub applied_logged : (s : State) (r : Record) → is_boot r ≡ false → (applied r s).logged_boot ≡ s.logged_boot
applied_logged s (logged.Opened boot) other = absurd (cc other)
applied_logged s (logged.Prepared xid t ws) other = refl
applied_logged s (logged.Committed xid t ws) other = refl
applied_logged s (logged.Completed xid direction.Commit) other = refl
applied_logged s (logged.Completed xid direction.Rollback) other = refl
applied_logged s (logged.Decided xid direction.Commit) other = refl
applied_logged s (logged.Decided xid direction.Rollback) other = refl
applied_logged s (logged.Forgotten xid) other = refl
applied_logged s (logged.Base t ws) other = refl
applied_logged s (logged.Held xid t ws) other = refl
applied_logged s (logged.Known xid way) other = refl

pub applied_current : (s : State) (r : Record) → is_boot r ≡ false → s.logged_boot ≡ s.boot → (applied r s).logged_boot ≡ (applied r s).boot
applied_current s r other e = applied_logged s r other ∙ e ∙ sym (ap (λ (t : State). t.boot) (applied_changes s r))

-- it does the same whoever is connected and answers, and whatever is open

abbrev pub with_rest : State → State → State
with_rest t s = record s { sessions = t.sessions; associations = t.associations; standing = t.standing; open_records = t.open_records }

pub applied_rest : (u s : State) (r : Record) → applied r (with_rest u s) ≡ with_rest u (applied r s)
applied_rest u s (logged.Opened boot) = refl
applied_rest u s (logged.Prepared xid t ws) = refl
applied_rest u s (logged.Committed xid t ws) = refl
applied_rest u s (logged.Completed xid direction.Commit) = refl
applied_rest u s (logged.Completed xid direction.Rollback) = refl
applied_rest u s (logged.Decided xid direction.Commit) = refl
applied_rest u s (logged.Decided xid direction.Rollback) = refl
applied_rest u s (logged.Forgotten xid) = refl
applied_rest u s (logged.Base t ws) = refl
applied_rest u s (logged.Held xid t ws) = refl
applied_rest u s (logged.Known xid way) = refl

abbrev pub beside : State → Standing → List Record → State
beside s standing rs = record s { standing = standing; open_records = rs }

pub applied_beside : (s : State) (r : Record) (p : Standing) (o : List Record) → applied r (beside s p o) ≡ beside (applied r s) p o
applied_beside s r p o = applied_rest (beside s p o) s r ∙ sym (ap (λ (t : State). beside t p o) (applied_rest s s r))

pub all_beside : (rs : List Record) (s : State) (p : Standing) (o : List Record) → applied_all rs (beside s p o) ≡ beside (applied_all rs s) p o
all_beside [] s p o = refl
all_beside (r ∷ rs) s p o = ap (applied_all rs) (applied_beside s r p o) ∙ all_beside rs (applied r s) p o

pub all_append : (rs : List Record) (r : Record) (s : State) → applied_all (rs ++ r ∷ []) s ≡ applied r (applied_all rs s)
all_append [] r s = refl
all_append (q ∷ rs) r s = all_append rs r (applied q s)

pub beside_itself : (s : State) (p : Standing) (o : List Record) → s.standing ≡ p → s.open_records ≡ o → beside s p o ≡ s
beside_itself s p o e f =
    subst (λ (q : Standing). beside s q o ≡ s) e (subst (λ (l : List Record). beside s s.standing l ≡ s) f refl)

pub supposed_first : SupposedFirst
supposed_first s r up none =
    ap (λ (t : State). beside t Up []) (applied_beside s r _ (r ∷ []))
    ∙ beside_itself (applied r s) Up [] (applied_standing s r ∙ up) (applied_open s r ∙ none)

pub supposed_next : SupposedNext
supposed_next s r =
    ap (λ (t : State). beside t Up []) (all_beside (s.open_records ++ r ∷ []) s s.standing (s.open_records ++ r ∷ []) ∙ ap (λ (t : State). beside t s.standing (s.open_records ++ r ∷ [])) (all_append s.open_records r s))
    ∙ sym (applied_beside (applied_all s.open_records s) r Up [])

-- what the records come to, one after another

abbrev pub come_to : Durable → List Record → List Durable
come_to d [] = d ∷ []
come_to d (r ∷ rs) = d ∷ come_to (apply r d) rs

pub fates_come : (s : State) (rs : List Record) → IsSound s → MayFollow s rs → fates_with s rs ≡ come_to (durable s) rs
fates_come s [] h follow = refl
fates_come s (r ∷ rs) h follow =
    ap (λ (l : List Durable). durable s ∷ l)
    (fates_come (applied r s) rs (applied_sound s r h follow.0.may) follow.1
    ∙ ap (λ (d : Durable). come_to d rs) (applied_lasts s r h follow.0.may))

-- where the same lasts, and the same may follow, a crash leaves the same
pub same_fates : (s t : State) (rs : List Record) → IsSound s → IsSound t → MayFollow s rs → MayFollow t rs → durable t ≡ durable s
    → fates_with t rs ≡ fates_with s rs
same_fates s t rs h k follow still same =
    fates_come t rs k still ∙ ap (λ (d : Durable). come_to d rs) same ∙ sym (fates_come s rs h follow)

pub first_fate : (s : State) (rs : List Record) → Contains (fates_with s rs) (durable s)
first_fate s [] = (0, omega arith, refl)
first_fate s (r ∷ rs) = (0, omega arith, refl)

-- the state with the first n

pub record IsFirst (s : State) (k : ℕ) (rs : List Record) (t : State) : Type 0 where
  pub sound : IsSound t
  pub loggable : IsLoggable t
  pub lasts : durable t ≡ apply_all (take k rs) (durable s)
  pub fate : Contains (fates_with s rs) (durable t)
  pub current : t.standing ≡ Up → t.logged_boot ≡ t.boot

pub if_imply : {A : Type 0} (P Q : A → Type 0) → ((x : A) → P x → Q x) → (o : Option A) → IfSome o P → IfSome o Q
if_imply P Q f None h = tt
if_imply P Q f (Some x) h = f x h

pub if_some : {A : Type 0} (P : A → Type 0) (o : Option A) → ((x : A) → o ≡ Some x → P x) → IfSome o P
if_some P None f = tt
if_some P (Some x) f = f x refl

pub if_mapped : {A B : Type 0} (P : B → Type 0) (f : A → B) (o : Option A) → IfSome o (λ x. P (f x)) → IfSome (option_map f o) P
if_mapped P f None h = tt
if_mapped P f (Some x) h = h

not_nothing : (r : Record) (rs : List Record) → r ∷ rs ≡ [] → ⊥
not_nothing r rs e = cc e

pub first_is : (k : ℕ) (rs : List Record) (s : State) → IsSound s → IsLoggable s → MayFollow s rs → (s.standing ≡ Up → rs ≡ [])
    → (s.standing ≡ Up → s.logged_boot ≡ s.boot) → IfSome (with_first k rs s) (IsFirst s k rs)
first_is zero rs s h l follow none current = record { sound = h; loggable = l; lasts = refl; fate = first_fate s rs; current = current }
first_is (suc k) [] s h l follow none current = tt
first_is (suc k) (r ∷ rs) s h l follow none current =
    if_imply (IsFirst (applied r s) k rs) (IsFirst s (suc k) (r ∷ rs)) further (with_first k rs (applied r s))
    (first_is k rs (applied r s) (applied_sound s r h follow.0.may) (applied_loggable s r l follow.0.may follow.0.limits) follow.1
    (λ up. absurd (not_up up)) (λ up. absurd (not_up up)))
  where
    not_up : (applied r s).standing ≡ Up → ⊥
    not_up up = not_nothing r rs (none (sym (applied_standing s r) ∙ up))

    further : (t : State) → IsFirst (applied r s) k rs t → IsFirst s (suc k) (r ∷ rs) t
    further t x = record {
      sound = x.sound;
      loggable = x.loggable;
      lasts = x.lasts ∙ ap (apply_all (take k rs)) (applied_lasts s r h follow.0.may);
      fate = let (i, less, e) = x.fate in (suc i, omega (arith, less), e);
      current = x.current;
    }

-- the state with them all

all_sound : (rs : List Record) (s : State) → IsSound s → MayFollow s rs → IsSound (applied_all rs s)
all_sound [] s h follow = h
all_sound (r ∷ rs) s h follow = all_sound rs (applied r s) (applied_sound s r h follow.0.may) follow.1

all_loggable : (rs : List Record) (s : State) → IsLoggable s → MayFollow s rs → IsLoggable (applied_all rs s)
all_loggable [] s h follow = h
all_loggable (r ∷ rs) s h follow = all_loggable rs (applied r s) (applied_loggable s r h follow.0.may follow.0.limits) follow.1

abbrev pub AreOfGroup : List Record → Type 0
AreOfGroup rs = AllByRecursion (λ (r : Record). is_boot r ≡ false) rs

all_current : (rs : List Record) (s : State) → AreOfGroup rs → s.logged_boot ≡ s.boot → (applied_all rs s).logged_boot ≡ (applied_all rs s).boot
all_current [] s others e = e
all_current (r ∷ rs) s others e = all_current rs (applied r s) others.1 (applied_current s r others.0 e)

pub all_lasts : (rs : List Record) (s : State) → IsSound s → MayFollow s rs → durable (applied_all rs s) ≡ apply_all rs (durable s)
all_lasts [] s h follow = refl
all_lasts (r ∷ rs) s h follow =
    all_lasts rs (applied r s) (applied_sound s r h follow.0.may) follow.1 ∙ ap (apply_all rs) (applied_lasts s r h follow.0.may)

pub follow_more : (rs : List Record) (r : Record) (s : State) → MayFollow s rs → MayBeLast (applied_all rs s) r → MayFollow s (rs ++ r ∷ [])
follow_more [] r s follow last = (last, tt)
follow_more (q ∷ rs) r s follow last = (follow.0, follow_more rs r (applied q s) follow.1 last)

pub group_more : (rs : List Record) (r : Record) → AreOfGroup rs → is_boot r ≡ false → AreOfGroup (rs ++ r ∷ [])
group_more [] r others other = (other, tt)
group_more (q ∷ rs) r others other = (others.0, group_more rs r others.1 other)

-- those that take one more are a group
pub of_group : (rs : List Record) → AreOneGroup rs → takes_more rs ≡ true → AreOfGroup rs
of_group rs (inl others) more = others
of_group [] (inr one) more = tt
of_group (r ∷ []) (inr one) more = (not-true (is_boot r) more, tt)
of_group (r ∷ q ∷ rs) (inr one) more = absurd (omega (arith, one))

first_current : (rs : List Record) (s : State) → takes_more rs ≡ true → AreOfGroup rs → MayFollow s rs → s.logged_boot ≡ s.boot
first_current [] s more others follow = absurd (cc more)
first_current (r ∷ rs) s more others follow = follow.0.current others.0

pub supposed_recoverable : (s : State) → IsRecoverable s → takes_more s.open_records ≡ true → IsRecoverable (supposed s)
supposed_recoverable s h more =
    let rs = s.open_records in
    let t = applied_all rs s in
    let others = of_group rs h.group more in
    let logs = all_loggable rs s h.loggable h.open_records in
    record {
      sound = sound_beside t t.reads t.logged_boot t.end Up [] t.moment (all_sound rs s h.sound h.open_records);
      loggable = relogged t (supposed s) logs refl refl (recordable t logs);
      open_records = tt;
      group = inl tt;
      settled = λ up. refl;
      current = λ up. all_current rs s others (first_current rs s more others h.open_records);
    }

-- one more record of a group may follow those before it

pub further_follows : (s : State) (r : Record) → IsRecoverable s → MayBeLast (supposed s) r → MayFollow s (s.open_records ++ r ∷ [])
further_follows s r h last =
    let t = applied_all s.open_records s in
    follow_more s.open_records r s h.open_records
    (like_last (supposed s) t r (same_branches (supposed s) t refl refl refl refl (λ xid none. none)) last)

-- the first of them are there

within : (k : ℕ) (rs : List Record) (s : State) → k ≤ length rs → (t : State) × (with_first k rs s ≡ Some t)
within zero rs s few = (s, refl)
within (suc k) [] s few = absurd (omega (arith, few))
within (suc k) (r ∷ rs) s few = within k rs (applied r s) (omega (arith, few))

pub finds_first : FindsFirst
finds_first s k few = let (t, found) = within k s.open_records s few in (looked t, ap (option_map looked) found)
