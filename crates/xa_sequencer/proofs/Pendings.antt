-- A manager over a log does what a sequencer asks of one that commits groups.
use Rattle.std.proofs.Common.{◌≡◌, ◌∙◌, ℕ, ◌+◌, ◌≤◌, ◌<◌, ◌⊎◌, inl, inr, Bool, true, false, List, [], ◌∷◌, Option, None, Some, Result, Ok, Err, IsSomeAnd, IfOk, Vec, Global, refl, sym, subst, arith}
use Rattle.std.specs.Prelude.{if◌then◌else◌, pos, MatchBool, OnErr}
use Rattle.std.proofs.lemmas.Bool.Decides.{nat_tests}
use Rattle.xa_assoc.specs.Company.{Loses}
use Rattle.xa_assoc.specs.Refusals.{is_memory}
use Rattle.xa_disk.specs.Counts.{plus, top}
use Rattle.xa_disk.specs.declared.counts.Counts.{Counts}
use Rattle.xa_disk.specs.declared.disk.Disk as disk
use Rattle.xa_disk.specs.declared.disk.DiskFault.{DiskFault}
use Rattle.xa_frame.specs.declared.reply.Reply.{Reply}
use Rattle.xa_log.specs.Calls.{SettlesBy, WritesAhead}
use Rattle.xa_log.specs.Believed.LogView.{LogView}
use Rattle.xa_manager.specs.Believed.Answered.{FullyAnswered, HasCalled, StaysFor, as_appended}
use Rattle.xa_manager.specs.Believed.Counted.{RiseBy, counted_by, failures_in, failures_of_append}
use Rattle.xa_manager.specs.Believed.LogStands.{Trusts}
use Rattle.xa_manager.specs.Managed.{ManagerStandsFor}
use Rattle.xa_manager.specs.Believed.Parts.{log_of, outcome_of}
use Rattle.xa_manager.specs.Connected.{connected_to}
use Rattle.xa_manager.specs.Believed.Pending.{AnsweredBeside, AsksNoneOf, HasFinished, IsPending, IsPendingFrom, WritesGroup, calls_of, write_of}
use Rattle.xa_manager.specs.Reserving.{HasReserved}
use Rattle.xa_manager.specs.declared.manager.Manager.{Manager}
use Rattle.xa_manager.specs.declared.pending.PendingGroup.{PendingGroup}
use Rattle.xa_manager.specs.declared.together.Asked.{Asked}
use Rattle.xa_manager.proofs.Counting.{called_alone, called_for, none_by, rise_both}
use Rattle.xa_manager.proofs.Reserved.{none_rises}
use Rattle.xa_model.specs.Answer.{Answer, plain}
use Rattle.xa_model.specs.Events.{is_restart, is_trim}
use Rattle.xa_model.specs.History.{Entry, Leads, joins}
use Rattle.xa_model.specs.State.{State}
use Rattle.xa_model.specs.Step.{step}
use Rattle.xa_model.specs.Turn as turn
use Rattle.xa_model.specs.declared.event.Event.{Event}
use Rattle.xa_model.specs.declared.event.Event.TheVariants.{Hangup}
use Rattle.xa_model.specs.declared.outcome.Appending.{Appending}
use Rattle.xa_model.specs.declared.outcome.Appending.TheVariants.{Kept, Refused, Lost}
use Rattle.xa_model.specs.declared.outcome.Outcome.TheVariants.{Appended, Quiet}
use Rattle.xa_history.proofs.Together.{all_told, all_unplaced, group_lost, group_told}
use Rattle.xa_history.specs.Believed.Manages.{Acts}
use Rattle.xa_history.specs.Believed.Together.{AnswersNone, AnswersTogether}
use Rattle.xa_sequencer.specs.Manages.{AsksOne}
use Rattle.xa_sequencer.specs.Believed.GroupManager.{StandsWith, alone, before_write, beside, calls_in, counted_before, manages_of, with_group}

-- ---- counts of failures

rise_none : (x : ℕ × ℕ) → RiseBy 0 x x
rise_none x = λ first second. (first, second, omega arith)

-- what the count of a write's disk says of the one before it
begin_one : (w : Result (Unit {0}) DiskFault) (more p q : ℕ) (c c' : Counts) → WritesAhead more w p q c c' → before_write w q < top → (p < top) × (p ≤ before_write w q)
begin_one (Ok u) more p q c c' (inl h) lt = let e : q ≡ p = h.0 in (omega (arith, lt, e), omega (arith, e))
begin_one (Ok u) more p q c c' (inr h) lt = let e : q ≡ plus p 1 = h.1 in (omega (arith, lt, e), omega (arith, lt, e))
begin_one (Err v) more p q c c' (inl h) lt = let e : q ≡ plus p 1 = h.0 in (grind (arith, nat_tests, lt, e), grind (arith, nat_tests, lt, e))
begin_one (Err v) more p q c c' (inr h) lt = let e : q ≡ plus (plus p 1) 1 = h.1 in (grind (arith, nat_tests, lt, e), grind (arith, nat_tests, lt, e))

-- a failed write was counted
some_failed : (v : DiskFault) (more p q : ℕ) (c c' : Counts) → WritesAhead {T = Unit {0}} more (Err v) p q c c' → 1 ≤ q
some_failed v more p q c c' (inl h) = let e : q ≡ plus p 1 = h.0 in omega (arith, e)
some_failed v more p q c c' (inr h) = let e : q ≡ plus (plus p 1) 1 = h.1 in omega (arith, e)

-- what the count says that there is after a group that was settled
finish_one : (w : Result (Unit {0}) DiskFault) (a : Appending) (more p q r : ℕ) (c c' : Counts) → WritesAhead more w p q c c' → SettlesBy w (as_appended a) q r → r < top
    → (before_write w q < top) × (before_write w q + failures_of_append a ≤ r)
finish_one (Ok u) Kept more p q r c c' h x lt = let e : r ≡ q = x in (omega (arith, lt, e), omega (arith, e))
finish_one (Ok u) Refused more p q r c c' h x lt = let e : q < r = x lt in (omega (arith, lt, e), omega (arith, e))
finish_one (Ok u) Lost more p q r c c' h x lt = let e : q < r = x lt in (omega (arith, lt, e), omega (arith, e))
finish_one (Err v) Kept more p q r c c' h x lt = absurd x
finish_one (Err v) Refused more p q r c c' h x lt =
    let e : r ≡ q = x in let one = some_failed v more p q c c' h in (grind (arith, nat_tests, lt, e), grind (arith, nat_tests, lt, e, one))
finish_one (Err v) Lost more p q r c c' h x lt = let e : q < r = x lt in (grind (arith, nat_tests, lt, e), grind (arith, nat_tests, lt, e))

-- of the two disks

begin_sides : (b : Bool) (p o x : ℕ) → (x < top → (p < top) × (p ≤ x)) → RiseBy 0 (if b then p else o, if b then o else p) (if b then (x, o) else (o, x))
begin_sides true p o x h = λ first second. let r = h first in (r.0, second, omega (arith, r.1))
begin_sides false p o x h = λ first second. let r = h second in (first, r.0, omega (arith, r.1))

finish_sides : (n : ℕ) (b : Bool) (x o r : ℕ) → (r < top → (x < top) × (x + n ≤ r)) → RiseBy n (if b then (x, o) else (o, x)) (if b then r else o, if b then o else r)
finish_sides n true x o r h = λ first second. let y = h first in (y.0, second, omega (arith, y.1))
finish_sides n false x o r h = λ first second. let y = h second in (first, y.0, omega (arith, y.1))

either : {D : Type 0} (f : D → ℕ) (b : Bool) (x y : D) → f (if b then x else y) ≡ (if b then f x else f y)
either f true x y = refl
either f false x y = refl

-- ---- both ways of a reply

each_way : (b : Bool) (A B C E : Type 0) → (b ≡ true → A → C) → (b ≡ false → B → E) → MatchBool b A B → MatchBool b C E
each_way true A B C E f g h = f refl h
each_way false A B C E f g h = g refl h

by_cases : (b : Bool) (C E : Type 0) → (b ≡ true → C) → (b ≡ false → E) → MatchBool b C E
by_cases true C E f g = f refl
by_cases false C E f g = g refl

module _ {D : Type 0} (disks : disk.Ghosts D) where
  abbrev F : D → ℕ
  F = disks.failures

  sides : (log : LogView D) → counted_by F log ≡ (if log.on_first then F log.disk else F log.other, if log.on_first then F log.other else F log.disk)
  sides log = λ i. (either F log.on_first log.disk log.other i, either F log.on_first log.other log.disk i)

  wrote_rises : (m m' : Manager D) (f : PendingGroup) → WritesGroup disks m f m' → RiseBy 0 (counted_by F (log_of m)) (counted_before F f (log_of m'))
  wrote_rises m m' f w =
      let log = w.log in
      let h = w.written in
      let first = none_by disks (log_of m) log (none_rises disks (log_of m) log w.reserved (log_of m) (refl, refl)) in
      let then_ : RiseBy 0 (counted_by F log) (if log.on_first then (before_write (write_of f) (F (log_of m').disk), F log.other) else (F log.other, before_write (write_of f) (F (log_of m').disk)))
      = subst (λ (x : ℕ × ℕ). RiseBy 0 x (if log.on_first then (before_write (write_of f) (F (log_of m').disk), F log.other) else (F log.other, before_write (write_of f) (F (log_of m').disk)))) (sym (sides log))
      (begin_sides log.on_first (F log.disk) (F log.other) (before_write (write_of f) (F (log_of m').disk)) (begin_one (write_of f) _ (F log.disk) (F (log_of m').disk) _ _ h.calls)) in
      let same : counted_before F f (log_of m') ≡ (if log.on_first then (before_write (write_of f) (F (log_of m').disk), F log.other) else (F log.other, before_write (write_of f) (F (log_of m').disk)))
      = λ i. if h.other.1 i then (before_write (write_of f) (F (log_of m').disk), F (h.other.0 i)) else (F (h.other.0 i), before_write (write_of f) (F (log_of m').disk)) in
      rise_both 0 0 (counted_by F (log_of m)) (counted_by F log) (counted_before F f (log_of m')) first (subst (λ (x : ℕ × ℕ). RiseBy 0 (counted_by F log) x) (sym same) then_)

  finished_rises : (m m' : Manager D) (f : PendingGroup) (a : Appending) (log : LogView D) (s : State) → IsPendingFrom disks log m f s → HasCalled disks (Appended a) log (log_of m')
      → SettlesBy (write_of f) (as_appended a) (F (log_of m).disk) (F (log_of m').disk) → RiseBy (failures_of_append a) (counted_before F f (log_of m)) (counted_by F (log_of m'))
  finished_rises m m' f a log s fl called fails =
      let h = fl.written in
      let other : (log_of m').other ≡ (log_of m).other = called.0 ∙ sym h.other.0 in
      let side : (log_of m').on_first ≡ (log_of m).on_first = called.1 ∙ sym h.other.1 in
      let x = before_write (write_of f) (F (log_of m).disk) in
      let there : RiseBy (failures_of_append a) (counted_before F f (log_of m)) (if (log_of m).on_first then F (log_of m').disk else F (log_of m).other, if (log_of m).on_first then F (log_of m).other else F (log_of m').disk)
      = finish_sides (failures_of_append a) (log_of m).on_first x (F (log_of m).other) (F (log_of m').disk) (finish_one (write_of f) a _ (F log.disk) (F (log_of m).disk) (F (log_of m').disk) _ _ h.calls fails) in
      let same : counted_by F (log_of m') ≡ (if (log_of m).on_first then F (log_of m').disk else F (log_of m).other, if (log_of m).on_first then F (log_of m).other else F (log_of m').disk)
      = sides (log_of m') ∙ (λ i. (if side i then F (log_of m').disk else F (other i), if side i then F (other i) else F (log_of m').disk)) in
      subst (λ (y : ℕ × ℕ). RiseBy (failures_of_append a) (counted_before F f (log_of m)) y) (sym same) there

  -- ---- no group is pending

  alone_acted : (m m' : Manager D) (event : Event) (reply : Reply) → FullyAnswered disks m event reply m' → Acts (manages_of disks) (alone m) event reply (alone m')
  alone_acted m m' event reply full = record {
    answered = each_way (is_memory reply.detail) _ _ _ _ (λ e h. h.0) (λ e h. h) full.answered;
    pinned = full.pinned;
    called = full.called;
    crash = full.crash;
    counted = by_cases (is_memory reply.detail) _ _
        (λ e s stands. none_by disks (log_of m) (log_of m') (full.quiet e))
        (λ e s stands premise.
        let called = full.called e s stands premise in
        (called_alone disks (is_trim event) (outcome_of m') (log_of m) (log_of m') called, called_for disks (is_trim event) (outcome_of m') (log_of m) (log_of m') called));
  }

  pub acted_with_none : (m m' : Manager D) (p : Option PendingGroup) (event : Event) (reply : Reply) → p ≡ None → FullyAnswered disks m event reply m'
      → Acts (manages_of disks) (with_group m p) event reply (with_group m' p)
  acted_with_none m m' p event reply is full =
      subst (λ (x : Option PendingGroup). Acts (manages_of disks) (with_group m x) event reply (with_group m' x)) (sym is) (alone_acted m m' event reply full)

  -- ---- a group begins

  begun : (m m' : Manager D) (f : PendingGroup) → ((s : State) → ManagerStandsFor disks m s → IsPending disks m' f s) → WritesGroup disks m f m'
      → AnswersNone (manages_of disks) (alone m) (beside m' f)
  begun m m' f stays w = record { stays = stays; counted = wrote_rises m m' f w }

  pub begun_so : (m m' : Manager D) (r : Result PendingGroup (Vec Asked Global)) → IfOk r (λ f. (s : State) → ManagerStandsFor disks m s → IsPending disks m' f s)
      → IfOk r (λ f. WritesGroup disks m f m') → IfOk r (λ f. AnswersNone (manages_of disks) (alone m) (beside m' f))
  begun_so m m' (Ok f) stays w = begun m m' f stays w
  begun_so m m' (Err given) stays w = tt

  pub left_alone : (m m' : Manager D) (r : Result PendingGroup (Vec Asked Global)) → OnErr r (StaysFor disks m m') → OnErr r (HasReserved disks (log_of m) (log_of m'))
      → OnErr r (AnswersNone (manages_of disks) (alone m) (alone m'))
  left_alone m m' (Ok f) stays reserved = tt
  left_alone m m' (Err given) stays reserved =
      record { stays = stays; counted = none_by disks (log_of m) (log_of m') (none_rises disks (log_of m) (log_of m') reserved (log_of m) (refl, refl)) }

  -- ---- what is answered beside it

  map_some : (o : Option Answer) (P Q : Answer → Type 0) → ((a : Answer) → P a → Q a) → IsSomeAnd o P → IsSomeAnd o Q
  map_some None P Q f h = h
  map_some (Some a) P Q f h = f a h

  module _ (m m' : Manager D) (f : PendingGroup) (event : Event) (reply : Reply) (w : AnsweredBeside disks m f event reply m') where
    same_counts : RiseBy 0 (counted_before F f (log_of m)) (counted_before F f (log_of m'))
    same_counts = subst (λ (l : LogView D). RiseBy 0 (counted_before F f (log_of m)) (counted_before F f l)) (sym w.log) (rise_none (counted_before F f (log_of m)))

    stays_by : (b : Bool)
        → ((log : LogView D) (s : State) → IsPendingFrom disks log m f s → MatchBool b (IsPendingFrom disks log m' f s)
        (IsSomeAnd (step s (turn.Asked event) Quiet) (λ a. (a.reply ≡ reply) × IsPendingFrom disks log m' f a.after)))
        → MatchBool b ((s : State) → IsPending disks m f s → IsPending disks m' f s)
        ((s : State) → IsPending disks m f s → Trusts disks ⊎ (is_restart event ≡ false)
        → IsSomeAnd (step s (turn.Asked event) Quiet) (λ a. (a.reply ≡ reply) × IsPending disks m' f a.after))
    stays_by true h = λ s st. (st.0, h st.0 s st.1)
    stays_by false h = λ s st premise. map_some (step s (turn.Asked event) Quiet) _ _ (λ a x. (x.0, (st.0, x.1))) (h st.0 s st.1)

    counts_by : (b : Bool) → MatchBool b ((s : State) → IsPending disks m f s → RiseBy 0 (counted_before F f (log_of m)) (counted_before F f (log_of m')))
        ((s : State) → IsPending disks m f s → Trusts disks ⊎ (is_restart event ≡ false) → (joins Quiet ≡ false) × RiseBy (failures_in Quiet) (counted_before F f (log_of m)) (counted_before F f (log_of m')))
    counts_by true = λ s st. same_counts
    counts_by false = λ s st premise. (refl, same_counts)

    acted_beside : Acts (manages_of disks) (beside m f) event reply (beside m' f)
    acted_beside = record {
      answered = stays_by (is_memory reply.detail) w.answered;
      pinned = w.pinned;
      called = λ served s st premise. w.log;
      crash = λ served. w.crash;
      counted = counts_by (is_memory reply.detail);
    }

  pub acted_with_some : (m m' : Manager D) (p : Option PendingGroup) (f : PendingGroup) (event : Event) (reply : Reply) → p ≡ Some f → AnsweredBeside disks m f event reply m'
      → Acts (manages_of disks) (with_group m p) event reply (with_group m' p)
  acted_with_some m m' p f event reply is w =
      subst (λ (x : Option PendingGroup). Acts (manages_of disks) (with_group m x) event reply (with_group m' x)) (sym is) (acted_beside m m' f event reply w)

  hung_up_beside : (m m' : Manager D) (f : PendingGroup) (n : ℕ) (did : Bool)
      → MatchBool did (AnsweredBeside disks m f (Hangup n) (plain (pos 0)) m' × Loses (connected_to m) n (connected_to m')) ((m' ≡ m) × (AsksNoneOf n f → ⊥))
      → MatchBool did (Acts (manages_of disks) (beside m f) (Hangup n) (plain (pos 0)) (beside m' f)) ((m' ≡ m) × AsksOne n (calls_in (Some f)))
  hung_up_beside m m' f n true h = acted_beside m m' f (Hangup n) (plain (pos 0)) h.0
  hung_up_beside m m' f n false h = h

  pub hung_up_with_some : (m m' : Manager D) (p : Option PendingGroup) (f : PendingGroup) (n : ℕ) (did : Bool) → p ≡ Some f
      → MatchBool did (AnsweredBeside disks m f (Hangup n) (plain (pos 0)) m' × Loses (connected_to m) n (connected_to m')) ((m' ≡ m) × (AsksNoneOf n f → ⊥))
      → MatchBool did (Acts (manages_of disks) (with_group m p) (Hangup n) (plain (pos 0)) (with_group m' p)) ((m' ≡ m) × AsksOne n (calls_in p))
  hung_up_with_some m m' p f n did is h =
      subst (λ (x : Option PendingGroup). MatchBool did (Acts (manages_of disks) (with_group m x) (Hangup n) (plain (pos 0)) (with_group m' x)) ((m' ≡ m) × AsksOne n (calls_in x))) (sym is)
      (hung_up_beside m m' f n did h)

  fewer_by : (was : Bool) (a b : ℕ) → was ≡ true → b + (if was then 1 else 0) ≡ a → b + 1 ≡ a
  fewer_by true a b e h = h
  fewer_by false a b e h = absurd (cc e)

  pub sessions_left : (m m' : Manager D) (f : PendingGroup) (n : ℕ) (did : Bool) → did ≡ true → (connected_to m).has n ≡ true
      → MatchBool did (AnsweredBeside disks m f (Hangup n) (plain (pos 0)) m' × Loses (connected_to m) n (connected_to m')) ((m' ≡ m) × (AsksNoneOf n f → ⊥))
      → (connected_to m').count + 1 ≡ (connected_to m).count
  sessions_left m m' f n true e was h = fewer_by ((connected_to m).has n) (connected_to m).count (connected_to m').count was h.1.count
  sessions_left m m' f n false e was h = absurd (cc e)

  -- what is said of the states that it stands for, with a group pending or without
  pub either_says : (m : Manager D) (p : Option PendingGroup) (s : State) (P : State → Type 0) → (ManagerStandsFor disks m s → P s) → ((f : PendingGroup) → IsPending disks m f s → P s)
      → StandsWith disks m p s → P s
  either_says m None s P alone_ beside_ h = alone_ h
  either_says m (Some f) s P alone_ beside_ h = beside_ f h

  -- ---- it is finished

  pub answered_group : (m m' : Manager D) (f : PendingGroup) (replies : List (ℕ × Reply)) → HasFinished disks m f replies m'
      → AnswersTogether (manages_of disks) (beside m f) (calls_of f).items replies (alone m')
  answered_group m m' f [] h = absurd h
  answered_group m m' f (r ∷ rs) h =
      let first = h.0 in
      let rest = h.1 in
      let a = h.2 in
      let are = h.3 in
      let per = h.5 in (
        a,
        record {
          told = all_told (calls_of f).items a (first ∷ rest) (r ∷ rs) are;
          unplaced = all_unplaced (calls_of f).items a (first ∷ rest) (r ∷ rs) are;
          leads = λ s st.
              let x = (per st.0 s st.1).leads in
              (x.0, subst (λ (es : List Entry). Leads s es x.0) (group_told s (calls_of f).items a first rest r rs are) x.1, x.2);
          called = λ s st log s' fl. (per log s' fl).called;
          crash = λ log s fl trusts.
              let y = (per log s fl).crash trusts in
              (y.0, subst (λ (es : List Entry). Leads s es y.0) (group_lost s (calls_of f).items a first rest r rs are) y.1, y.2);
          counted = λ s st. finished_rises m m' f a st.0 s st.1 (per st.0 s st.1).called h.4;
        },
      )
