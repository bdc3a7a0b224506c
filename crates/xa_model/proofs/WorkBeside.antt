-- What work on other branches, and marks of them, leave of a group's branch.
use Rattle.std.proofs.Common.{◌≡◌, ℕ, ℤ, ◌≤◌, Bool, true, false, cond, List, ◌∷◌, Option, Some, None, refl, sym}
use Rattle.std.proofs.Common.{◌∙◌, ap, subst, arith}
use Rattle.std.specs.Prelude.{is_some, nat_lt}
use Rattle.std.specs.List.{list_any}
use Rattle.std.proofs.lemmas.Bool.{lt-ltb}
use Rattle.xa_codes.specs.Flags.{has}
use Rattle.xa_codes.specs.declared.codes.TheConstants.{XA_RBTRANSIENT, XA_RBROLLBACK, XA_RBOTHER}
use Rattle.xa_codes.specs.declared.flags.TheConstants.{TMONEPHASE}
use Rattle.xa_frame.specs.declared.reply.Reply.{Reply}
use Rattle.xa_frame.specs.declared.request.Request.{Request}
use Rattle.xa_frame.specs.declared.request.Request.TheVariants.{Prepare, Commit, Rollback, Forget, Decide}
use Rattle.xa_xid.specs.Triple.{Triple, xid_eq}
use Rattle.xa_xid.proofs.Same.{xid_same}
use Rattle.xa_model.specs.declared.event.Event.TheVariants as event
use Rattle.xa_model.specs.State.{State, Association, Holder, Active, Branch, Phase, Working, Prepared, Committed}
use Rattle.xa_model.specs.State.{Operation, Got, Wrote, Up, Known, AtWork, known_as, known_among, known_by}
use Rattle.xa_model.specs.State.{known_of, decided_of, is_known_as, is_with, is_working, is_at_work, own_branch}
use Rattle.xa_model.specs.State.{holders_of, owns, works_in, suspends, is_loose, is_loose_with, is_own}
use Rattle.xa_model.specs.State.{is_active, is_suspended, change, without}
use Rattle.xa_model.specs.Source.{source}
use Rattle.xa_model.specs.Answer.{Answer, ok}
use Rattle.xa_model.specs.Associations.{with_mark, held_by, begun}
use Rattle.xa_model.specs.Associations.{resumable}
use Rattle.xa_model.specs.Associations.{start_by}
use Rattle.xa_model.specs.Associations.{without_one, ended, failed, end_by}
use Rattle.xa_model.specs.Phases.{is_associated, unprepared_refusal, two_phase_refusal, rollback_refusal, doom_refusal, doomed, doom_by}
use Rattle.xa_model.specs.Data.{having_done, did, got, get_by}
use Rattle.xa_model.specs.Data.{came_late, written, put_by}
use Rattle.xa_model.specs.Completions.{prepare_turn, commit_one_phase_turn, commit_two_phase_turn, rollback_turn}
use Rattle.xa_model.specs.Completions.{decide_refusal, forget_refusal}
use Rattle.xa_model.specs.Early.{early_refusal}
use Rattle.xa_model.specs.Step.{row, respond, context_of, record_in}
use Rattle.xa_model.specs.Turn.{Turn, Appends, unless_now}
use Rattle.xa_model.specs.Invariants.Sound.{IsSound}
use Rattle.xa_model.specs.Laws.Together.{xid_of, IsSameFor, Part, AppendsOf}
use Rattle.xa_model.proofs.Counts.{count_same, count_apart}
use Rattle.xa_model.proofs.Further.{turns_up}
use Rattle.xa_model.proofs.Lists.{find_change_other}
use Rattle.xa_model.proofs.Marks.{mark_keeps}
use Rattle.xa_model.proofs.MovingRows.{own, counted}
use Rattle.xa_model.proofs.Names.{called_apart}
use Rattle.xa_model.proofs.OfAnswers.{unless_after}
use Rattle.xa_model.proofs.Together.{same_for, itself}
use Rattle.xa_model.proofs.Xids.{both_true, xid_apart}
use Rattle.xa_model.proofs.OfRows.{start_after, end_after, get_after, put_after}

-- what it leaves of another branch

abbrev pub Spares : Triple → State → Answer → Type 0
Spares other s a = IsSameFor other s a.after

of_resumable : (c : Bool) (n : ℕ) (x : Triple) (a : Association) → cond c (suspends n x a) (is_loose_with x a) ≡ true
    → xid_eq a.xid x ≡ true
of_resumable true n x a is = (both_true (is_suspended n a.holder) (xid_eq a.xid x) is).1
of_resumable false n x a is = (both_true (is_loose a.holder) (xid_eq a.xid x) is).1

module _ (s : State) (x other : Triple) (apart : xid_eq x other ≡ false) where
  -- another branch stays where the one with this XID changes, and keeps its name
  changed : (f : Branch → Branch) → ((b : Branch) → is_known_as other (f b) ≡ is_known_as other b)
      → known_of (change (is_known_as x) f s.branches) other ≡ known_of s.branches other
  changed f keeps =
      find_change_other (is_known_as x) (is_known_as other) f
      (λ b is. (called_apart x other b apart is, keeps b ∙ called_apart x other b apart is)) s.branches

  marks : (code : ℤ) → known_of (change (is_known_as x) (with_mark code) s.branches) other ≡ known_of s.branches other
  marks code = changed (with_mark code) (λ b. ap (is_with other) ((mark_keeps code).name b))

  -- and so do the associations with it

  one_more : (n : ℕ) → holders_of (record { xid = x; holder = Active n } ∷ s.associations) other ≡ holders_of s.associations other
  one_more n = rw apart (omega arith)

  leave : (p : Association → Bool) → ((a : Association) → p a ≡ true → xid_eq a.xid x ≡ true)
      → holders_of (without p s.associations) other ≡ holders_of s.associations other
  leave p of_x =
      count_apart p (λ (a : Association). xid_eq a.xid other) (λ a is. xid_apart a.xid x other (of_x a is) apart) s.associations

  leave_one : (n : ℕ) (c : Bool)
      → holders_of (cond c (without (owns n x) s.associations) (without (is_loose_with x) s.associations)) other
      ≡ holders_of s.associations other
  leave_one n true = leave (owns n x) (λ a is. (both_true (is_own n a.holder) (xid_eq a.xid x) is).1)
  leave_one n false = leave (is_loose_with x) (λ a is. (both_true (is_loose a.holder) (xid_eq a.xid x) is).1)

  held : (associations : List Association) → holders_of associations other ≡ holders_of s.associations other
      → IsSameFor other s (record s { associations = associations })
  held associations same =
      same_for other s (record s { associations = associations }) refl refl (ap (λ (k : ℕ). nat_lt 0 k) same) refl refl refl refl

  handed : (p : Association → Bool) (holder : Holder)
      → IsSameFor other s (record s { associations = change p (held_by holder) s.associations })
  handed p holder =
      held (change p (held_by holder) s.associations)
      (count_same p (held_by holder) (λ (a : Association). xid_eq a.xid other) (λ a. refl) s.associations)

  begins : (n : ℕ) → Spares other s (begun s n x)
  begins n =
      same_for other s (begun s n x).after (rw apart refl) refl (ap (λ (k : ℕ). nat_lt 0 k) (one_more n)) refl refl refl refl

  pub start_spares : (n flags : ℕ) → Spares other s (start_by s n flags x)
  start_spares n flags =
      start_after (IsSameFor other s) s (itself other s) n flags x (held _ (one_more n))
      (held _ (leave (resumable s.associations n x) (λ a is. of_resumable (list_any (suspends n x) s.associations) n x a is)))
      (handed (resumable s.associations n x) (Active n)) (λ none. begins n)

  ends : (n : ℕ) → IsSameFor other s (ended s n x)
  ends n = held (without_one s.associations n x) (leave_one n (list_any (owns n x) s.associations))

  fails_so : (n : ℕ) → Spares other s (failed s n x)
  fails_so n = same_for other s (failed s n x).after (marks XA_RBROLLBACK) refl (ends n).associated refl refl refl refl

  pub end_spares : (n flags : ℕ) → Spares other s (end_by s n flags x)
  end_spares n flags =
      end_after (IsSameFor other s) s (itself other s) n flags x (held _ (leave (works_in n x) (λ a is. (both_true (is_active n a.holder) (xid_eq a.xid x) is).1)))
      (λ migrates none. handed (works_in n x) _) (ends n) (fails_so n)

  -- an operator's mark

  pub doom_spares : Spares other s (doom_by s x)
  doom_spares =
      unless_after (IsSameFor other s) (doom_refusal (known_as s x)) s (ok (doomed s x)) (itself other s)
      (λ none. same_for other s (doomed s x) (marks XA_RBOTHER) refl refl refl refl refl refl)

  -- gets and puts

  does : (op : Operation) → known_of (did x op s.branches) other ≡ known_of s.branches other
  does op = changed (having_done op) (λ b. refl)

  get_spares : (key : List ℕ) (b : Branch) → Spares other s (get_by s key (Some (x, b)))
  get_spares key b =
      let v = source key b.timestamp s.branches in
      get_after (IsSameFor other s) s (itself other s) key x b
      (λ none. same_for other s (got s key x b v).after (does (Got key v.value v.timestamp)) refl refl refl refl refl refl)

  put_spares : (key : List ℕ) (value : Option (List ℕ)) (b : Branch) → Spares other s (put_by s key value (Some (x, b)))
  put_spares key value b =
      put_after (IsSameFor other s) s (itself other s) key value x b
      (same_for other s (came_late s x).after (marks XA_RBTRANSIENT) refl refl refl refl refl refl)
      (λ none timely. same_for other s (written s key value x).after (does (Wrote key value)) refl refl refl refl refl refl)

-- A session's own branch is associated and at work, so that no record is appended of it.

unless_none : (o : Option Reply) (s : State) (t : Turn) → record_in t ≡ None → record_in (unless_now o s t) ≡ None
unless_none None s t e = e
unless_none (Some reply) s t e = refl

refused_none : (o : Option Reply) (s : State) (t : Turn) → is_some o ≡ true → record_in (unless_now o s t) ≡ None
refused_none None s t e = absurd (cc e)
refused_none (Some reply) s t e = refl

module _ (s : State) (x : Triple) (mark : Option ℤ) (known : known_as s x ≡ AtWork mark) (held : is_associated s x ≡ true) where
  unprepared : is_some (unprepared_refusal (known_as s x) (is_associated s x)) ≡ true
  unprepared =
      subst (λ (k : Known). is_some (unprepared_refusal k (is_associated s x)) ≡ true) (sym known)
      (subst (λ (c : Bool). is_some (unprepared_refusal (AtWork mark) c) ≡ true) (sym held) refl)

  not_rolled_back : is_some (rollback_refusal (known_as s x) (is_associated s x)) ≡ true
  not_rolled_back =
      subst (λ (k : Known). is_some (rollback_refusal k (is_associated s x)) ≡ true) (sym known)
      (subst (λ (c : Bool). is_some (rollback_refusal (AtWork mark) c) ≡ true) (sym held) refl)

  in_one_phase : (c : Bool) → record_in (cond c (commit_one_phase_turn s x) (commit_two_phase_turn s x)) ≡ None
  in_one_phase true = refused_none (unprepared_refusal (known_as s x) (is_associated s x)) s _ unprepared
  in_one_phase false =
      refused_none (two_phase_refusal (known_as s x)) s _
      (subst (λ (k : Known). is_some (two_phase_refusal k) ≡ true) (sym known) refl)

  of_named : (f : Triple → Turn) (y : Triple) → Some y ≡ Some x → record_in (f x) ≡ None → record_in (f y) ≡ None
  of_named f y e none = let same : y ≡ x = cc e in subst (λ (z : Triple). record_in (f z) ≡ None) (sym same) none

  row_none : (n : ℕ) (request : Request) → xid_of request ≡ Some x → record_in (row s n request) ≡ None
  row_none n (Prepare flags y) e =
      of_named (prepare_turn s) y e (refused_none (unprepared_refusal (known_as s x) (is_associated s x)) s _ unprepared)
  row_none n (Commit flags y) e = of_named (λ z. row s n (Commit flags z)) y e (in_one_phase (has flags TMONEPHASE))
  row_none n (Rollback flags y) e =
      of_named (rollback_turn s) y e (refused_none (rollback_refusal (known_as s x) (is_associated s x)) s _ not_rolled_back)
  row_none n (Forget flags y) e =
      of_named (λ z. row s n (Forget flags z)) y e
      (refused_none (forget_refusal (known_as s x)) s _ (subst (λ (k : Known). is_some (forget_refusal k) ≡ true) (sym known) refl))
  row_none n (Decide way y) e =
      of_named (λ z. row s n (Decide way z)) y e
      (refused_none (decide_refusal (known_as s x)) s _ (subst (λ (k : Known). is_some (decide_refusal k) ≡ true) (sym known) refl))
  row_none n request e = absurd (cc e)

known_working : (p : Phase) → is_working p ≡ true → (mark : Option ℤ) × (known_by p ≡ AtWork mark)
known_working (Working x work) is = (work.mark, refl)
known_working (Prepared x) is = absurd (cc is)
known_working Committed is = absurd (cc is)

-- so a branch of the group isn't associated
of_known : (s : State) (x : Triple) (o : Option Branch) → known_of s.branches x ≡ o → is_at_work o ≡ true
    → (mark : Option ℤ) × (known_as s x ≡ AtWork mark)
of_known s x None found is = absurd (cc is)
of_known s x (Some b) found is =
    let (mark, works) = known_working b.phase is in
    (mark, ap (λ (f : Option Branch). known_among f (decided_of s.decided x)) found ∙ works)

held_works : (s : State) (x : Triple) (c : Bool) → IsSound s → is_at_work (known_of s.branches x) ≡ c
    → is_associated s x ≡ true → (mark : Option ℤ) × (known_as s x ≡ AtWork mark)
held_works s x true h e held = of_known s x (known_of s.branches x) refl e
held_works s x false h e held = let none = ap (λ (k : ℕ). nat_lt 0 k) (h.bound x e) in absurd (cc (held, none))

never_held : (s : State) (q : Part) → IsSound s → s.standing ≡ Up → AppendsOf s q → is_associated s q.xid ≡ true → ⊥
never_held s q h up a held =
    let (mark, known) = held_works s q.xid (is_at_work (known_of s.branches q.xid)) h refl held in
    let none : record_in (respond s (event.Call q.session q.request)) ≡ None
    = unless_none (early_refusal (context_of s q.session) q.request) s (row s q.session q.request)
    (row_none s q.xid mark known held q.session q.request a.of_xid) in
    let here : respond s (event.Call q.session q.request) ≡ Appends q.appended a.after
    = sym (turns_up s (event.Call q.session q.request) up) ∙ a.appends in
    absurd (cc (none, ap record_in here))

idle_by : (s : State) (q : Part) (c : Bool) → is_associated s q.xid ≡ c → IsSound s → s.standing ≡ Up → AppendsOf s q
    → is_associated s q.xid ≡ false
idle_by s q false e h up a = e
idle_by s q true e h up a = absurd (never_held s q h up a e)

pub idle : (s : State) (q : Part) → IsSound s → s.standing ≡ Up → AppendsOf s q → is_associated s q.xid ≡ false
idle s q h up a = idle_by s q (is_associated s q.xid) refl h up a

-- and the session's own isn't one
own_apart : (s : State) (n : ℕ) (x : Triple) (b : Branch) (q : Part) (c : Bool) → xid_eq x q.xid ≡ c → IsSound s
    → s.standing ≡ Up → AppendsOf s q → own_branch s n ≡ Some (x, b) → xid_eq x q.xid ≡ false
own_apart s n x b q false e h up a is = e
own_apart s n x b q true e h up a is =
    let o = own s n x b is in
    let some : 1 ≤ holders_of s.associations x = counted (λ a. is_active n a.holder) x s.associations o.active in
    let held : is_associated s x ≡ true = lt-ltb 0 (holders_of s.associations x) (omega arith) in
    absurd (never_held s q h up a (subst (λ (y : Triple). is_associated s y ≡ true) (xid_same x q.xid e) held))

module _ (s : State) (n : ℕ) (q : Part) (h : IsSound s) (up : s.standing ≡ Up) (appends : AppendsOf s q) where
  pub get_by_own : (key : List ℕ) (o : Option (Triple × Branch)) → own_branch s n ≡ o → Spares q.xid s (get_by s key o)
  get_by_own key None e = itself q.xid s
  get_by_own key (Some (x, b)) e = get_spares s x q.xid (own_apart s n x b q (xid_eq x q.xid) refl h up appends e) key b

  pub put_by_own : (key : List ℕ) (value : Option (List ℕ)) (o : Option (Triple × Branch)) → own_branch s n ≡ o
      → Spares q.xid s (put_by s key value o)
  put_by_own key value None e = itself q.xid s
  put_by_own key value (Some (x, b)) e =
      put_spares s x q.xid (own_apart s n x b q (xid_eq x q.xid) refl h up appends e) key value b
