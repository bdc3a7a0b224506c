-- The entries of a group that is refused.
use Rattle.std.proofs.Common.{◌≡◌, ℕ, ℤ, Bool, true, false, not, cond, List, [], ◌∷◌, ◌++◌, Some, None, refl, sym, ap, ◌∙◌, subst, arith}
use Rattle.std.specs.Prelude.{map}
use Rattle.std.specs.List.{AllByRecursion}
use Rattle.xa_codes.specs.Flags.{has}
use Rattle.xa_codes.specs.declared.codes.TheConstants.{XAER_RMERR, XA_RDONLY, XA_RETRY}
use Rattle.xa_codes.specs.declared.detail.Detail.TheVariants as detail
use Rattle.xa_codes.specs.declared.direction.Direction.{Direction}
use Rattle.xa_codes.specs.declared.direction.Direction.TheVariants as direction
use Rattle.xa_codes.specs.declared.flags.TheConstants.{TMONEPHASE}
use Rattle.xa_frame.specs.declared.reply.Reply.{Reply}
use Rattle.xa_frame.specs.declared.request.Request.{Request}
use Rattle.xa_frame.specs.declared.request.Request.TheVariants.{Prepare, Commit, Rollback, Forget, Decide}
use Rattle.xa_record.specs.declared.record.Record.{Record}
use Rattle.xa_record.specs.declared.record.Record.TheVariants as logged
use Rattle.xa_xid.specs.Triple.{Triple, xid_eq}
use Rattle.xa_model.specs.declared.event.Event.TheVariants as event
use Rattle.xa_model.specs.declared.outcome.Appending.{Appending}
use Rattle.xa_model.specs.declared.outcome.Appending.TheVariants.{Kept, Refused, Lost}
use Rattle.xa_model.specs.declared.outcome.Outcome.{Outcome}
use Rattle.xa_model.specs.declared.outcome.Outcome.TheVariants.{Quiet, Appended, Joined, Failed, Reread}
use Rattle.xa_model.specs.State.{State, Up, Known, Unknown, AtWork, InDoubt, Completed, count, known_as}
use Rattle.xa_model.specs.Answer.{Answer, plain, detailed, answer, ok}
use Rattle.xa_model.specs.Associations.{mark_in, timestamp_in}
use Rattle.xa_model.specs.Phases.{is_associated, unprepared_refusal, two_phase_refusal, rollback_refusal, heuristic_refusal, rolled_back, committed}
use Rattle.xa_model.specs.Completions.{prepare_turn, prepare_written, commit_one_phase_turn, commit_two_phase_turn, commit_written, rollback_turn, roll_back_turn, decide_refusal, decide_turn, forget_refusal, forget_turn}
use Rattle.xa_model.specs.Early.{early_refusal}
use Rattle.xa_model.specs.Fold.{is_empty}
use Rattle.xa_model.specs.History.{Entry, Leads, Steps, joins, append_in, JoinAfter}
use Rattle.xa_model.specs.Logging.{logs, has_room, log_full, writes_in}
use Rattle.xa_model.specs.Step.{turn, step, row, context_of}
use Rattle.xa_model.specs.Turn.{Happening, Asked, Turn, Nobody, Now, Appends, Checkpoints, Rereads, Joins, taken}
use Rattle.xa_model.specs.Invariants.Loggable.{IsRecoverable}
use Rattle.xa_model.specs.Laws.Logging.{KeepsLog, LogsWhatLasts}
use Rattle.xa_model.specs.Laws.Together.{xid_of, IsSameFor, refused_code, left_by, RefusedAlone, has_room_after, Part, AppendsOf, AreApart, HaveRoom, replied, entry_of, left_by_all, RefusedTogether, AsksWith, AskEach, RefusedNoOther, TellsOfOne}
use Rattle.xa_model.proofs.Further.{turns_up}
use Rattle.xa_model.proofs.GroupSteps.{asked_by, same_then, begins_none, all_itself}
use Rattle.xa_model.proofs.LoggedEvents.{events_log_what_lasts}
use Rattle.xa_model.proofs.LoggedTurns.{itself}
use Rattle.xa_model.proofs.OfTurns.{OfAppend, unless_append, marked_append, cond_append}
use Rattle.xa_model.proofs.Recoveries.{keeps_recoverable}
use Rattle.xa_model.proofs.RoomTogether.{room_where_refused}
use Rattle.xa_model.proofs.Together.{leaves_others, appends_the_same, finds_same}

-- what is answered where a record is refused, and what is left

abbrev Refuses : ℤ → State → Record → (Appending → Answer) → Type 0
Refuses code left r after = after Refused ≡ answer (detailed code detail.Device) left

module _ (s : State) (x : Triple) where
  prepare_refuses : OfAppend (Refuses XAER_RMERR s) (prepare_turn s x)
  prepare_refuses =
      let r = logged.Prepared x (timestamp_in s x) (writes_in s x) in
      let P = Refuses XAER_RMERR s in
      unless_append P (unprepared_refusal (known_as s x) (is_associated s x)) s _
      (marked_append P (mark_in (known_as s x)) (rolled_back s x) _
      (cond_append P (is_empty (writes_in s x)) (Now (answer (plain XA_RDONLY) (committed s x))) (prepare_written s x) tt
      (cond_append P (has_room s r 1) (logs s r XAER_RMERR s) (Now (log_full s x)) refl tt)))

  one_phase_refuses : OfAppend (Refuses XAER_RMERR (rolled_back s x)) (commit_one_phase_turn s x)
  one_phase_refuses =
      let r = logged.Committed x (timestamp_in s x) (writes_in s x) in
      let P = Refuses XAER_RMERR (rolled_back s x) in
      unless_append P (unprepared_refusal (known_as s x) (is_associated s x)) s _
      (marked_append P (mark_in (known_as s x)) (rolled_back s x) _
      (cond_append P (is_empty (writes_in s x)) (Now (ok (committed s x))) (commit_written s x) tt
      (cond_append P (has_room s r 0) (logs s r XAER_RMERR (rolled_back s x)) (Now (log_full s x)) refl tt)))

  two_phase_refuses : OfAppend (Refuses XA_RETRY s) (commit_two_phase_turn s x)
  two_phase_refuses =
      let P = Refuses XA_RETRY s in
      unless_append P (two_phase_refusal (known_as s x)) s _
      (unless_append P (heuristic_refusal (known_as s x)) s (logs s (logged.Completed x direction.Commit) XA_RETRY s) refl)

  commit_refuses : (c : Bool)
      → OfAppend (Refuses (cond c XAER_RMERR XA_RETRY) (cond c (rolled_back s x) s)) (cond c (commit_one_phase_turn s x) (commit_two_phase_turn s x))
  commit_refuses true = one_phase_refuses
  commit_refuses false = two_phase_refuses

  roll_back_refuses : (k : Known) → OfAppend (Refuses XAER_RMERR s) (roll_back_turn s x k)
  roll_back_refuses Unknown = tt
  roll_back_refuses (AtWork None) = tt
  roll_back_refuses (AtWork (Some code)) = tt
  roll_back_refuses InDoubt = refl
  roll_back_refuses (Completed way) = tt

  rollback_refuses : OfAppend (Refuses XAER_RMERR s) (rollback_turn s x)
  rollback_refuses =
      let P = Refuses XAER_RMERR s in
      unless_append P (rollback_refusal (known_as s x) (is_associated s x)) s _
      (unless_append P (heuristic_refusal (known_as s x)) s (roll_back_turn s x (known_as s x)) (roll_back_refuses (known_as s x)))

  decide_refuses : (way : Direction) → OfAppend (Refuses XAER_RMERR s) (decide_turn s way x)
  decide_refuses way =
      unless_append (Refuses XAER_RMERR s) (decide_refusal (known_as s x)) s (logs s (logged.Decided x way) XAER_RMERR s) refl

  forget_refuses : OfAppend (Refuses XAER_RMERR s) (forget_turn s x)
  forget_refuses = unless_append (Refuses XAER_RMERR s) (forget_refusal (known_as s x)) s (logs s (logged.Forgotten x) XAER_RMERR s) refl

row_refuses : (s : State) (n : ℕ) (request : Request) (xid : Triple) → xid_of request ≡ Some xid
    → OfAppend (Refuses (refused_code request) (left_by request s)) (row s n request)
row_refuses s n (Prepare flags x) xid e = prepare_refuses s x
row_refuses s n (Commit flags x) xid e = commit_refuses s x (has flags TMONEPHASE)
row_refuses s n (Rollback flags x) xid e = rollback_refuses s x
row_refuses s n (Forget flags x) xid e = forget_refuses s x
row_refuses s n (Decide way x) xid e = decide_refuses s x way
row_refuses s n request xid e = absurd (cc e)

turn_refuses : (s : State) (n : ℕ) (request : Request) (xid : Triple) → xid_of request ≡ Some xid → s.standing ≡ Up
    → OfAppend (Refuses (refused_code request) (left_by request s)) (turn s (Asked (event.Call n request)))
turn_refuses s n request xid e up =
    let P = Refuses (refused_code request) (left_by request s) in
    subst (OfAppend P) (sym (turns_up s (event.Call n request) up))
    (unless_append P (early_refusal (context_of s n) request) s (row s n request) (row_refuses s n request xid e))

pub refused_alone : RefusedAlone
refused_alone s n request xid r after e up appends =
    subst (OfAppend (Refuses (refused_code request) (left_by request s))) appends (turn_refuses s n request xid e up)

-- one after another

-- what a rollback leaves as it is, a refused call leaves so
left_same : {A : Type 0} (f : State → A) (s : State) (request : Request) → ((x : Triple) → f (rolled_back s x) ≡ f s) → f (left_by request s) ≡ f s
left_same f s (Commit flags x) same = by_phases (has flags TMONEPHASE)
  where
    by_phases : (c : Bool) → f (cond c (rolled_back s x) s) ≡ f s
    by_phases true = same x
    by_phases false = refl
left_same f s request same = refl

left_bytes : (request : Request) (s : State) → (left_by request s).log_bytes ≡ s.log_bytes
left_bytes request s = left_same (λ (t : State). t.log_bytes) s request (λ x. refl)

keeps_then : (s t u : State) → KeepsLog s t → KeepsLog t u → KeepsLog s u
keeps_then s t u h k = record {
  sound = k.sound;
  lasts = k.lasts ∙ h.lasts;
  end = k.end ∙ h.end;
  boot = k.boot ∙ h.boot;
  logged_boot = k.logged_boot ∙ h.logged_boot;
  open_records = k.open_records ∙ h.open_records;
  standing = k.standing ∙ h.standing;
}

-- some of the group's calls were refused, and the rest find what they found before
pub record Walk (s w : State) (ps : List Part) : Type 0 where
  pub recovers : IsRecoverable w
  pub keeps : KeepsLog s w
  pub log_bytes : w.log_bytes ≡ s.log_bytes
  pub same : AllByRecursion (λ (p : Part). IsSameFor p.xid s w) ps

-- what the next call's turn is
pub record RefusesNow (w : State) (p : Part) : Type 0 where
  pub after : Appending → Answer
  pub up : w.standing ≡ Up
  pub appends : turn w (Asked (asked_by p)) ≡ Appends p.appended after
  pub refuses : after Refused ≡ answer (replied Refused p.request) (left_by p.request w)
  pub keeps : KeepsLog w (left_by p.request w)

pub next_turn : (s w : State) (rs : List Record) (p : Part) (ps : List Part) → s.standing ≡ Up → Walk s w (p ∷ ps) → AppendsOf s p
    → has_room_after rs s p.appended ≡ true → RefusesNow w p
next_turn s w rs p ps up walk a room =
    let there = room_where_refused s w rs p.appended walk.log_bytes walk.keeps.end walk.keeps.lasts room in
    let (again, is) = appends_the_same s w p.session p.request p.xid p.appended a.after a.of_xid (finds_same p.session p.xid s w walk.same.0) up a.appends there in
    let still : w.standing ≡ Up = walk.keeps.standing ∙ up in
    let refuses = refused_alone w p.session p.request p.xid p.appended again a.of_xid still is in
    let l : LogsWhatLasts w (Appends p.appended again)
    = subst (LogsWhatLasts w) (sym (turns_up w (asked_by p) still) ∙ is)
    (events_log_what_lasts w (asked_by p) walk.keeps.sound (begins_none p.request p.xid a.of_xid)) in
    record { after = again; up = still; appends = is; refuses = refuses; keeps = subst (λ (b : Answer). KeepsLog w b.after) refuses l.2 }

all_same : (s w : State) (p : Part) (qs : List Part) → AppendsOf s p → RefusesNow w p
    → AllByRecursion (λ (q : Part). IsSameFor q.xid s w) qs → AllByRecursion (λ (q : Part). xid_eq p.xid q.xid ≡ false) qs
    → AllByRecursion (λ (q : Part). IsSameFor q.xid s (left_by p.request w)) qs
all_same s w p [] a t same apart = tt
all_same s w p (q ∷ qs) a t same apart = (
  same_then q.xid s w (left_by p.request w) same.0
      (subst (λ (b : Answer). IsSameFor q.xid w b.after) t.refuses
      (leaves_others w p.session p.request p.xid q.xid p.appended t.after a.of_xid apart.0 t.up t.appends).2),
  all_same s w p qs a t same.1 apart.1,
)

pub next_walk : (s w : State) (p : Part) (ps : List Part) → Walk s w (p ∷ ps) → AppendsOf s p → RefusesNow w p
    → AllByRecursion (λ (q : Part). xid_eq p.xid q.xid ≡ false) ps → Walk s (left_by p.request w) ps
next_walk s w p ps walk a t apart =
    let next = answer (replied Refused p.request) (left_by p.request w) in
    let steps : step w (Asked (asked_by p)) (Joined Refused) ≡ Some next
    = ap (λ (u : Turn). taken u (Joined Refused)) t.appends ∙ ap Some t.refuses in
    record {
      recovers = keeps_recoverable w (Asked (asked_by p)) (Joined Refused) next a.event walk.recovers steps;
      keeps = keeps_then s w (left_by p.request w) walk.keeps t.keeps;
      log_bytes = left_bytes p.request w ∙ walk.log_bytes;
      same = all_same s w p ps a t walk.same.1 apart;
    }

pub begins : (s : State) (ps : List Part) → IsRecoverable s → Walk s s ps
begins s ps h = record { recovers = h; keeps = itself s h.sound; log_bytes = refl; same = all_itself s ps }

refused_rest : (s w : State) (rs : List Record) (ps : List Part) → s.standing ≡ Up → Walk s w ps → AllByRecursion (AppendsOf s) ps → AreApart ps
    → HaveRoom s rs ps → Leads w (map (entry_of (Joined Refused) Refused) ps) (left_by_all ps w) × KeepsLog s (left_by_all ps w)
refused_rest s w rs [] up walk appends apart room = (refl, walk.keeps)
refused_rest s w rs (p ∷ ps) up walk appends apart room =
    let t = next_turn s w rs p ps up walk appends.0 room.0 in
    let next = left_by p.request w in
    let rest = refused_rest s next (rs ++ p.appended ∷ []) ps up (next_walk s w p ps walk appends.0 t apart.0) appends.1 apart.1 room.1 in
    ((next, ap (λ (u : Turn). taken u (Joined Refused)) t.appends ∙ ap Some t.refuses, rest.0), rest.1)

pub refused_together : RefusedTogether
refused_together s p ps h up m =
    let walk = begins s (p ∷ ps) h in
    let t = next_turn s s [] p ps up walk m.appends.0 m.room.0 in
    let next = left_by p.request s in
    let rest = refused_rest s next (p.appended ∷ []) ps up (next_walk s s p ps walk m.appends.0 t m.apart.0) m.appends.1 m.apart.1 m.room.1 in
    ((next, ap (λ (u : Turn). taken u (Appended Refused)) t.appends ∙ ap Some t.refuses, rest.0), rest.1)

-- no other way

one_answer : (a b : Answer) → Some a ≡ Some b → b ≡ a
one_answer a b e = let same : a ≡ b = cc e in sym same

only : (code : ℤ) (left : State) (t : Turn) (o : Outcome) (a : Answer) → OfAppend (Refuses code left) t → append_in o ≡ Some Refused
    → taken t o ≡ Some a → a ≡ answer (detailed code detail.Device) left
only code left t Quiet a h is e = absurd (cc is)
only code left t Failed a h is e = absurd (cc is)
only code left t (Reread k x) a h is e = absurd (cc is)
only code left t (Appended Kept) a h is e = absurd (cc is)
only code left t (Appended Lost) a h is e = absurd (cc is)
only code left t (Joined Kept) a h is e = absurd (cc is)
only code left t (Joined Lost) a h is e = absurd (cc is)
only code left Nobody (Appended Refused) a h is e = absurd h
only code left Nobody (Joined Refused) a h is e = absurd h
only code left (Now b) (Appended Refused) a h is e = absurd (cc e)
only code left (Now b) (Joined Refused) a h is e = absurd (cc e)
only code left (Appends r after) (Appended Refused) a h is e = one_answer (after Refused) a e ∙ h
only code left (Appends r after) (Joined Refused) a h is e = one_answer (after Refused) a e ∙ h
only code left (Checkpoints r after) (Appended Refused) a h is e = absurd h
only code left (Checkpoints r after) (Joined Refused) a h is e = absurd h
only code left (Rereads failed found) (Appended Refused) a h is e = absurd h
only code left (Rereads failed found) (Joined Refused) a h is e = absurd h
only code left (Joins refused r lost) (Appended Refused) a h is e = absurd h
only code left (Joins refused r lost) (Joined Refused) a h is e = absurd h

abbrev entry : Happening → Outcome → Reply → Entry
entry h o reply = record { happening = h; outcome = o; reply = reply }

one_refused : (s t : State) (p : Part) (e : Entry) (o : Outcome) → append_in o ≡ Some Refused → s.standing ≡ Up → xid_of p.request ≡ Some p.xid
    → AsksWith o p e → Steps s e t → (e ≡ entry_of o Refused p) × (t ≡ left_by p.request s)
one_refused s t p e o is up of_xid asks steps =
    let call = Asked (asked_by p) in
    let there : step s call o ≡ Some (answer e.reply t)
    = sym (ap (λ (h : Happening). step s h o) asks.0) ∙ sym (ap (λ (x : Outcome). step s e.happening x) asks.1) ∙ steps in
    let a : answer e.reply t ≡ answer (detailed (refused_code p.request) detail.Device) (left_by p.request s)
    = only (refused_code p.request) (left_by p.request s) (turn s call) o (answer e.reply t)
    (turn_refuses s p.session p.request p.xid of_xid up) is there in (
      ap (λ (h : Happening). entry h e.outcome e.reply) asks.0
          ∙ ap (λ (x : Outcome). entry call x e.reply) asks.1
          ∙ ap (λ (b : Answer). entry call o b.reply) a,
      ap (λ (b : Answer). b.after) a,
    )

left_standing : (request : Request) (s : State) → (left_by request s).standing ≡ s.standing
left_standing request s = left_same (λ (t : State). t.standing) s request (λ x. refl)

rest_refused : (s t : State) (ps : List Part) (es : List Entry) → s.standing ≡ Up → AllByRecursion (λ (q : Part). xid_of q.request ≡ Some q.xid) ps
    → AskEach (Joined Refused) ps es → Leads s es t → (es ≡ map (entry_of (Joined Refused) Refused) ps) × (t ≡ left_by_all ps s)
rest_refused s t [] [] up of_xids asks leads = (refl, leads)
rest_refused s t [] (e ∷ es) up of_xids asks leads = absurd asks
rest_refused s t (p ∷ ps) [] up of_xids asks leads = absurd asks
rest_refused s t (p ∷ ps) (e ∷ es) up of_xids asks leads =
    let mid = leads.0 in
    let one = one_refused s mid p e (Joined Refused) refl up of_xids.0 asks.0 leads.1 in
    let still : mid.standing ≡ Up = ap (λ (u : State). u.standing) one.1 ∙ left_standing p.request s ∙ up in
    let rest = rest_refused mid t ps es still of_xids.1 asks.1 leads.2 in (
      ap (λ (f : Entry). f ∷ es) one.0 ∙ ap (λ (l : List Entry). entry_of (Joined Refused) Refused p ∷ l) rest.0,
      rest.1 ∙ ap (left_by_all ps) one.1,
    )

pub refused_no_other : RefusedNoOther
refused_no_other s t p ps e es up of_xids asks more leads =
    let mid = leads.0 in
    let one = one_refused s mid p e (Appended Refused) refl up of_xids.0 asks leads.1 in
    let still : mid.standing ≡ Up = ap (λ (u : State). u.standing) one.1 ∙ left_standing p.request s ∙ up in
    let rest = rest_refused mid t ps es still of_xids.1 more leads.2 in (
      ap (λ (f : Entry). f ∷ es) one.0 ∙ ap (λ (l : List Entry). entry_of (Appended Refused) Refused p ∷ l) rest.0,
      rest.1 ∙ ap (left_by_all ps) one.1,
    )

-- one device call

rest_join : (a : Appending) (ps : List Part) → JoinAfter (Some a) (map (entry_of (Joined a) a) ps)
rest_join a [] = tt
rest_join a (p ∷ ps) = ((λ joined. refl), rest_join a ps)

none_alone : (a : Appending) (ps : List Part) → count (λ (e : Entry). not (joins e.outcome)) (map (entry_of (Joined a) a) ps) ≡ 0
none_alone a [] = refl
none_alone a (p ∷ ps) = let none = none_alone a ps in omega (arith, none)

pub tells_of_one : TellsOfOne
tells_of_one before a p ps = (((λ joined. cc joined), rest_join a ps), let none = none_alone a ps in omega (arith, none))
