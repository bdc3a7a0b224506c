-- Calls on different XIDs: what the record of one does leaves what another looks at, and so its record, the same.
use Rattle.std.proofs.Common.{◌≡◌, ℕ, ℤ, Bool, true, false, cond, List, ◌∷◌, Option, Some, None, refl, sym, ap, ◌∙◌, subst}
use Rattle.std.specs.Prelude.{pos, option_map}
use Rattle.xa_codes.specs.Flags.{has}
use Rattle.xa_codes.specs.declared.codes.TheConstants.{XAER_RMERR, XA_RETRY, XA_RDONLY}
use Rattle.xa_codes.specs.declared.direction.Direction.{Direction}
use Rattle.xa_codes.specs.declared.direction.Direction.TheVariants as direction
use Rattle.xa_codes.specs.declared.flags.TheConstants.{TMONEPHASE}
use Rattle.xa_codes.specs.declared.write.Write.{Write}
use Rattle.xa_frame.specs.declared.reply.Reply.{Reply}
use Rattle.xa_frame.specs.declared.request.Request.{Request}
use Rattle.xa_frame.specs.declared.request.Request.TheVariants.{Prepare, Commit, Rollback, Forget, Decide}
use Rattle.xa_record.specs.declared.record.Record.{Record}
use Rattle.xa_record.specs.declared.record.Record.TheVariants as logged
use Rattle.xa_xid.specs.Triple.{Triple, xid_eq}
use Rattle.xa_xid.proofs.Same.{xid_same}
use Rattle.xa_model.specs.declared.event.Event.TheVariants as event
use Rattle.xa_model.specs.declared.outcome.Appending.{Appending}
use Rattle.xa_model.specs.declared.outcome.Appending.TheVariants.{Kept, Refused}
use Rattle.xa_model.specs.State.{State, Session, Branch, Decided, Standing, Up, Known, Unknown, AtWork, InDoubt, Completed, known_as, known_among, known_of, decided_of, is_known_as, session_of, change, without}
use Rattle.xa_model.specs.Answer.{Answer, plain, answer, ok}
use Rattle.xa_model.specs.Associations.{mark_in, timestamp_by, timestamp_in}
use Rattle.xa_model.specs.Phases.{as_committed, as_prepared, is_associated, is_decision_of, unprepared_refusal, two_phase_refusal, rollback_refusal, heuristic_refusal, rolled_back, committed}
use Rattle.xa_model.specs.Completions.{prepare_turn, commit_one_phase_turn, commit_two_phase_turn, rollback_turn, roll_back_turn, decide_refusal, decide_turn, forget_refusal, forget_turn}
use Rattle.xa_model.specs.Early.{Context, early_refusal}
use Rattle.xa_model.specs.Fold.{is_empty}
use Rattle.xa_model.specs.Logging.{applied, logs, has_room, log_full, writes_by, writes_in}
use Rattle.xa_model.specs.Step.{turn, row, respond, is_up, context_of, opened_of, record_in}
use Rattle.xa_model.specs.Turn.{Asked, Turn, Now, Appends, unless_now, marked_now}
use Rattle.xa_model.specs.Laws.Together.{xid_of, IsSameFor, FindsSame, has_room_for, LeavesOthers, AtOnceLeavesOthers, AppendsTheSame}
use Rattle.xa_model.proofs.Doubts.{prepared_known}
use Rattle.xa_model.proofs.Finds.{find_without}
use Rattle.xa_model.proofs.Further.{recorded, turns_up}
use Rattle.xa_model.proofs.Lists.{find_change_other}
use Rattle.xa_model.proofs.Names.{called_apart}
use Rattle.xa_model.proofs.OfTurns.{OfTurn, unless_turn, marked_turn, cond_turn}

-- what a record leaves

pub same_for : (other : Triple) (s t : State) → known_of t.branches other ≡ known_of s.branches other → decided_of t.decided other ≡ decided_of s.decided other
    → is_associated t other ≡ is_associated s other → t.sessions ≡ s.sessions → t.name ≡ s.name → t.moment ≡ s.moment → t.standing ≡ s.standing → IsSameFor other s t
same_for other s t known decided held sessions name moment standing = record {
  known = known;
  decided = decided;
  associated = held;
  sessions = sessions;
  name = name;
  moment = moment;
  standing = standing;
}

pub itself : (other : Triple) (s : State) → IsSameFor other s s
itself other s = same_for other s s refl refl refl refl refl refl refl

module _ (s : State) (xid other : Triple) (apart : xid_eq xid other ≡ false) where
  prepares : known_of (change (is_known_as xid) as_prepared s.branches) other ≡ known_of s.branches other
  prepares =
      find_change_other (is_known_as xid) (is_known_as other) as_prepared
      (λ b is. (called_apart xid other b apart is, prepared_known other b ∙ called_apart xid other b apart is)) s.branches

  commits : known_of (change (is_known_as xid) as_committed s.branches) other ≡ known_of s.branches other
  commits =
      find_change_other (is_known_as xid) (is_known_as other) as_committed (λ b is. (called_apart xid other b apart is, refl)) s.branches

  leaves : known_of (without (is_known_as xid) s.branches) other ≡ known_of s.branches other
  leaves = find_without (is_known_as xid) (is_known_as other) (λ b is. called_apart xid other b apart is) s.branches

  rolled : IsSameFor other s (rolled_back s xid)
  rolled = same_for other s (rolled_back s xid) leaves refl refl refl refl refl refl

  read_only : IsSameFor other s (committed s xid)
  read_only = same_for other s (committed s xid) commits refl refl refl refl refl refl

  other_decided : (way : Direction) → decided_of (record { xid = xid; direction = way } ∷ s.decided) other ≡ decided_of s.decided other
  other_decided way = rw apart refl

  forgets : decided_of (without (is_decision_of xid) s.decided) other ≡ decided_of s.decided other
  forgets =
      ap (option_map (λ (d : Decided). d.direction))
      (find_without (is_decision_of xid) (λ (d : Decided). xid_eq d.xid other) (λ d is. subst (λ (x : Triple). xid_eq x other ≡ false) (sym (xid_same d.xid xid is)) apart) s.decided)

  prepared_same : (t : ℕ) (ws : List Write) → IsSameFor other s (applied (logged.Prepared xid t ws) s)
  prepared_same t ws = same_for other s _ prepares refl refl refl refl refl refl

  committed_same : (t : ℕ) (ws : List Write) → IsSameFor other s (applied (logged.Committed xid t ws) s)
  committed_same t ws = same_for other s _ commits refl refl refl refl refl refl

  completed_same : (way : Direction) → IsSameFor other s (applied (logged.Completed xid way) s)
  completed_same direction.Commit = same_for other s _ commits refl refl refl refl refl refl
  completed_same direction.Rollback = same_for other s _ leaves refl refl refl refl refl refl

  decided_same : (way : Direction) → IsSameFor other s (applied (logged.Decided xid way) s)
  decided_same direction.Commit = same_for other s _ commits (other_decided direction.Commit) refl refl refl refl refl
  decided_same direction.Rollback = same_for other s _ leaves (other_decided direction.Rollback) refl refl refl refl refl

  forgotten_same : IsSameFor other s (applied (logged.Forgotten xid) s)
  forgotten_same = same_for other s _ refl forgets refl refl refl refl refl

-- what a turn leaves

abbrev Leaves : Triple → State → Answer → Type 0
Leaves other s a = IsSameFor other s a.after × (a.after.log_bytes ≡ s.log_bytes)

abbrev Spares : Triple → State → Record → (Appending → Answer) → Type 0
Spares other s r after = (after Kept ≡ ok (applied r s)) × IsSameFor other s (applied r s) × IsSameFor other s (after Refused).after

abbrev SparesAll : Triple → State → Turn → Type 0
SparesAll other s t = OfTurn (Leaves other s) (Spares other s) t

unless_spares : (other : Triple) (o : Option Reply) (s : State) (t : Turn) → SparesAll other s t → SparesAll other s (unless_now o s t)
unless_spares other o s t h = unless_turn (Leaves other s) (Spares other s) o s t (λ reply. (itself other s, refl)) h

module _ (s : State) (x other : Triple) (apart : xid_eq x other ≡ false) where
  gone : Leaves other s (answer (plain XA_RDONLY) (rolled_back s x))
  gone = (rolled s x other apart, refl)

  marked_spares : (o : Option ℤ) (t : Turn) → SparesAll other s t → SparesAll other s (marked_now o (rolled_back s x) t)
  marked_spares o t h = marked_turn (Leaves other s) (Spares other s) o (rolled_back s x) t (λ code. gone) h

  -- a branch without writes is committed; one for whose record there is no room is rolled back
  written_spares : (empty room : Bool) (reply full : Reply) (u : Turn) → SparesAll other s u
      → SparesAll other s (cond empty (Now (answer reply (committed s x))) (cond room u (Now (answer full (rolled_back s x)))))
  written_spares empty room reply full u h =
      cond_turn (Leaves other s) (Spares other s) empty _ _ (read_only s x other apart, refl)
      (cond_turn (Leaves other s) (Spares other s) room u _ h gone)

  prepare_spares : SparesAll other s (prepare_turn s x)
  prepare_spares =
      let r = logged.Prepared x (timestamp_in s x) (writes_in s x) in
      unless_spares other (unprepared_refusal (known_as s x) (is_associated s x)) s _
      (marked_spares (mark_in (known_as s x)) _
      (written_spares (is_empty (writes_in s x)) (has_room s r 1) (plain XA_RDONLY) (log_full s x).reply (logs s r XAER_RMERR s)
      (refl, prepared_same s x other apart (timestamp_in s x) (writes_in s x), itself other s)))

  one_phase_spares : SparesAll other s (commit_one_phase_turn s x)
  one_phase_spares =
      let r = logged.Committed x (timestamp_in s x) (writes_in s x) in
      unless_spares other (unprepared_refusal (known_as s x) (is_associated s x)) s _
      (marked_spares (mark_in (known_as s x)) _
      (written_spares (is_empty (writes_in s x)) (has_room s r 0) (plain (pos 0)) (log_full s x).reply (logs s r XAER_RMERR (rolled_back s x))
      (refl, committed_same s x other apart (timestamp_in s x) (writes_in s x), rolled s x other apart)))

  two_phase_spares : SparesAll other s (commit_two_phase_turn s x)
  two_phase_spares =
      unless_spares other (two_phase_refusal (known_as s x)) s _
      (unless_spares other (heuristic_refusal (known_as s x)) s (logs s (logged.Completed x direction.Commit) XA_RETRY s)
      (refl, completed_same s x other apart direction.Commit, itself other s))

  roll_back_spares : (k : Known) → SparesAll other s (roll_back_turn s x k)
  roll_back_spares Unknown = gone
  roll_back_spares (AtWork None) = gone
  roll_back_spares (AtWork (Some code)) = gone
  roll_back_spares InDoubt = (refl, completed_same s x other apart direction.Rollback, itself other s)
  roll_back_spares (Completed way) = gone

  rollback_spares : SparesAll other s (rollback_turn s x)
  rollback_spares =
      unless_spares other (rollback_refusal (known_as s x) (is_associated s x)) s _
      (unless_spares other (heuristic_refusal (known_as s x)) s (roll_back_turn s x (known_as s x)) (roll_back_spares (known_as s x)))

  decide_spares : (way : Direction) → SparesAll other s (decide_turn s way x)
  decide_spares way =
      unless_spares other (decide_refusal (known_as s x)) s (logs s (logged.Decided x way) XAER_RMERR s)
      (refl, decided_same s x other apart way, itself other s)

  forget_spares : SparesAll other s (forget_turn s x)
  forget_spares =
      unless_spares other (forget_refusal (known_as s x)) s (logs s (logged.Forgotten x) XAER_RMERR s)
      (refl, forgotten_same s x other apart, itself other s)

of_xid : (x xid other : Triple) → Some x ≡ Some xid → xid_eq xid other ≡ false → xid_eq x other ≡ false
of_xid x xid other e apart = let same : x ≡ xid = cc e in subst (λ (y : Triple). xid_eq y other ≡ false) (sym same) apart

row_spares : (s : State) (n : ℕ) (request : Request) (xid other : Triple) → xid_of request ≡ Some xid → xid_eq xid other ≡ false
    → SparesAll other s (row s n request)
row_spares s n (Prepare flags x) xid other e apart = prepare_spares s x other (of_xid x xid other e apart)
row_spares s n (Commit flags x) xid other e apart =
    cond_turn (Leaves other s) (Spares other s) (has flags TMONEPHASE) (commit_one_phase_turn s x) (commit_two_phase_turn s x)
    (one_phase_spares s x other (of_xid x xid other e apart)) (two_phase_spares s x other (of_xid x xid other e apart))
row_spares s n (Rollback flags x) xid other e apart = rollback_spares s x other (of_xid x xid other e apart)
row_spares s n (Forget flags x) xid other e apart = forget_spares s x other (of_xid x xid other e apart)
row_spares s n (Decide way x) xid other e apart = decide_spares s x other (of_xid x xid other e apart) way
row_spares s n request xid other e apart = absurd (cc e)

turn_spares : (s : State) (n : ℕ) (request : Request) (xid other : Triple) → xid_of request ≡ Some xid → xid_eq xid other ≡ false → s.standing ≡ Up
    → SparesAll other s (turn s (Asked (event.Call n request)))
turn_spares s n request xid other e apart up =
    subst (SparesAll other s) (sym (turns_up s (event.Call n request) up))
    (unless_spares other (early_refusal (context_of s n) request) s (row s n request) (row_spares s n request xid other e apart))

pub leaves_others : LeavesOthers
leaves_others s n request xid other r after e apart up appends = subst (SparesAll other s) appends (turn_spares s n request xid other e apart up)

pub at_once_leaves : (s : State) (n : ℕ) (request : Request) (xid other : Triple) (a : Answer) → xid_of request ≡ Some xid → xid_eq xid other ≡ false
    → s.standing ≡ Up → turn s (Asked (event.Call n request)) ≡ Now a → Leaves other s a
at_once_leaves s n request xid other a e apart up now = subst (SparesAll other s) now (turn_spares s n request xid other e apart up)

pub at_once_leaves_others : AtOnceLeavesOthers
at_once_leaves_others s n request xid other a e apart up now = (at_once_leaves s n request xid other a e apart up now).0

-- what a call finds the same

module _ (n : ℕ) (xid : Triple) (s t : State) (h : FindsSame n xid s t) where
  same_known : known_as t xid ≡ known_as s xid
  same_known =
      ap (λ (o : Option Branch). known_among o (decided_of t.decided xid)) h.known
      ∙ ap (λ (d : Option Direction). known_among (known_of s.branches xid) d) h.decided

  same_time : timestamp_in t xid ≡ timestamp_in s xid
  same_time = ap timestamp_by h.known

  same_writes : writes_in t xid ≡ writes_in s xid
  same_writes = ap writes_by h.known

-- the call's refusals look at no moment
timeless : (c : Context) (moment : ℕ) (request : Request) (xid : Triple) → xid_of request ≡ Some xid
    → early_refusal (record c { moment = moment }) request ≡ early_refusal c request
timeless c moment (Prepare flags x) xid e = refl
timeless c moment (Commit flags x) xid e = refl
timeless c moment (Rollback flags x) xid e = refl
timeless c moment (Forget flags x) xid e = refl
timeless c moment (Decide way x) xid e = refl
timeless c moment request xid e = absurd (cc e)

abbrev context_by : Standing → List ℕ → ℕ → Option Bool → Context
context_by standing name moment session = record { up = is_up standing; name = name; moment = moment; session = session }

same_early : (n : ℕ) (xid : Triple) (s t : State) (request : Request) → xid_of request ≡ Some xid → FindsSame n xid s t
    → early_refusal (context_of t n) request ≡ early_refusal (context_of s n) request
same_early n xid s t request e h =
    ap (λ (p : Standing). early_refusal (context_by p t.name t.moment (opened_of t n)) request) h.standing
    ∙ ap (λ (name : List ℕ). early_refusal (context_by s.standing name t.moment (opened_of t n)) request) h.name
    ∙ ap (λ (o : Option Bool). early_refusal (context_by s.standing s.name t.moment o) request) h.opened
    ∙ timeless (context_of s n) t.moment request xid e

pub finds_same : (n : ℕ) (xid : Triple) (s t : State) → IsSameFor xid s t → FindsSame n xid s t
finds_same n xid s t h = record {
  known = h.known;
  decided = h.decided;
  associated = h.associated;
  opened = ap (λ (xs : List Session). option_map (λ x. x.opened) (session_of xs n)) h.sessions;
  name = h.name;
  standing = h.standing;
}

-- and appends

abbrev Again : State → Turn → Turn → Type 0
Again t (Appends r after) u = has_room_for t r ≡ true → record_in u ≡ Some r
Again t _ u = Unit {0}

unless_again : (o : Option Reply) (s t : State) (u w : Turn) → Again t u w → Again t (unless_now o s u) (unless_now o t w)
unless_again None s t u w h = h
unless_again (Some reply) s t u w h = tt

marked_again : (o : Option ℤ) (t a b : State) (u w : Turn) → Again t u w → Again t (marked_now o a u) (marked_now o b w)
marked_again None t a b u w h = h
marked_again (Some code) t a b u w h = tt

cond_again : (c : Bool) (t : State) (u v w x : Turn) → Again t u w → Again t v x → Again t (cond c u v) (cond c w x)
cond_again true t u v w x h k = h
cond_again false t u v w x h k = k

room_again : (c d : Bool) (s t : State) (r : Record) (code : ℤ) (left other : State) (a b : Answer) → (has_room_for t r ≡ true → d ≡ true)
    → Again t (cond c (logs s r code left) (Now a)) (cond d (logs t r code other) (Now b))
room_again true d s t r code left other a b f = λ room. ap (λ (x : Bool). record_in (cond x (logs t r code other) (Now b))) (f room)
room_again false d s t r code left other a b f = tt

abbrev prepare_by : State → Triple → Known → Bool → ℕ → List Write → Turn
prepare_by t x k held time ws =
    unless_now (unprepared_refusal k held) t
    (marked_now (mark_in k) (rolled_back t x)
    (cond (is_empty ws) (Now (answer (plain XA_RDONLY) (committed t x)))
    (cond (has_room t (logged.Prepared x time ws) 1) (logs t (logged.Prepared x time ws) XAER_RMERR t) (Now (log_full t x)))))

abbrev one_phase_by : State → Triple → Known → Bool → ℕ → List Write → Turn
one_phase_by t x k held time ws =
    unless_now (unprepared_refusal k held) t
    (marked_now (mark_in k) (rolled_back t x)
    (cond (is_empty ws) (Now (ok (committed t x)))
    (cond (has_room t (logged.Committed x time ws) 0) (logs t (logged.Committed x time ws) XAER_RMERR (rolled_back t x)) (Now (log_full t x)))))

module _ (n : ℕ) (s t : State) (x : Triple) (h : FindsSame n x s t) where
  -- of what is the same comes the same
  turns_alike : (f : Known → Bool → ℕ → List Write → Turn)
      → f (known_as s x) (is_associated s x) (timestamp_in s x) (writes_in s x) ≡ f (known_as t x) (is_associated t x) (timestamp_in t x) (writes_in t x)
  turns_alike f =
      ap (λ (k : Known). f k (is_associated s x) (timestamp_in s x) (writes_in s x)) (sym (same_known n x s t h))
      ∙ ap (λ (c : Bool). f (known_as t x) c (timestamp_in s x) (writes_in s x)) (sym h.associated)
      ∙ ap (λ (time : ℕ). f (known_as t x) (is_associated t x) time (writes_in s x)) (sym (same_time n x s t h))
      ∙ ap (f (known_as t x) (is_associated t x) (timestamp_in t x)) (sym (same_writes n x s t h))

  prepare_again : Again t (prepare_turn s x) (prepare_turn t x)
  prepare_again =
      let k = known_as s x in
      let r = logged.Prepared x (timestamp_in s x) (writes_in s x) in
      subst (Again t (prepare_turn s x)) (turns_alike (prepare_by t x))
      (unless_again (unprepared_refusal k (is_associated s x)) s t _ _
      (marked_again (mark_in k) t (rolled_back s x) (rolled_back t x) _ _
      (cond_again (is_empty (writes_in s x)) t _ _ _ _ tt (room_again (has_room s r 1) (has_room t r 1) s t r XAER_RMERR s t _ _ (λ room. room)))))

  one_phase_again : Again t (commit_one_phase_turn s x) (commit_one_phase_turn t x)
  one_phase_again =
      let k = known_as s x in
      let r = logged.Committed x (timestamp_in s x) (writes_in s x) in
      subst (Again t (commit_one_phase_turn s x)) (turns_alike (one_phase_by t x))
      (unless_again (unprepared_refusal k (is_associated s x)) s t _ _
      (marked_again (mark_in k) t (rolled_back s x) (rolled_back t x) _ _
      (cond_again (is_empty (writes_in s x)) t _ _ _ _ tt
      (room_again (has_room s r 0) (has_room t r 0) s t r XAER_RMERR (rolled_back s x) (rolled_back t x) _ _ (λ room. room)))))

  two_phase_again : Again t (commit_two_phase_turn s x) (commit_two_phase_turn t x)
  two_phase_again =
      let r = logged.Completed x direction.Commit in
      subst
      (λ (k : Known). Again t (commit_two_phase_turn s x) (unless_now (two_phase_refusal k) t (unless_now (heuristic_refusal k) t (logs t r XA_RETRY t))))
      (sym (same_known n x s t h))
      (unless_again (two_phase_refusal (known_as s x)) s t _ _ (unless_again (heuristic_refusal (known_as s x)) s t (logs s r XA_RETRY s) (logs t r XA_RETRY t) (λ room. refl)))

  roll_back_again : (k : Known) → Again t (roll_back_turn s x k) (roll_back_turn t x k)
  roll_back_again Unknown = tt
  roll_back_again (AtWork None) = tt
  roll_back_again (AtWork (Some code)) = tt
  roll_back_again InDoubt = λ room. refl
  roll_back_again (Completed way) = tt

  rollback_again : Again t (rollback_turn s x) (rollback_turn t x)
  rollback_again =
      subst
      (λ (k : Known). Again t (rollback_turn s x) (unless_now (rollback_refusal k (is_associated t x)) t (unless_now (heuristic_refusal k) t (roll_back_turn t x k))))
      (sym (same_known n x s t h))
      (subst
      (λ (c : Bool).
      Again t (rollback_turn s x)
      (unless_now (rollback_refusal (known_as s x) c) t (unless_now (heuristic_refusal (known_as s x)) t (roll_back_turn t x (known_as s x)))))
      (sym h.associated)
      (unless_again (rollback_refusal (known_as s x) (is_associated s x)) s t _ _
      (unless_again (heuristic_refusal (known_as s x)) s t (roll_back_turn s x (known_as s x)) (roll_back_turn t x (known_as s x)) (roll_back_again (known_as s x)))))

  decide_again : (way : Direction) → Again t (decide_turn s way x) (decide_turn t way x)
  decide_again way =
      let r = logged.Decided x way in
      subst (λ (k : Known). Again t (decide_turn s way x) (unless_now (decide_refusal k) t (logs t r XAER_RMERR t))) (sym (same_known n x s t h))
      (unless_again (decide_refusal (known_as s x)) s t (logs s r XAER_RMERR s) (logs t r XAER_RMERR t) (λ room. refl))

  forget_again : Again t (forget_turn s x) (forget_turn t x)
  forget_again =
      let r = logged.Forgotten x in
      subst (λ (k : Known). Again t (forget_turn s x) (unless_now (forget_refusal k) t (logs t r XAER_RMERR t))) (sym (same_known n x s t h))
      (unless_again (forget_refusal (known_as s x)) s t (logs s r XAER_RMERR s) (logs t r XAER_RMERR t) (λ room. refl))

same_of : (n : ℕ) (x xid : Triple) (s t : State) → Some x ≡ Some xid → FindsSame n xid s t → FindsSame n x s t
same_of n x xid s t e h = let same : x ≡ xid = cc e in subst (λ (y : Triple). FindsSame n y s t) (sym same) h

row_again : (s t : State) (n : ℕ) (request : Request) (xid : Triple) → xid_of request ≡ Some xid → FindsSame n xid s t
    → Again t (row s n request) (row t n request)
row_again s t n (Prepare flags x) xid e h = prepare_again n s t x (same_of n x xid s t e h)
row_again s t n (Commit flags x) xid e h =
    cond_again (has flags TMONEPHASE) t (commit_one_phase_turn s x) (commit_two_phase_turn s x) (commit_one_phase_turn t x) (commit_two_phase_turn t x)
    (one_phase_again n s t x (same_of n x xid s t e h)) (two_phase_again n s t x (same_of n x xid s t e h))
row_again s t n (Rollback flags x) xid e h = rollback_again n s t x (same_of n x xid s t e h)
row_again s t n (Forget flags x) xid e h = forget_again n s t x (same_of n x xid s t e h)
row_again s t n (Decide way x) xid e h = decide_again n s t x (same_of n x xid s t e h) way
row_again s t n request xid e h = absurd (cc e)

pub appends_the_same : AppendsTheSame
appends_the_same s t n request xid r after e h up appends room =
    let call = event.Call n request in
    let same : early_refusal (context_of s n) request ≡ early_refusal (context_of t n) request
    = sym (same_early n xid s t request e h) in
    let first : Again t (respond s call) (respond t call)
    = subst (λ (o : Option Reply). Again t (respond s call) (unless_now o t (row t n request))) same
    (unless_again (early_refusal (context_of s n) request) s t (row s n request) (row t n request) (row_again s t n request xid e h)) in
    let here : respond s call ≡ Appends r after = sym (turns_up s call up) ∙ appends in
    let again : has_room_for t r ≡ true → record_in (respond t call) ≡ Some r
    = subst (λ (u : Turn). Again t u (respond t call)) here first in
    let (after_again, is) = recorded (respond t call) r (again room) in
    (after_again, turns_up t call (h.standing ∙ up) ∙ is)
