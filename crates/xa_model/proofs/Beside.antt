-- What logs nothing, and touches neither a group's branches nor its sessions, leaves the group as it is.
use Rattle.std.proofs.Common.{◌≡◌, ℕ, ◌+◌, ◌==◌, Bool, true, false, ◌&&◌, not, cond, List, [], ◌∷◌, Option, Some, None, refl, sym}
use Rattle.std.proofs.Common.{◌∙◌, ap, subst, arith}
use Rattle.std.specs.Prelude.{filter, is_some, nat_lt, option_map}
use Rattle.std.specs.List.{AllByRecursion, list_any}
use Rattle.std.proofs.lemmas.Bool.Decides.{nat_tests}
use Rattle.xa_frame.specs.declared.reply.Reply.{Reply}
use Rattle.xa_frame.specs.declared.request.Request.{Request}
use Rattle.xa_frame.specs.declared.request.Request.TheVariants.{Open, Close, Start, End, Recover, Get, Put, Delete}
use Rattle.xa_frame.specs.declared.request.Request.TheVariants.{Doom, Timeout, Tick, Branches}
use Rattle.xa_xid.specs.Triple.{Triple, xid_eq}
use Rattle.xa_xid.proofs.Same.{xid_same}
use Rattle.xa_model.specs.declared.event.Event.{Event}
use Rattle.xa_model.specs.declared.event.Event.TheVariants as event
use Rattle.xa_model.specs.State.{State, Association, Branch, Phase, Session, Working, Prepared, Committed, Up, change}
use Rattle.xa_model.specs.State.{known_of, is_known_as, is_with, holders_of, own_branch, owns, is_own}
use Rattle.xa_model.specs.State.{free_number, new_session, session_of, without}
use Rattle.xa_model.specs.Answer.{Answer, answer, ok}
use Rattle.xa_model.specs.Associations.{as_opened, open_by, as_closed, close_by, close_refusal, is_of_session, start_by, end_by}
use Rattle.xa_model.specs.Associations.{connect_by, connect_refusal, connected, hang_up_by, left_behind}
use Rattle.xa_model.specs.Data.{get_by, put_by}
use Rattle.xa_model.specs.Durable.{durable}
use Rattle.xa_model.specs.Early.{early_refusal}
use Rattle.xa_model.specs.Events.{asks_boot, begins_boot}
use Rattle.xa_model.specs.KnownBranches.{branches_by}
use Rattle.xa_model.specs.Listed.{list_after}
use Rattle.xa_model.specs.Phases.{doom_by}
use Rattle.xa_model.specs.Recovering.{recover_by, recovered_from, scan_after, scan_from, scan_of, with_scan}
use Rattle.xa_model.specs.Step.{row, respond, context_of}
use Rattle.xa_model.specs.TimeLimits.{tick_by, ticked, timed_out, timeout_by, runs_out, with_limit}
use Rattle.xa_model.specs.Turn.{Turn, Now, Appends, unless_now}
use Rattle.xa_model.specs.Invariants.Sound.{IsSound}
use Rattle.xa_model.specs.Laws.Logging.{LogsWhatLasts}
use Rattle.xa_model.specs.Laws.Together.{FindsSame, IsSameFor, Part, AppendsOf, logs_nothing, is_quiet, is_over_of}
use Rattle.xa_model.specs.Laws.Together.{QuietIsNow, QuietLeavesGroup, CallsApart, StandsApart}
use Rattle.xa_model.proofs.Counts.{count_filter}
use Rattle.xa_model.proofs.Finds.{find_without}
use Rattle.xa_model.proofs.Further.{turns_up}
use Rattle.xa_model.proofs.LeftBehind.{found_map, left_known}
use Rattle.xa_model.proofs.Lists.{find_change_other, found_passes}
use Rattle.xa_model.proofs.LoggedEvents.{events_log_what_lasts}
use Rattle.xa_model.proofs.Marks.{timed_keeps}
use Rattle.xa_model.proofs.Numbers.{free_number_free}
use Rattle.xa_model.proofs.OfAnswers.{unless_after}
use Rattle.xa_model.proofs.OfTurns.{OfTurn, unless_turn}
use Rattle.xa_model.proofs.RoomyRows.{AsksRoom, events_ask_room}
use Rattle.xa_model.proofs.Soundness.{reached}
use Rattle.xa_model.proofs.StillTogether.{rooms_still, appends_still}
use Rattle.xa_model.proofs.Together.{finds_same, itself}
use Rattle.xa_model.proofs.WorkBeside.{start_spares, end_spares, doom_spares, get_by_own, put_by_own, idle}

-- it is answered at once

now_unless : (o : Option Reply) (s : State) (b : Answer) → (a : Answer) × (unless_now o s (Now b) ≡ Now a)
now_unless None s b = (b, refl)
now_unless (Some reply) s b = (answer reply s, refl)

row_now : (s : State) (n : ℕ) (request : Request) → logs_nothing request ≡ true → (b : Answer) × (row s n request ≡ Now b)
row_now s n (Open flags info) is = (open_by s n, refl)
row_now s n (Close flags) is = (close_by s n, refl)
row_now s n (Start flags xid) is = (start_by s n flags xid, refl)
row_now s n (End flags xid) is = (end_by s n flags xid, refl)
row_now s n (Recover flags many) is = (recover_by s n flags many, refl)
row_now s n (Get key) is = (get_by s key (own_branch s n), refl)
row_now s n (Put key value) is = (put_by s key (Some value) (own_branch s n), refl)
row_now s n (Delete key) is = (put_by s key None (own_branch s n), refl)
row_now s n (Doom xid) is = (doom_by s xid, refl)
row_now s n (Timeout seconds) is = (timeout_by s n seconds, refl)
row_now s n (Tick moment) is = (tick_by s moment, refl)
row_now s n (Branches many after) is = (branches_by s many after, refl)
row_now s n request is = absurd (cc is)

call_now : (s : State) (n : ℕ) (request : Request) (o : Option Reply) (t : Turn) → (b : Answer) × (t ≡ Now b)
    → (a : Answer) × (unless_now o s t ≡ Now a)
call_now s n request o t (b, is) =
    let (a, e) = now_unless o s b in
    (a, subst (λ (u : Turn). unless_now o s u ≡ Now a) (sym is) e)

responds_now : (s : State) (e : Event) → is_quiet e ≡ true → (a : Answer) × (respond s e ≡ Now a)
responds_now s event.Connect is = (connect_by s, refl)
responds_now s (event.Hangup n) is = (hang_up_by s n, refl)
responds_now s (event.Call n request) is =
    call_now s n request (early_refusal (context_of s n) request) (row s n request) (row_now s n request is)

pub quiet_is_now : QuietIsNow
quiet_is_now s e up is = let (a, now) = responds_now s e is in (a, turns_up s e up ∙ now)

asks_none : (request : Request) → logs_nothing request ≡ true → asks_boot request ≡ false
asks_none (Open flags info) is = refl
asks_none (Close flags) is = refl
asks_none (Start flags xid) is = refl
asks_none (End flags xid) is = refl
asks_none (Recover flags many) is = refl
asks_none (Get key) is = refl
asks_none (Put key value) is = refl
asks_none (Delete key) is = refl
asks_none (Doom xid) is = refl
asks_none (Timeout seconds) is = refl
asks_none (Tick moment) is = refl
asks_none (Branches many after) is = refl
asks_none request is = absurd (cc is)

begins_none : (e : Event) → is_quiet e ≡ true → begins_boot e ≡ false
begins_none event.Connect is = refl
begins_none (event.Hangup n) is = refl
begins_none (event.Call n request) is = asks_none request is

-- sessions

apart_numbers : (k m n : ℕ) → (k == m) ≡ true → (n == m) ≡ false → (k == n) ≡ false
apart_numbers k m n is apart = grind (arith, nat_tests, is, apart)

abbrev opened_in : List Session → ℕ → Option Bool
opened_in xs n = option_map (λ (x : Session). x.opened) (session_of xs n)

-- another session changes, or is gone
other_changes : (f : Session → Session) (m n : ℕ) (xs : List Session) → ((x : Session) → (f x).number ≡ x.number)
    → (n == m) ≡ false → opened_in (change (λ x. x.number == m) f xs) n ≡ opened_in xs n
other_changes f m n xs keeps apart =
    ap (λ (o : Option Session). option_map (λ (x : Session). x.opened) o)
    (find_change_other (λ (x : Session). x.number == m) (λ (x : Session). x.number == n) f
    (λ x is.
    let other = apart_numbers x.number m n is apart in
    (other, ap (λ (k : ℕ). k == n) (keeps x) ∙ other)) xs)

other_goes : (m n : ℕ) (xs : List Session) → (n == m) ≡ false → opened_in (without (λ x. x.number == m) xs) n ≡ opened_in xs n
other_goes m n xs apart =
    ap (λ (o : Option Session). option_map (λ (x : Session). x.opened) o)
    (find_without (λ (x : Session). x.number == m) (λ (x : Session). x.number == n) (λ x is. apart_numbers x.number m n is apart) xs)

-- a change that opens and closes none
abbrev KeepsOpened : (Session → Session) → Type 0
KeepsOpened f = (x : Session) → ((f x).number ≡ x.number) × ((f x).opened ≡ x.opened)

abbrev told_opened : Option Session → Option Bool
told_opened o = option_map (λ (x : Session). x.opened) o

here_by : (f : Session → Session) (k : KeepsOpened f) (x : Session) (xs : List Session) (n : ℕ) (d : Bool) → (x.number == n) ≡ d
    → told_opened (cond ((f x).number == n) (Some (f x)) (session_of xs n)) ≡ told_opened (cond d (Some x) (session_of xs n))
here_by f k x xs n true e = rw ((k x).0, e) (ap (λ (b : Bool). Some b) (k x).1)
here_by f k x xs n false e = rw ((k x).0, e) refl

there_by : (o p : Option Session) (x : Session) (d : Bool) → told_opened o ≡ told_opened p
    → told_opened (cond d (Some x) o) ≡ told_opened (cond d (Some x) p)
there_by o p x true rest = refl
there_by o p x false rest = rest

one_changes : (f : Session → Session) (k : KeepsOpened f) (x : Session) (xs ys : List Session) (n : ℕ) (c : Bool)
    → opened_in ys n ≡ opened_in xs n → opened_in (cond c (f x ∷ xs) (x ∷ ys)) n ≡ opened_in (x ∷ xs) n
one_changes f k x xs ys n true rest = here_by f k x xs n (x.number == n) refl
one_changes f k x xs ys n false rest = there_by (session_of ys n) (session_of xs n) x (x.number == n) rest

opened_still : (p : Session → Bool) (f : Session → Session) → KeepsOpened f → (n : ℕ) (xs : List Session)
    → opened_in (change p f xs) n ≡ opened_in xs n
opened_still p f k n [] = refl
opened_still p f k n (x ∷ xs) = one_changes f k x xs (change p f xs) n (p x) (opened_still p f k n xs)

-- one that connects has a number that was free
one_more : (m n : ℕ) (xs : List Session) (c : Bool) → (m == n) ≡ c → session_of xs m ≡ None → is_some (session_of xs n) ≡ true
    → told_opened (cond c (Some (new_session m)) (session_of xs n)) ≡ opened_in xs n
one_more m n xs false e free some = refl
one_more m n xs true e free some =
    let same : m ≡ n = grind (arith, nat_tests, e) in
    let none : session_of xs n ≡ None = subst (λ (k : ℕ). session_of xs k ≡ None) same free in
    absurd (cc (ap (λ (o : Option Session). is_some o) none, some))

-- branches that are marked

marks_none : (f : Branch → Branch) (o : Option Branch) → ((b : Branch) → o ≡ Some b → f b ≡ b) → option_map f o ≡ o
marks_none f None same = refl
marks_none f (Some b) same = ap (λ (c : Branch). Some c) (same b refl)

not_over : (moment : ℕ) (o : Option Branch) (b : Branch) → o ≡ Some b → is_over_of moment o ≡ false → timed_out moment b ≡ b
not_over moment o b is none =
    let here : runs_out moment b ≡ false = ap (λ (p : Option Branch). is_over_of moment p) (sym is) ∙ none in rw here refl

-- nobody owns what isn't associated
no_owner_by : (c : Bool) (k : ℕ) (d : Bool) → cond c 1 0 + k ≡ 0 → (d && c) ≡ false
no_owner_by true k d none = absurd (omega (arith, none))
no_owner_by false k true none = refl
no_owner_by false k false none = refl

none_left : (c : Bool) (k : ℕ) → cond c 1 0 + k ≡ 0 → k ≡ 0
none_left true k none = absurd (omega (arith, none))
none_left false k none = omega (arith, none)

no_owner : (n : ℕ) (x : Triple) (held : List Association) → holders_of held x ≡ 0 → list_any (owns n x) held ≡ false
no_owner n x [] none = refl
no_owner n x (a ∷ held) none =
    let here : owns n x a ≡ false = no_owner_by (xid_eq a.xid x) (holders_of held x) (is_own n a.holder) none in
    rw here (no_owner n x held (none_left (xid_eq a.xid x) (holders_of held x) none))

left_alone : (n : ℕ) (xid : Triple) (held : List Association) (b : Branch) (p : Phase) → b.phase ≡ p → is_known_as xid b ≡ true
    → holders_of held xid ≡ 0 → left_behind held n b ≡ b
left_alone n xid held b (Working x work) e named none =
    let name : xid_eq x xid ≡ true = subst (λ (q : Phase). is_known_as xid (record b { phase = q }) ≡ true) e named in
    let free : list_any (owns n x) held ≡ false
    = no_owner n x held (subst (λ (y : Triple). holders_of held y ≡ 0) (sym (xid_same x xid name)) none) in
    rw (e, free) refl
left_alone n xid held b (Prepared x) e named none = rw e refl
left_alone n xid held b Committed e named none = rw e refl

zero_of : (k : ℕ) → nat_lt 0 k ≡ false → k ≡ 0
zero_of k none = grind (arith, nat_tests, none)

module _ (s : State) (q : Part) (h : IsSound s) (up : s.standing ≡ Up) (appends : AppendsOf s q) where
  abbrev Same : State → Type 0
  Same t = FindsSame q.session q.xid s t

  same : Same s
  same = finds_same q.session q.xid s s (itself q.xid s)

  seated : (sessions : List Session) → opened_in sessions q.session ≡ opened_in s.sessions q.session → Same (record s { sessions = sessions })
  seated sessions opened =
      record { known = refl; decided = refl; associated = refl; opened = opened; name = refl; standing = refl }

  nobody : holders_of s.associations q.xid ≡ 0
  nobody = zero_of (holders_of s.associations q.xid) (idle s q h up appends)

  -- the group's call passed its refusals, so its session is connected
  passed_by : (o : Option Reply) (t : Turn) → unless_now o s t ≡ Appends q.appended appends.after → o ≡ None
  passed_by None t is = refl
  passed_by (Some reply) t is = absurd (cc is)

  sits : is_some (session_of s.sessions q.session) ≡ true
  sits =
      reached s q.session q.request
      (passed_by (early_refusal (context_of s q.session) q.request) (row s q.session q.request)
      (sym (turns_up s (event.Call q.session q.request) up) ∙ appends.appends))

  connects : Same (connect_by s).after
  connects =
      let m = free_number s.sessions in
      unless_after Same (connect_refusal _) s (connected s) same
      (λ none. seated (new_session m ∷ s.sessions)
      (one_more m q.session s.sessions (m == q.session) refl (free_number_free s.sessions) sits))

  hangs_up : (n : ℕ) → (q.session == n) ≡ false → Same (hang_up_by s n).after
  hangs_up n apart =
      let fewer = count_filter (λ (a : Association). not (is_of_session n a)) (λ (a : Association). xid_eq a.xid q.xid) s.associations in
      let none : holders_of (filter (λ a. not (is_of_session n a)) s.associations) q.xid ≡ 0 = omega (arith, fewer, nobody) in record {
        known =
            left_known s.associations n q.xid s.branches
            ∙ marks_none (left_behind s.associations n) (known_of s.branches q.xid)
            (λ b is. left_alone n q.xid s.associations b b.phase refl (found_passes (is_known_as q.xid) b s.branches is) nobody);
        decided = refl;
        associated = ap (λ (k : ℕ). nat_lt 0 k) (none ∙ sym nobody);
        opened = other_goes n q.session s.sessions apart;
        name = refl;
        standing = refl;
      }

  ticks : (moment : ℕ) → is_over_of moment (known_of s.branches q.xid) ≡ false → Same (ticked s moment)
  ticks moment none = record {
    known =
        found_map (is_known_as q.xid) (timed_out moment) (λ b. ap (is_with q.xid) ((timed_keeps moment).name b)) s.branches
        ∙ marks_none (timed_out moment) (known_of s.branches q.xid) (λ b is. not_over moment (known_of s.branches q.xid) b is none);
    decided = refl;
    associated = refl;
    opened = refl;
    name = refl;
    standing = refl;
  }

  recovers : (n flags many : ℕ) (scan : Option (Option Triple)) → Same (recovered_from s n flags many scan).after
  recovers n flags many None = same
  recovers n flags many (Some cursor) =
      let scan = scan_after flags cursor (list_after cursor many (durable s)) in
      seated (change (λ x. x.number == n) (with_scan scan) s.sessions)
      (opened_still (λ x. x.number == n) (with_scan scan) (λ x. (refl, refl)) q.session s.sessions)

  closes : (n : ℕ) → (q.session == n) ≡ false → Same (close_by s n).after
  closes n apart =
      unless_after Same (close_refusal (list_any (is_of_session n) s.associations)) s
      (ok (record s { sessions = change (λ x. x.number == n) as_closed s.sessions })) same
      (λ none. seated _ (other_changes as_closed n q.session s.sessions (λ x. refl) apart))

  sparing : (a : Answer) → IsSameFor q.xid s a.after → Same a.after
  sparing a x = finds_same q.session q.xid s a.after x

  abbrev SameNow : Turn → Type 0
  SameNow t = OfTurn (λ a. Same a.after) (λ r after. ⊥) t

  row_same : (n : ℕ) (request : Request) → logs_nothing request ≡ true → CallsApart s n request (q ∷ []) → SameNow (row s n request)
  row_same n (Open flags info) is apart = seated _ (other_changes as_opened n q.session s.sessions (λ x. refl) apart.0)
  row_same n (Close flags) is apart = closes n apart.0
  row_same n (Start flags xid) is apart = sparing (start_by s n flags xid) (start_spares s xid q.xid apart.0 n flags)
  row_same n (End flags xid) is apart = sparing (end_by s n flags xid) (end_spares s xid q.xid apart.0 n flags)
  row_same n (Recover flags many) is apart = recovers n flags many (scan_from flags (scan_of s.sessions n))
  row_same n (Get key) is apart = sparing (get_by s key (own_branch s n)) (get_by_own s n q h up appends key (own_branch s n) refl)
  row_same n (Put key value) is apart =
      sparing (put_by s key (Some value) (own_branch s n)) (put_by_own s n q h up appends key (Some value) (own_branch s n) refl)
  row_same n (Delete key) is apart =
      sparing (put_by s key None (own_branch s n)) (put_by_own s n q h up appends key None (own_branch s n) refl)
  row_same n (Doom xid) is apart = sparing (doom_by s xid) (doom_spares s xid q.xid apart.0)
  row_same n (Timeout seconds) is apart =
      seated (change (λ x. x.number == n) (with_limit seconds) s.sessions)
      (opened_still (λ x. x.number == n) (with_limit seconds) (λ x. (refl, refl)) q.session s.sessions)
  row_same n (Tick moment) is apart = ticks moment apart.0
  row_same n (Branches many after) is apart = same
  row_same n request is apart = absurd (cc is)

  event_same : (e : Event) → is_quiet e ≡ true → StandsApart s e (q ∷ []) → SameNow (respond s e)
  event_same event.Connect is apart = connects
  event_same (event.Hangup n) is apart = hangs_up n apart.0
  event_same (event.Call n request) is apart =
      unless_turn (λ (a : Answer). Same a.after) (λ r after. ⊥) (early_refusal (context_of s n) request) s (row s n request)
      (λ reply. same) (row_same n request is apart)

-- of the whole group

call_each : (s : State) (n : ℕ) (request : Request) (q : Part) (qs : List Part) → CallsApart s n request (q ∷ qs)
    → CallsApart s n request (q ∷ []) × CallsApart s n request qs
call_each s n (Open flags info) q qs h = ((h.0, tt), h.1)
call_each s n (Close flags) q qs h = ((h.0, tt), h.1)
call_each s n (Start flags xid) q qs h = ((h.0, tt), h.1)
call_each s n (End flags xid) q qs h = ((h.0, tt), h.1)
call_each s n (Doom xid) q qs h = ((h.0, tt), h.1)
call_each s n (Tick moment) q qs h = ((h.0, tt), h.1)
call_each s n request q qs h = (tt, tt)

apart_each : (s : State) (e : Event) (q : Part) (qs : List Part) → StandsApart s e (q ∷ qs)
    → StandsApart s e (q ∷ []) × StandsApart s e qs
apart_each s event.Connect q qs h = (tt, tt)
apart_each s (event.Hangup n) q qs h = ((h.0, tt), h.1)
apart_each s (event.Call n request) q qs h = call_each s n request q qs h

pub quiet_leaves_group : QuietLeavesGroup
quiet_leaves_group s e a p ps h up is apart now m =
    let here : respond s e ≡ Now a = sym (turns_up s e up) ∙ now in
    let bytes : AsksRoom s (Now a) = subst (AsksRoom s) here (events_ask_room s e (begins_none e is)) in
    let logs : LogsWhatLasts s (Now a) = subst (LogsWhatLasts s) here (events_log_what_lasts s e h (begins_none e is)) in
    let same = all_same here (p ∷ ps) apart m.appends in (
      record {
        appends = appends_still s a.after bytes logs [] (p ∷ ps) up same m.appends m.room;
        apart = m.apart;
        room = rooms_still s a.after bytes logs [] (p ∷ ps) m.room;
      },
      same,
    )
  where
    all_same : respond s e ≡ Now a → (qs : List Part) → StandsApart s e qs → AllByRecursion (AppendsOf s) qs
        → AllByRecursion (λ (q : Part). FindsSame q.session q.xid s a.after) qs
    all_same here [] others appends = tt
    all_same here (q ∷ qs) others appends =
        let both = apart_each s e q qs others in (
          subst (SameNow s q h up appends.0) here (event_same s q h up appends.0 e is both.0),
          all_same here qs both.1 appends.1,
        )
