-- No event changes the size of log that was set, and an opening sets it.
use Rattle.std.proofs.Common.{◌≡◌, ℕ, zero, suc, ℤ, ◌+◌, nat_lt, ◌&&◌, Bool, true, false, List, [], ◌∷◌, Option, Some, None, IfSome, IsSomeAnd, refl, subst, ap}
use Rattle.std.specs.Prelude.{⊤, option_and_then, option_map, if◌then◌else◌}
use Rattle.xa_codes.specs.declared.codes.TheConstants.{XAER_RMERR, XAER_RMFAIL, XA_RETRY, XA_RDONLY}
use Rattle.xa_codes.specs.declared.detail.Detail.TheVariants as detail
use Rattle.xa_codes.specs.declared.direction.Direction.{Direction}
use Rattle.xa_codes.specs.Flags.{has}
use Rattle.xa_codes.specs.declared.direction.Direction.TheVariants as direction
use Rattle.xa_codes.specs.declared.flags.TheConstants.{TMONEPHASE}
use Rattle.xa_frame.specs.declared.reply.Reply.{Reply}
use Rattle.xa_frame.specs.declared.request.Request.{Request}
use Rattle.xa_frame.specs.declared.request.Request.TheVariants.{Open, Close, Start, End, Prepare, Commit, Rollback, Forget, Recover, Get, Put, Delete, Decide, Doom, Restart, Timeout, Tick, Trim, Branches}
use Rattle.xa_record.specs.declared.record.Record.{Record}
use Rattle.xa_record.specs.declared.record.Record.TheVariants as logged
use Rattle.xa_xid.specs.Triple.{Triple}
use Rattle.xa_model.specs.declared.event.Event.{Event}
use Rattle.xa_model.specs.declared.event.Event.TheVariants as event
use Rattle.xa_model.specs.declared.outcome.Outcome.{Outcome}
use Rattle.xa_model.specs.declared.outcome.Outcome.TheVariants.{Quiet, Appended, Joined, Failed, Reread}
use Rattle.xa_model.specs.declared.outcome.Appending.{Appending}
use Rattle.xa_model.specs.declared.outcome.Appending.TheVariants.{Kept, Refused, Lost}
use Rattle.xa_model.specs.State.{State, Known, Unknown, AtWork, InDoubt, Completed, Standing, Up, Down, Ended, known_as}
use Rattle.xa_model.specs.Fold.{is_empty}
use Rattle.xa_model.specs.Answer.{Answer, answer, plain, detailed, ok}
use Rattle.xa_model.specs.Turn.{Asked, Reopened, Turn, Nobody, Now, Appends, Checkpoints, Rereads, Joins, Rereading, Stops, Opens, going_on, taken, unless_now, marked_now}
use Rattle.xa_model.specs.Step.{step, turn, row, respond, asked, or_joins, further_record, context_of}
use Rattle.xa_model.specs.Events.{asks_boot}
use Rattle.xa_model.proofs.RoomyRows.{AsksRoom, events_ask_room}
use Rattle.xa_model.specs.Early.{early_refusal}
use Rattle.xa_model.specs.Logging.{applied, append_became, logs, has_room, log_full, writes_in, down}
use Rattle.xa_model.specs.Associations.{failed, mark_in, timestamp_in}
use Rattle.xa_model.specs.Phases.{unprepared_refusal, two_phase_refusal, rollback_refusal, heuristic_refusal, is_associated, rolled_back, committed}
use Rattle.xa_model.specs.Completions.{prepare_turn, commit_one_phase_turn, commit_two_phase_turn, rollback_turn, roll_back_turn, decide_turn, decide_refusal, forget_turn, forget_refusal}
use Rattle.xa_model.specs.Trimming.{trim_turn, trim_refusal, trim_became}
use Rattle.xa_model.specs.Restarting.{restart_turn, restarting, boot_became, looked, with_first, survived, reopening, can_open, reopen_became, refused_opening}

record Keeps (n : ℕ) (a : Answer) : Type 0 where
  same : a.after.log_bytes ≡ n

-- ---- what is answered without a record, by the model's law, and what each answer of an append leaves

abbrev AppendsKeep : ℕ → Turn → Type 0
AppendsKeep n (Appends r after) = (x : Appending) → Keeps n (after x)
AppendsKeep n (Checkpoints r after) = (x : Appending) → Keeps n (after x)
AppendsKeep n _ = ⊤

record KeepsAppends (n : ℕ) (t : Turn) : Type 0 where
  each : AppendsKeep n t

taken_keeps : (s : State) (t : Turn) (o : Outcome) → AsksRoom s t → AppendsKeep s.log_bytes t → IfSome (taken t o) (Keeps s.log_bytes)
taken_keeps s Nobody o h k = absurd h
taken_keeps s (Now a) Quiet h k = record { same = h }
taken_keeps s (Now a) (Appended x) h k = tt
taken_keeps s (Now a) (Joined x) h k = tt
taken_keeps s (Now a) Failed h k = tt
taken_keeps s (Now a) (Reread found x) h k = tt
taken_keeps s (Appends r after) Quiet h k = tt
taken_keeps s (Appends r after) (Appended x) h k = k x
taken_keeps s (Appends r after) (Joined Kept) h k = k Kept
taken_keeps s (Appends r after) (Joined Refused) h k = k Refused
taken_keeps s (Appends r after) (Joined Lost) h k = tt
taken_keeps s (Appends r after) Failed h k = tt
taken_keeps s (Appends r after) (Reread found x) h k = tt
taken_keeps s (Checkpoints r after) Quiet h k = tt
taken_keeps s (Checkpoints r after) (Appended x) h k = k x
taken_keeps s (Checkpoints r after) (Joined x) h k = tt
taken_keeps s (Checkpoints r after) Failed h k = tt
taken_keeps s (Checkpoints r after) (Reread found x) h k = tt
taken_keeps s (Rereads failed found) o h k = absurd h
taken_keeps s (Joins refused r lost) o h k = absurd h

unless_appends : (n : ℕ) (o : Option Reply) (s : State) (t : Turn) → KeepsAppends n t → KeepsAppends n (unless_now o s t)
unless_appends n None s t h = h
unless_appends n (Some reply) s t h = record { each = tt }

marked_appends : (n : ℕ) (o : Option ℤ) (s : State) (t : Turn) → KeepsAppends n t → KeepsAppends n (marked_now o s t)
marked_appends n None s t h = h
marked_appends n (Some code) s t h = record { each = tt }

appends_if : (n : ℕ) (b : Bool) (t u : Turn) → KeepsAppends n t → KeepsAppends n u → KeepsAppends n (if b then t else u)
appends_if n true t u h k = h
appends_if n false t u h k = k

applied_keeps : (r : Record) (s : State) → (applied r s).log_bytes ≡ s.log_bytes
applied_keeps (logged.Opened boot) s = refl
applied_keeps (logged.Prepared xid t ws) s = refl
applied_keeps (logged.Committed xid t ws) s = refl
applied_keeps (logged.Completed xid direction.Commit) s = refl
applied_keeps (logged.Completed xid direction.Rollback) s = refl
applied_keeps (logged.Decided xid direction.Commit) s = refl
applied_keeps (logged.Decided xid direction.Rollback) s = refl
applied_keeps (logged.Forgotten xid) s = refl
applied_keeps (logged.Base t ws) s = refl
applied_keeps (logged.Held xid t ws) s = refl
applied_keeps (logged.Known xid d) s = refl

became_keeps : (s : State) (r : Record) (code : ℤ) (left : State) (x : Appending) → left.log_bytes ≡ s.log_bytes → Keeps s.log_bytes (append_became s r code left x)
became_keeps s r code left Kept e = record { same = applied_keeps r s }
became_keeps s r code left Refused e = record { same = e }
became_keeps s r code left Lost e = record { same = refl }

logs_keep : (s : State) (r : Record) (code : ℤ) (left : State) → left.log_bytes ≡ s.log_bytes → KeepsAppends s.log_bytes (logs s r code left)
logs_keep s r code left e = record { each = λ x. became_keeps s r code left x e }

-- a call that completes a branch at work: it logs, if it wrote and there is room
ends_keep : (s : State) (refusal : Option Reply) (mark : Option ℤ) (gone : State) (empty room : Bool) (now full : Answer) (r : Record) (left : State)
    → left.log_bytes ≡ s.log_bytes
    → KeepsAppends s.log_bytes (unless_now refusal s (marked_now mark gone (if empty then Now now else (if room then logs s r XAER_RMERR left else Now full))))
ends_keep s refusal mark gone empty room now full r left e =
    let written = if room then logs s r XAER_RMERR left else Now full in
    let go_on = if empty then Now now else written in
    unless_appends s.log_bytes refusal s (marked_now mark gone go_on)
    (marked_appends s.log_bytes mark gone go_on
    (appends_if s.log_bytes empty (Now now) written (record { each = tt })
    (appends_if s.log_bytes room (logs s r XAER_RMERR left) (Now full) (logs_keep s r XAER_RMERR left e) (record { each = tt }))))

prepare_keeps : (s : State) (xid : Triple) → KeepsAppends s.log_bytes (prepare_turn s xid)
prepare_keeps s xid =
    let r = logged.Prepared xid (timestamp_in s xid) (writes_in s xid) in
    ends_keep s (unprepared_refusal (known_as s xid) (is_associated s xid)) (mark_in (known_as s xid)) (rolled_back s xid) (is_empty (writes_in s xid)) (has_room s r 1)
    (answer (plain XA_RDONLY) (committed s xid)) (log_full s xid) r s refl

one_phase_keeps : (s : State) (xid : Triple) → KeepsAppends s.log_bytes (commit_one_phase_turn s xid)
one_phase_keeps s xid =
    let r = logged.Committed xid (timestamp_in s xid) (writes_in s xid) in
    ends_keep s (unprepared_refusal (known_as s xid) (is_associated s xid)) (mark_in (known_as s xid)) (rolled_back s xid) (is_empty (writes_in s xid)) (has_room s r 0)
    (ok (committed s xid)) (log_full s xid) r (rolled_back s xid) refl

twice_keeps : (s : State) (refusal other : Option Reply) (t : Turn) → KeepsAppends s.log_bytes t → KeepsAppends s.log_bytes (unless_now refusal s (unless_now other s t))
twice_keeps s refusal other t h = unless_appends s.log_bytes refusal s (unless_now other s t) (unless_appends s.log_bytes other s t h)

two_phase_keeps : (s : State) (xid : Triple) → KeepsAppends s.log_bytes (commit_two_phase_turn s xid)
two_phase_keeps s xid =
    let r = logged.Completed xid direction.Commit in
    twice_keeps s (two_phase_refusal (known_as s xid)) (heuristic_refusal (known_as s xid)) (logs s r XA_RETRY s) (logs_keep s r XA_RETRY s refl)

back_keeps : (s : State) (xid : Triple) (known : Known) → KeepsAppends s.log_bytes (roll_back_turn s xid known)
back_keeps s xid InDoubt = logs_keep s (logged.Completed xid direction.Rollback) XAER_RMERR s refl
back_keeps s xid Unknown = record { each = tt }
back_keeps s xid (AtWork mark) = marked_appends s.log_bytes mark (rolled_back s xid) (Now (ok (rolled_back s xid))) (record { each = tt })
back_keeps s xid (Completed d) = record { each = tt }

rollback_keeps : (s : State) (xid : Triple) → KeepsAppends s.log_bytes (rollback_turn s xid)
rollback_keeps s xid =
    twice_keeps s (rollback_refusal (known_as s xid) (is_associated s xid)) (heuristic_refusal (known_as s xid)) (roll_back_turn s xid (known_as s xid))
    (back_keeps s xid (known_as s xid))

decide_keeps : (s : State) (d : Direction) (xid : Triple) → KeepsAppends s.log_bytes (decide_turn s d xid)
decide_keeps s d xid =
    let r = logged.Decided xid d in
    unless_appends s.log_bytes (decide_refusal (known_as s xid)) s (logs s r XAER_RMERR s) (logs_keep s r XAER_RMERR s refl)

forget_keeps : (s : State) (xid : Triple) → KeepsAppends s.log_bytes (forget_turn s xid)
forget_keeps s xid =
    let r = logged.Forgotten xid in
    unless_appends s.log_bytes (forget_refusal (known_as s xid)) s (logs s r XAER_RMERR s) (logs_keep s r XAER_RMERR s refl)

-- ---- a restart

abbrev KeepsReading : ℕ → Rereading → Type 0
KeepsReading n (Stops a) = Keeps n a
KeepsReading n (Opens r after) = (x : Appending) → Keeps n (after x)

reading_keeps : (n : ℕ) (x : Option Appending) (o : Option Rereading) → IfSome o (KeepsReading n) → IfSome (option_and_then (going_on x) o) (Keeps n)
reading_keeps n x None h = tt
reading_keeps n None (Some (Stops a)) h = h
reading_keeps n (Some x) (Some (Stops a)) h = tt
reading_keeps n None (Some (Opens r after)) h = tt
reading_keeps n (Some x) (Some (Opens r after)) h = h x

boot_keeps : (s : State) (boot : ℕ) (x : Appending) → Keeps s.log_bytes (boot_became s boot x)
boot_keeps s boot Kept = (record { same = refl })
boot_keeps s boot Refused = (record { same = refl })
boot_keeps s boot Lost = (record { same = refl })

restarting_if : (n : ℕ) (b : Bool) (t u : Rereading) → KeepsReading n t → KeepsReading n u → KeepsReading n (if b then t else u)
restarting_if n true t u h k = h
restarting_if n false t u h k = k

restarting_keeps : (s : State) → KeepsReading s.log_bytes (restarting s)
restarting_keeps s = restarting_if s.log_bytes (nat_lt s.logged_boot 4294967295)
    (Opens (logged.Opened (s.logged_boot + 1)) (boot_became s (s.logged_boot + 1))) (Stops (answer (detailed XAER_RMFAIL detail.Limit) (down s)))
    (λ x. boot_keeps s (s.logged_boot + 1) x) (record { same = refl })

first_keeps : (k : ℕ) (rs : List Record) (s : State) → IfSome (option_map looked (with_first k rs s)) (λ t. t.log_bytes ≡ s.log_bytes)
first_keeps zero rs s = refl
first_keeps (suc k) [] s = tt
first_keeps (suc k) (r ∷ rs) s =
    subst (λ (n : ℕ). IfSome (option_map looked (with_first k rs (applied r s))) (λ t. t.log_bytes ≡ n)) (applied_keeps r s) (first_keeps k rs (applied r s))

found_keeps : (n : ℕ) (o : Option State) → IfSome o (λ t. t.log_bytes ≡ n) → IfSome (option_map restarting o) (KeepsReading n)
found_keeps n None h = tt
found_keeps n (Some t) h = subst (λ (m : ℕ). KeepsReading m (restarting t)) h (restarting_keeps t)

restart_keeps : (s : State) (refusal : Option Reply) (o : Outcome) → IfSome (taken (unless_now refusal s (restart_turn s)) o) (Keeps s.log_bytes)
restart_keeps s (Some reply) Quiet = record { same = refl }
restart_keeps s (Some reply) (Appended x) = tt
restart_keeps s (Some reply) (Joined x) = tt
restart_keeps s (Some reply) Failed = tt
restart_keeps s (Some reply) (Reread found x) = tt
restart_keeps s None Quiet = tt
restart_keeps s None (Appended x) = tt
restart_keeps s None (Joined x) = tt
restart_keeps s None Failed = record { same = refl }
restart_keeps s None (Reread found x) =
    reading_keeps s.log_bytes x (option_map restarting (survived s found)) (found_keeps s.log_bytes (survived s found) (first_keeps found s.open_records s))

-- ---- a trim

trim_became_keeps : (s : State) (boot : ℕ) (x : Appending) → Keeps s.log_bytes (trim_became s boot x)
trim_became_keeps s boot Kept = (record { same = refl })
trim_became_keeps s boot Refused = (record { same = refl })
trim_became_keeps s boot Lost = (record { same = refl })

checkpoint_keeps : (n : ℕ) (r : Record) (after : Appending → Answer) (o : Outcome) → ((x : Appending) → Keeps n (after x))
    → IfSome (taken (Checkpoints r after) o) (Keeps n)
checkpoint_keeps n r after Quiet h = tt
checkpoint_keeps n r after (Appended x) h = h x
checkpoint_keeps n r after (Joined x) h = tt
checkpoint_keeps n r after Failed h = tt
checkpoint_keeps n r after (Reread found x) h = tt

unless_keeps : (s : State) (refusal : Option Reply) (t : Turn) (o : Outcome) → IfSome (taken t o) (Keeps s.log_bytes)
    → IfSome (taken (unless_now refusal s t) o) (Keeps s.log_bytes)
unless_keeps s None t o h = h
unless_keeps s (Some reply) t Quiet h = (record { same = refl })
unless_keeps s (Some reply) t (Appended x) h = tt
unless_keeps s (Some reply) t (Joined x) h = tt
unless_keeps s (Some reply) t Failed h = tt
unless_keeps s (Some reply) t (Reread found x) h = tt

trim_keeps : (s : State) (refusal : Option Reply) (o : Outcome) → IfSome (taken (unless_now refusal s (trim_turn s)) o) (Keeps s.log_bytes)
trim_keeps s refusal o =
    let next = s.logged_boot + 1 in
    let checkpoint = Checkpoints (logged.Opened next) (trim_became s next) in
    unless_keeps s refusal (trim_turn s) o
    (unless_keeps s (trim_refusal s) checkpoint o (checkpoint_keeps s.log_bytes (logged.Opened next) (trim_became s next) o (trim_became_keeps s next)))

-- ---- all events

asked_call : (s : State) (n : ℕ) (request : Request) (o : Outcome) → asks_boot request ≡ false → KeepsAppends s.log_bytes (row s n request)
    → IfSome (taken (respond s (event.Call n request)) o) (Keeps s.log_bytes)
asked_call s n request o e h =
    taken_keeps s (respond s (event.Call n request)) o (events_ask_room s (event.Call n request) e)
    (unless_appends s.log_bytes (early_refusal (context_of s n) request) s (row s n request) h).each

call_keeps : (s : State) (n : ℕ) (request : Request) (o : Outcome) → IfSome (taken (respond s (event.Call n request)) o) (Keeps s.log_bytes)
call_keeps s n (Open flags info) o = asked_call s n (Open flags info) o refl (record { each = tt })
call_keeps s n (Close flags) o = asked_call s n (Close flags) o refl (record { each = tt })
call_keeps s n (Start flags xid) o = asked_call s n (Start flags xid) o refl (record { each = tt })
call_keeps s n (End flags xid) o = asked_call s n (End flags xid) o refl (record { each = tt })
call_keeps s n (Prepare flags xid) o = asked_call s n (Prepare flags xid) o refl (prepare_keeps s xid)
call_keeps s n (Commit flags xid) o =
    asked_call s n (Commit flags xid) o refl
    (appends_if s.log_bytes (has flags TMONEPHASE) (commit_one_phase_turn s xid) (commit_two_phase_turn s xid) (one_phase_keeps s xid) (two_phase_keeps s xid))
call_keeps s n (Rollback flags xid) o = asked_call s n (Rollback flags xid) o refl (rollback_keeps s xid)
call_keeps s n (Forget flags xid) o = asked_call s n (Forget flags xid) o refl (forget_keeps s xid)
call_keeps s n (Recover flags count) o = asked_call s n (Recover flags count) o refl (record { each = tt })
call_keeps s n (Get key) o = asked_call s n (Get key) o refl (record { each = tt })
call_keeps s n (Put key value) o = asked_call s n (Put key value) o refl (record { each = tt })
call_keeps s n (Delete key) o = asked_call s n (Delete key) o refl (record { each = tt })
call_keeps s n (Decide d xid) o = asked_call s n (Decide d xid) o refl (decide_keeps s d xid)
call_keeps s n (Doom xid) o = asked_call s n (Doom xid) o refl (record { each = tt })
call_keeps s n Restart o = restart_keeps s (early_refusal (context_of s n) Restart) o
call_keeps s n (Timeout seconds) o = asked_call s n (Timeout seconds) o refl (record { each = tt })
call_keeps s n (Tick moment) o = asked_call s n (Tick moment) o refl (record { each = tt })
call_keeps s n Trim o = trim_keeps s (early_refusal (context_of s n) Trim) o
call_keeps s n (Branches count after) o = asked_call s n (Branches count after) o refl (record { each = tt })

respond_keeps : (s : State) (e : Event) (o : Outcome) → IfSome (taken (respond s e) o) (Keeps s.log_bytes)
respond_keeps s event.Connect o = taken_keeps s (respond s event.Connect) o (events_ask_room s event.Connect refl) tt
respond_keeps s (event.Hangup n) o = taken_keeps s (respond s (event.Hangup n)) o (events_ask_room s (event.Hangup n) refl) tt
respond_keeps s (event.Call n request) o = call_keeps s n request o

standing_keeps : (n : ℕ) (standing : Standing) (t : Turn) (o : Outcome) → IfSome (taken t o) (Keeps n) → IfSome (taken (asked standing t) o) (Keeps n)
standing_keeps n Up t o h = h
standing_keeps n Down t o h = h
standing_keeps n Ended t o h = tt

-- nor does a record that is lost with a group
joins_keep : (s : State) (further : Option Record) (t : Turn) (o : Outcome) → IfSome (taken t o) (Keeps s.log_bytes)
    → IfSome (taken (or_joins s further t) o) (Keeps s.log_bytes)
joins_keep s None t o h = h
joins_keep s (Some r) Nobody o h = h
joins_keep s (Some r) (Now a) Quiet h = h
joins_keep s (Some r) (Now a) (Appended x) h = tt
joins_keep s (Some r) (Now a) (Joined Kept) h = tt
joins_keep s (Some r) (Now a) (Joined Refused) h = tt
joins_keep s (Some r) (Now a) (Joined Lost) h = record { same = refl }
joins_keep s (Some r) (Now a) Failed h = tt
joins_keep s (Some r) (Now a) (Reread found x) h = tt
joins_keep s (Some r) (Appends q after) o h = h
joins_keep s (Some r) (Checkpoints q after) o h = h
joins_keep s (Some r) (Rereads failed found) o h = h
joins_keep s (Some r) (Joins refused q lost) o h = h

-- no event changes the size of log that was set
pub asked_keeps : (s : State) (e : Event) (o : Outcome) (a : Answer) → step s (Asked e) o ≡ Some a → a.after.log_bytes ≡ s.log_bytes
asked_keeps s e o a is =
    let kept : IfSome (taken (turn s (Asked e)) o) (Keeps s.log_bytes) =
    joins_keep s (further_record s e) (asked s.standing (respond s e)) o (standing_keeps s.log_bytes s.standing (respond s e) o (respond_keeps s e o)) in
    let found : IfSome (Some a) (Keeps s.log_bytes) = subst (λ (x : Option Answer). IfSome x (Keeps s.log_bytes)) is kept in
    found.same

-- what an opening that was kept leads to: the reply is plain, and the size of log is the one handed in
abbrev pub OpensAs : ℕ → Answer → Type 0
OpensAs n a = (a ≡ ok a.after) × (a.after.log_bytes ≡ n)

opening_as : (n : ℕ) (b : Bool) (r : Record) (after : Appending → Answer) (stopped : Answer) → OpensAs n (after Kept)
    → IfSome (going_on (Some Kept) (if b then Opens r after else Stops stopped)) (OpensAs n)
opening_as n true r after stopped h = h
opening_as n false r after stopped h = tt

reopening_as : (name : List ℕ) (n : ℕ) (s : State) → IfSome (going_on (Some Kept) (reopening name n s)) (OpensAs n)
reopening_as name n s = opening_as n (nat_lt s.logged_boot 4294967295 && can_open s n (s.logged_boot + 1)) (logged.Opened (s.logged_boot + 1))
    (reopen_became s name n (s.logged_boot + 1)) (ok (refused_opening s name n)) (refl, refl)

found_as : (name : List ℕ) (n : ℕ) (o : Option State) → IfSome (option_and_then (going_on (Some Kept)) (option_map (reopening name n) o)) (OpensAs n)
found_as name n None = tt
found_as name n (Some t) = reopening_as name n t

opens_as : (s : State) (name : List ℕ) (n found : ℕ) → IfSome (step s (Reopened name n) (Reread found (Some Kept))) (OpensAs n)
opens_as s name n found = found_as name n (survived s found)

some_as : (n : ℕ) (P : State → Type 0) (o : Option Answer) → IfSome o (OpensAs n) → IsSomeAnd o (λ a. P a.after)
    → (after : State) × (o ≡ Some (ok after)) × P after × (after.log_bytes ≡ n)
some_as n P None h p = absurd p
some_as n P (Some a) h p = (a.after, ap (λ (x : Answer). Some x) h.0, p, h.1)

pub reopened_as : (s : State) (name : List ℕ) (n found : ℕ) (P : State → Type 0)
    → IsSomeAnd (step s (Reopened name n) (Reread found (Some Kept))) (λ a. P a.after)
    → (after : State) × (step s (Reopened name n) (Reread found (Some Kept)) ≡ Some (ok after)) × P after × (after.log_bytes ≡ n)
reopened_as s name n found P p = some_as n P _ (opens_as s name n found) p
