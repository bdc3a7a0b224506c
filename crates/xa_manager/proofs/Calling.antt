-- What a call has done, by its refusals and its row.
use Rattle.std.proofs.Common.{◌≡◌, ◌⊎◌, ⊎_elim, ℕ, ◌+◌, Bool, true, false, List, Option, Some, None, IsSomeAnd, MatchBool, if◌then◌else◌, refl, ap, sym, ◌∙◌, subst, w32, to_z, of_z}
use Rattle.std.specs.Prelude.{Result, Ok, Err, IsOk, IfOk, OnErr}
use Rattle.std.specs.declared.alloc.AllocError.{AllocError}
use Rattle.xa_disk.specs.declared.disk.Disk.{Ghosts}
use Rattle.xa_codes.specs.Flags.{has}
use Rattle.xa_codes.specs.declared.codes.TheConstants.{XAER_RMFAIL, XA_RETRY}
use Rattle.xa_codes.specs.declared.flags.TheConstants.{TMONEPHASE}
use Rattle.xa_codes.specs.declared.detail.Detail.TheVariants as detail
use Rattle.xa_frame.specs.declared.reply.Reply.{Reply}
use Rattle.xa_frame.specs.declared.request.Request.{Request}
use Rattle.xa_frame.specs.declared.request.Request.TheVariants as request
use Rattle.xa_frame.specs.declared.request.Request.TheVariants.{Restart, Trim}
use Rattle.xa_log.specs.Believed.LogView.{LogView}
use Rattle.xa_model.specs.declared.event.Event.{Event}
use Rattle.xa_model.specs.declared.event.Event.TheVariants.{Connect, Call}
use Rattle.xa_model.specs.declared.outcome.Outcome.{Outcome}
use Rattle.xa_model.specs.declared.outcome.Outcome.TheVariants.{Quiet}
use Rattle.xa_model.specs.State.{State, Standing}
use Rattle.xa_model.specs.Answer.{Answer, answer, detailed}
use Rattle.xa_model.specs.Early.{call_of, passes_down, early_refusal, Context}
use Rattle.xa_model.specs.Events.{IsEvent, IsAsked, asks_restart, asks_boot, begins_boot, asks_trim}
use Rattle.xa_model.specs.Invariants.Loggable.{IsRecoverable}
use Rattle.xa_model.specs.Restarting.{restart_turn}
use Rattle.xa_model.specs.Trimming.{trim_refusal, trim_became, trim_turn}
use Rattle.xa_model.specs.Turn.{Turn, Now, Checkpoints, Asked, taken, unless_now}
use Rattle.xa_model.specs.Step.{row, respond, asked, record_in, is_up, step}
use Rattle.xa_model.specs.Logging.{supposed}
use Rattle.xa_model.proofs.Further.{quiet_turn}
use Rattle.xa_record.specs.declared.record.Record.TheVariants as logged
use Rattle.xa_model.specs.Step.{turn as turn_of, context_of}
use Rattle.xa_assoc.specs.Refusals.{is_memory, IsBare}
use Rattle.xa_assoc.specs.declared.fault.ConnectFault.TheVariants.{Memory}
use Rattle.xa_manager.specs.declared.manager.Manager.{Manager}
use Rattle.xa_manager.specs.declared.done.Done.{Done}
use Rattle.xa_manager.specs.Believed.Crash.{LeavesBy, LeavesLook, LeavesWanting}
use Rattle.xa_manager.specs.Believed.LogStands.{Trusts}
use Rattle.xa_manager.specs.Believed.Answered.{FullyAnswered, HasCalledFor, StaysFor, connect_reply, may_want, memory_code}
use Rattle.xa_manager.specs.View.{View, context_at}
use Rattle.xa_manager.specs.Managed.{view, ManagerStandsFor, AnswersAs}
use Rattle.xa_manager.specs.Stands.{TablesStandFor, Follows, FollowsDown, Stays, StaysDown}
use Rattle.xa_manager.specs.Replies.{IsFresh}
use Rattle.xa_manager.specs.Turns.{Takes, TakesTurn, HasDone, HasRestarted, HasTrimmed, HasWanted}
use Rattle.xa_manager.proofs.OnePhase.{refused_turn, passed_turn}
use Rattle.xa_manager.proofs.Stepping.{asked_by, now_steps_by, has_done, now_leaves, quiet_crash}
use Rattle.xa_manager.proofs.Replying.{bare_fresh}
use Rattle.xa_manager.proofs.Taking.{takes_row, stays_up}

context_by : (b : Bool) (k : View) (s : State) (n : ℕ) → TablesStandFor b k s → context_of s n ≡ context_at b k n
context_by true k s n st =
    ap (λ (standing : Standing). record (context_of s n) { up = is_up standing }) st.up
    ∙ ap (λ (name : List ℕ). record (context_of s n) { up = true; name = name }) (sym st.name)
    ∙ ap (λ (o : Option Bool). record (context_of s n) { up = true; name = k.name; session = o }) (sym (st.sessions.opened n))
    ∙ ap (λ (moment : ℕ). record (context_at true k n) { moment = moment }) (sym st.branches.moment)
context_by false k s n st =
    ap (λ (standing : Standing). record (context_of s n) { up = is_up standing }) st.down
    ∙ ap (λ (name : List ℕ). record (context_of s n) { up = false; name = name }) (sym st.name)
    ∙ ap (λ (o : Option Bool). record (context_of s n) { up = false; name = k.name; session = o }) (sym (st.sessions.opened n))
    ∙ ap (λ (moment : ℕ). record (context_at false k n) { moment = moment }) (sym st.moment)

-- neither a restart nor a trim is lost with a group

none_unless : (o : Option Reply) (s : State) (t : Turn) → record_in t ≡ None → record_in (unless_now o s t) ≡ None
none_unless None s t h = h
none_unless (Some reply) s t h = refl

restart_alone : (s : State) (n : ℕ) → turn_of s (Asked (Call n Restart)) ≡ asked s.standing (respond s (Call n Restart))
restart_alone s n =
    quiet_turn s (Call n Restart) (none_unless (early_refusal (context_of (supposed s) n) Restart) (supposed s) (restart_turn (supposed s)) refl)

trim_alone : (s : State) (n : ℕ) → turn_of s (Asked (Call n Trim)) ≡ asked s.standing (respond s (Call n Trim))
trim_alone s n =
    let t = supposed s in
    quiet_turn s (Call n Trim) (none_unless (early_refusal (context_of t n) Trim) t (trim_turn t)
    (none_unless (trim_refusal t) t (Checkpoints (logged.Opened (t.logged_boot + 1)) (trim_became t (t.logged_boot + 1))) refl))

never : (b : Bool) (A : Type 0) → b ≡ false → b ≡ true → A
never true A e h = absurd (cc e)
never false A e h = absurd (cc h)

either_tables : (b : Bool) (k k' : View) (s : State) (act : State → Answer) (reply : Reply) → Follows k act reply k' → FollowsDown k act reply k' → TablesStandFor b k s
    → ((act s).reply ≡ reply) × (IsRecoverable (act s).after → TablesStandFor b k' (act s).after)
either_tables true k k' s act reply f d st = (f.answers s st, λ r. f.stands s st r)
either_tables false k k' s act reply f d st = (d.answers s st, λ r. d.stands s st r)

either_stays : (b : Bool) (k k' : View) (s : State) → Stays k k' → StaysDown k k' → TablesStandFor b k s → TablesStandFor b k' s
either_stays true k k' s f d st = f s st
either_stays false k k' s f d st = d s st

pub wants : {T E : Type 0} (r : Result T E) (e : E) (b : Bool) → r ≡ Err e → (b ≡ false → IsOk r) → b ≡ true
wants r e true is h = refl
wants (Ok x) e false is h = absurd (cc is)
wants (Err x) e false is h = absurd (cc (h refl))

pub up_by : (up passes : Bool) → passes ≡ false → (up ≡ false → passes ≡ true) → up ≡ true
up_by true passes stops h = refl
up_by false passes stops h = absurd (cc (stops, h refl))

pub wanted_is : (b : Bool) (A B : Type 0) → b ≡ true → A → MatchBool b A B
wanted_is true A B e h = h
wanted_is false A B e h = absurd (cc e)

-- a code of the standard is a word of its own
one_phase_kept : (b : Bool) → to_z w32 (of_z w32 (if b then XAER_RMFAIL else XA_RETRY)) ≡ (if b then XAER_RMFAIL else XA_RETRY)
one_phase_kept true = refl
one_phase_kept false = refl

pub code_kept : (request : Request) → to_z w32 (of_z w32 (memory_code request)) ≡ memory_code request
code_kept (request.Open flags info) = refl
code_kept (request.Close flags) = refl
code_kept (request.Start flags xid) = refl
code_kept (request.End flags xid) = refl
code_kept (request.Prepare flags xid) = refl
code_kept (request.Commit flags xid) = one_phase_kept (has flags TMONEPHASE)
code_kept (request.Rollback flags xid) = refl
code_kept (request.Forget flags xid) = refl
code_kept (request.Recover flags count) = refl
code_kept (request.Get key) = refl
code_kept (request.Put key value) = refl
code_kept (request.Delete key) = refl
code_kept (request.Decide direction xid) = refl
code_kept (request.Doom xid) = refl
code_kept request.Restart = refl
code_kept request.Trim = refl
code_kept (request.Timeout seconds) = refl
code_kept (request.Tick moment) = refl
code_kept (request.Branches count after) = refl

module _ {D : Type 0} (disks : Ghosts D) where
  early_same : (m : Manager D) (s : State) (n : ℕ) (request : Request) → ManagerStandsFor disks m s
      → early_refusal (context_of s n) request ≡ early_refusal (context_at m.up (view m) n) request
  early_same m s n request st = ap (λ (c : Context). early_refusal c request) (context_by m.up (view m) s n st.tables)

  quiet_called : (trims : Bool) (log : LogView D) → HasCalledFor disks trims Quiet log log
  quiet_called true log = refl
  quiet_called false log = refl

  pub refused_done : (m : Manager D) (n : ℕ) (request : Request) (reply : Reply) → Some reply ≡ early_refusal (context_at m.up (view m) n) request → is_memory reply.detail ≡ false
      → HasDone disks m (Call n request) reply Quiet m
  refused_done m n request reply h served = record {
    steps = λ s st premises.
        let is : respond s (Call n request) ≡ Now (answer reply s) = refused_turn (early_refusal (context_of s n) request) s (row s n request) reply (h ∙ sym (early_same m s n request st)) in
        let steps : step s (Asked (Call n request)) Quiet ≡ Some (answer reply s) = now_steps_by disks m s (Call n request) (answer reply s) st is in
        subst (λ (o : Option Answer). IsSomeAnd o (λ a. (a.reply ≡ reply) × ManagerStandsFor disks m a.after)) (sym steps) (refl, st);
    called = λ s st premises. quiet_called (asks_trim request) m.log;
    crash = λ s st trusts. quiet_crash disks m m s (turn_of s (Asked (Call n request))) Quiet st refl refl;
    served = served;
  }

  pub passed_row : (m : Manager D) (s : State) (n : ℕ) (request : Request) → None ≡ early_refusal (context_at m.up (view m) n) request → ManagerStandsFor disks m s
      → respond s (Call n request) ≡ row s n request
  passed_row m s n request h st = passed_turn (early_refusal (context_of s n) request) s (row s n request) (h ∙ sym (early_same m s n request st))

  pub row_done : (m m' : Manager D) (n : ℕ) (request : Request) (reply : Reply) (outcome : Outcome) → IsAsked request → asks_boot request ≡ false → None ≡ early_refusal (context_at m.up (view m) n) request
      → is_memory reply.detail ≡ false → ((s : State) → ManagerStandsFor disks m s → Takes disks m (row s n request) reply outcome m')
      → HasDone disks m (Call n request) reply outcome m'
  row_done m m' n request reply outcome event other h served takes =
      has_done disks m m' (Call n request) reply outcome event other served
      (λ s st. subst (λ (t : Turn). Takes disks m t reply outcome m') (sym (passed_row m s n request h st)) (takes s st))

  -- a row that is answered also while the manager is down
  pub takes_either : (m m' : Manager D) (act : State → Answer) (reply : Reply) (outcome : Outcome) → outcome ≡ Quiet → m'.log ≡ m.log → m'.up ≡ m.up → m'.doubt ≡ m.doubt
      → Follows (view m) act reply (view m') → FollowsDown (view m) act reply (view m') → (s : State) → ManagerStandsFor disks m s
      → Takes disks m (Now (act s)) reply outcome m'
  takes_either m m' act reply outcome quiet log up doubt f d s st =
      let x = either_tables m.up (view m) (view m') s act reply f d st.tables in
      record {
        reply_is = x.0;
        outcome_is = quiet;
        log = log;
        up = up;
        doubt = doubt;
        tables = λ r. subst (λ (b : Bool). TablesStandFor b (view m') (act s).after) (sym up) (x.1 r);
      }

  pub both_done : (m m' : Manager D) (n : ℕ) (request handed : Request) (o : Option Reply) (act : State → Answer) (reply : Reply) → IsAsked request → request ≡ handed → asks_boot handed ≡ false
      → o ≡ None → o ≡ early_refusal (context_at m.up (view m) n) request → ((s : State) → row s n handed ≡ Now (act s)) → m'.log ≡ m.log → m'.up ≡ m.up → m'.doubt ≡ m.doubt
      → Follows (view m) act reply (view m') → FollowsDown (view m) act reply (view m') → HasDone disks m (Call n request) reply Quiet m'
  both_done m m' n request handed o act reply event same other none h is log up doubt f d =
      row_done m m' n request reply Quiet event (ap asks_boot same ∙ other) (sym none ∙ h) f.served
      (λ s st. subst (λ (t : Turn). Takes disks m t reply Quiet m') (sym (ap (row s n) same ∙ is s)) (takes_either m m' act reply Quiet refl log up doubt f d s st))

  -- the row of a request that a manager which is down refuses
  pub turn_done : (m m' : Manager D) (n : ℕ) (request handed : Request) (o : Option Reply) (turn : State → Turn) (reply : Reply) (outcome : Outcome) → IsAsked request → request ≡ handed
      → asks_boot handed ≡ false → passes_down (call_of handed) ≡ false → o ≡ None → o ≡ early_refusal (context_at m.up (view m) n) request
      → (o ≡ None → m.up ≡ false → passes_down (call_of request) ≡ true) → ((s : State) → row s n handed ≡ turn s) → TakesTurn disks m turn reply outcome m'
      → HasDone disks m (Call n request) reply outcome m'
  turn_done m m' n request handed o turn reply outcome event same other stops none h passes is x =
      let is_up = up_by m.up (passes_down (call_of request)) (ap (λ (r : Request). passes_down (call_of r)) same ∙ stops) (passes none) in
      row_done m m' n request reply outcome event (ap asks_boot same ∙ other) (sym none ∙ h) x.served
      (λ s st. subst (λ (t : Turn). Takes disks m t reply outcome m') (sym (ap (row s n) same ∙ is s)) (x.takes s st is_up))

  pub turns_done : (m m' : Manager D) (n : ℕ) (request handed : Request) (o : Option Reply) (turn : State → Turn) (r : Result Done AllocError) → IsAsked request → request ≡ handed
      → asks_boot handed ≡ false → passes_down (call_of handed) ≡ false → o ≡ None → o ≡ early_refusal (context_at m.up (view m) n) request
      → (o ≡ None → m.up ≡ false → passes_down (call_of request) ≡ true) → ((s : State) → row s n handed ≡ turn s) → IfOk r (λ d. TakesTurn disks m turn d.reply d.outcome m') → IfOk r (λ d. IsBare d.reply)
      → IfOk r (λ d. HasDone disks m (Call n request) d.reply d.outcome m' × IsFresh d.reply)
  turns_done m m' n request handed o turn (Ok d) event same other stops none h passes is x bare =
      (turn_done m m' n request handed o turn d.reply d.outcome event same other stops none h passes is x, bare_fresh d.reply bare)
  turns_done m m' n request handed o turn (Err e) event same other stops none h passes is x bare = tt

  -- the same of a row of the tables
  pub follows_done : (m m' : Manager D) (n : ℕ) (request handed : Request) (o : Option Reply) (act : State → Answer) (reply : Reply) → IsAsked request → request ≡ handed
      → asks_boot handed ≡ false → passes_down (call_of handed) ≡ false → o ≡ None → o ≡ early_refusal (context_at m.up (view m) n) request
      → (o ≡ None → m.up ≡ false → passes_down (call_of request) ≡ true) → ((s : State) → row s n handed ≡ Now (act s)) → m'.log ≡ m.log → m'.up ≡ m.up → m'.doubt ≡ m.doubt
      → Follows (view m) act reply (view m') → HasDone disks m (Call n request) reply Quiet m'
  follows_done m m' n request handed o act reply event same other stops none h passes is log up doubt f =
      turn_done m m' n request handed o (λ s. Now (act s)) reply Quiet event same other stops none h passes is (takes_row disks m m' act reply Quiet refl log up doubt f)

  -- a request that begins a boot, by what its turn does of whichever state the manager stood for
  boot_done : (m m' : Manager D) (n : ℕ) (request : Request) (reply : Reply) (outcome : Outcome) → ((s : State) → turn_of s (Asked (Call n request)) ≡ asked s.standing (respond s (Call n request)))
      → None ≡ early_refusal (context_at m.up (view m) n) request
      → ((s : State) → ManagerStandsFor disks m s → Trusts disks ⊎ (asks_restart request ≡ false) → AnswersAs disks (taken (row s n request) outcome) reply m')
      → ((s : State) → ManagerStandsFor disks m s → HasCalledFor disks (asks_trim request) outcome m.log m'.log)
      → ((s : State) → ManagerStandsFor disks m s → Trusts disks → LeavesBy disks m.log (row s n request) outcome m'.log s)
      → is_memory reply.detail ≡ false → HasDone disks m (Call n request) reply outcome m'
  boot_done m m' n request reply outcome alone h answers called leaves served = record {
    steps = λ s st premises. subst (λ (t : Turn). AnswersAs disks (taken t outcome) reply m') (sym (is s st)) (answers s st premises);
    called = λ s st premises. called s st;
    crash = λ s st trusts. subst (λ (t : Turn). LeavesBy disks m.log t outcome m'.log s) (sym (is s st)) (leaves s st trusts);
    served = served;
  }
    where
      is : (s : State) → ManagerStandsFor disks m s → turn_of s (Asked (Call n request)) ≡ row s n request
      is s st = alone s ∙ (asked_by m.up (view m) s (respond s (Call n request)) st.tables ∙ passed_row m s n request h st)

  both_ok : (r : Result Done AllocError) {P Q R : Done → Type 0} → ((d : Done) → P d → Q d → R d) → IfOk r P → IfOk r Q → IfOk r R
  both_ok (Ok d) f p q = f d p q
  both_ok (Err e) f p q = tt

  -- a restart, of whichever state the manager stood for, up or down
  pub restart_done : (m m' : Manager D) (n : ℕ) (request : Request) (r : Result Done AllocError) → request ≡ Restart → None ≡ early_refusal (context_at m.up (view m) n) request
      → IfOk r (λ d. HasRestarted disks m d.reply d.outcome m') → IfOk r (λ d. IsBare d.reply)
      → IfOk r (λ d. HasDone disks m (Call n request) d.reply d.outcome m' × IsFresh d.reply)
  restart_done m m' n request r same h =
      both_ok r (λ d x bare. (
        subst (λ (q : Request). HasDone disks m (Call n q) d.reply d.outcome m') (sym same)
            (boot_done m m' n Restart d.reply d.outcome (λ s. restart_alone s n) (subst (λ (q : Request). None ≡ early_refusal (context_at m.up (view m) n) q) same h)
            (λ s st premises. ⊎_elim (λ trusts. x.turn s st trusts) (λ no. absurd (cc no)) premises) (λ s st. x.called) x.leaves x.served),
        bare_fresh d.reply bare,
      ))

  -- a trim, of whichever state the manager stood for, which was up
  pub trim_done : (m m' : Manager D) (n : ℕ) (request : Request) (r : Result Done AllocError) → request ≡ Trim → None ≡ early_refusal (context_at m.up (view m) n) request
      → IfOk r (λ d. HasTrimmed disks m d.reply d.outcome m') → IfOk r (λ d. IsFresh d.reply)
      → IfOk r (λ d. HasDone disks m (Call n request) d.reply d.outcome m' × IsFresh d.reply)
  trim_done m m' n request r same h =
      both_ok r (λ d x fresh. (
        subst (λ (q : Request). HasDone disks m (Call n q) d.reply d.outcome m') (sym same)
            (boot_done m m' n Trim d.reply d.outcome (λ s. trim_alone s n) (subst (λ (q : Request). None ≡ early_refusal (context_at m.up (view m) n) q) same h) (λ s st premises. x.turn s st) x.called x.leaves x.served),
        fresh,
      ))

  -- the outcome is no part of what a manager stands for
  told : (m : Manager D) (o : Outcome) (s : State) → ManagerStandsFor disks m s → ManagerStandsFor disks (record m { outcome = o }) s
  told m o s st = record { tables = st.tables; roomy = st.roomy; end = st.end; alive = st.alive; modern = st.modern; log_bytes = st.log_bytes; doubt = st.doubt; backed = st.backed; log = st.log }

  and_then : (o : Option Answer) (P Q : Answer → Type 0) → ((a : Answer) → P a → Q a) → IsSomeAnd o P → IsSomeAnd o Q
  and_then None P Q f h = h
  and_then (Some a) P Q f h = f a h

  pub served_not : (b : Bool) (A B : Type 0) → b ≡ false → B → MatchBool b A B
  served_not true A B e h = absurd (cc e)
  served_not false A B e h = h

  pub restart_answered : (m' : Manager D) (s : State) (reply : Reply) (outcome : Outcome) → AnswersAs disks (taken (restart_turn s) outcome) reply m'
      → AnswersAs disks (taken (restart_turn s) outcome) reply (record m' { outcome = outcome })
  restart_answered m' s reply outcome h = and_then (taken (restart_turn s) outcome) _ _ (λ a x. (x.0, told m' outcome a.after x.1)) h

  pub done_answered : (m m' : Manager D) (e : Event) (reply : Reply) (outcome : Outcome) → HasDone disks m e reply outcome m'
      → FullyAnswered disks m e reply (record m' { outcome = outcome })
  done_answered m m' e reply outcome x = record {
    answered = served_not (is_memory reply.detail) _ _ x.served
        (λ s st premises. and_then (step s (Asked e) outcome) _ _ (λ a h. (h.0, told m' outcome a.after h.1)) (x.steps s st premises));
    pinned = λ w. never (is_memory reply.detail) _ x.served w;
    called = λ served s st premises. x.called s st premises;
    crash = λ served s st trusts. x.crash s st trusts;
    quiet = λ w. never (is_memory reply.detail) _ x.served w;
    untouched = λ w. never (is_memory reply.detail) _ x.served w;
    wanting = λ w. never (is_memory reply.detail) _ x.served w;
  }

  -- where memory was wanted

  wanting_by : (m m' : Manager D) (b : Bool) → (b ≡ true → (s : State) → ManagerStandsFor disks m s → Trusts disks → LeavesLook disks m.log m'.log s)
      → (s : State) → ManagerStandsFor disks m s → Trusts disks → LeavesWanting disks m.log b m'.log s
  wanting_by m m' true looks s st trusts = looks refl s st trusts
  wanting_by m m' false looks s st trusts = now_leaves disks m s st

  wanted_of : (m m' : Manager D) (request : Request) → may_want request ≡ true → asks_restart request ≡ false → StaysFor disks m m' → m'.log ≡ m.log → HasWanted disks m request m'
  wanted_of m m' request may other stays log = record {
    may = may;
    stays = stays;
    quiet = rw log (refl, refl);
    untouched = λ is. log;
    leaves = λ restart. absurd (cc (restart, other));
  }

  -- a row of the tables, of a request that a manager which is down refuses
  pub follows_wanted : (m m' : Manager D) (request handed : Request) (o : Option Reply) → request ≡ handed → may_want handed ≡ true → asks_restart handed ≡ false → passes_down (call_of handed) ≡ false
      → o ≡ None → (o ≡ None → m.up ≡ false → passes_down (call_of request) ≡ true) → m'.up ≡ m.up → m'.log ≡ m.log → m'.doubt ≡ m.doubt → Stays (view m) (view m') → HasWanted disks m request m'
  follows_wanted m m' request handed o same may other stops none passes up log doubt stays =
      let is_up = up_by m.up (passes_down (call_of request)) (ap (λ (r : Request). passes_down (call_of r)) same ∙ stops) (passes none) in
      wanted_of m m' request (ap may_want same ∙ may) (ap asks_restart same ∙ other) (stays_up disks m m' is_up up log doubt stays) log

  -- a row of the manager
  pub turns_wanted : (m m' : Manager D) (request handed : Request) (r : Result Done AllocError) → request ≡ handed → asks_restart handed ≡ false → (may_want handed ≡ false → IsOk r)
      → OnErr r (StaysFor disks m m') → OnErr r (m'.log ≡ m.log) → OnErr r (HasWanted disks m request m')
  turns_wanted m m' request handed (Ok d) same other room stays log = tt
  turns_wanted m m' request handed (Err e) same other room stays log =
      let r : Result Done AllocError = Err e in
      wanted_of m m' request (ap may_want same ∙ wants r e (may_want handed) refl room) (ap asks_restart same ∙ other) stays log

  pub wanted_answered : (m m' : Manager D) (n : ℕ) (request : Request) (reply : Reply) → reply ≡ detailed (memory_code request) detail.Memory → HasWanted disks m request m' → m'.outcome ≡ m.outcome
      → FullyAnswered disks m (Call n request) reply m'
  wanted_answered m m' n request reply is x outcome =
      rw is (record {
        answered = (x.stays, outcome);
        pinned = λ w. (x.may, refl);
        called = λ served. absurd (cc served);
        crash = λ served. absurd (cc served);
        quiet = λ w. x.quiet;
        untouched = λ w. x.untouched;
        wanting = λ w. wanting_by m m' (asks_restart request) x.leaves;
      })

  pub either_stays_for : (m m' : Manager D) → m'.up ≡ m.up → m'.log ≡ m.log → m'.doubt ≡ m.doubt → Stays (view m) (view m') → StaysDown (view m) (view m') → StaysFor disks m m'
  either_stays_for m m' up log doubt stays down s st = record {
    tables = subst (λ (b : Bool). TablesStandFor b (view m') s) (sym up) (either_stays m.up (view m) (view m') s stays down st.tables);
    roomy = st.roomy;
    end = λ e. ap (λ (l : LogView D). l.end) log ∙ st.end (sym up ∙ e);
    alive = λ e. ap (λ (l : LogView D). l.lost) log ∙ st.alive (sym up ∙ e);
    modern = λ e. ap (λ (l : LogView D). l.format) log ∙ st.modern (sym up ∙ e);
    log_bytes = ap (λ (l : LogView D). l.log_bytes) log ∙ st.log_bytes;
    doubt = rw doubt st.doubt;
    backed = λ e. rw log (st.backed (sym up ∙ e));
    log = λ trusts. rw log (st.log trusts);
  }

  -- an event without a request
  pub event_done : (m m' : Manager D) (e : Event) (act : State → Answer) (reply : Reply) → IsEvent e → begins_boot e ≡ false → ((s : State) → respond s e ≡ Now (act s)) → m'.log ≡ m.log → m'.up ≡ m.up → m'.doubt ≡ m.doubt
      → Follows (view m) act reply (view m') → FollowsDown (view m) act reply (view m') → HasDone disks m e reply Quiet m'
  event_done m m' e act reply event other is log up doubt f d =
      has_done disks m m' e reply Quiet event other f.served
      (λ s st. subst (λ (t : Turn). Takes disks m t reply Quiet m') (sym (is s)) (takes_either m m' act reply Quiet refl log up doubt f d s st))

  pub event_answered : (m m' : Manager D) (e : Event) (act : State → Answer) (reply : Reply) → IsEvent e → begins_boot e ≡ false → ((s : State) → respond s e ≡ Now (act s)) → m'.log ≡ m.log → m'.up ≡ m.up → m'.doubt ≡ m.doubt
      → Follows (view m) act reply (view m') → FollowsDown (view m) act reply (view m') → FullyAnswered disks m e reply (record m' { outcome = Quiet })
  event_answered m m' e act reply event other is log up doubt f d =
      done_answered m m' e reply Quiet (event_done m m' e act reply event other is log up doubt f d)

  pub connect_wanted : (m m' : Manager D) → StaysFor disks m m' → m'.outcome ≡ m.outcome → m'.log ≡ m.log → FullyAnswered disks m Connect (connect_reply (Err Memory)) m'
  connect_wanted m m' stays outcome log =
      record {
        answered = (stays, outcome);
        pinned = λ w. (refl, refl);
        called = λ served. absurd (cc served);
        crash = λ served. absurd (cc served);
        quiet = λ w. rw log (refl, refl);
        untouched = λ w other. log;
        wanting = λ w s st trusts. now_leaves disks m s st;
      }

  -- the low water is given once a request is answered

  pub given_done : (m mid m' : Manager D) (e : Event) (reply : Reply) (outcome : Outcome) → HasDone disks m e reply outcome mid
      → StaysFor disks mid m' → m'.log ≡ mid.log → HasDone disks m e reply outcome m'
  given_done m mid m' e reply outcome x stays log = record {
    steps = λ s st premises. and_then (step s (Asked e) outcome) _ _ (λ a h. (h.0, stays a.after h.1)) (x.steps s st premises);
    called = λ s st premises. rw log (x.called s st premises);
    crash = λ s st trusts. rw log (x.crash s st trusts);
    served = x.served;
  }

  pub given_wanted : (m mid m' : Manager D) (request : Request) → HasWanted disks m request mid → StaysFor disks mid m' → m'.log ≡ mid.log → HasWanted disks m request m'
  given_wanted m mid m' request x stays log = record {
    may = x.may;
    stays = λ s st. stays s (x.stays s st);
    quiet = rw log x.quiet;
    untouched = λ other. log ∙ x.untouched other;
    leaves = λ restart s st trusts. rw log (x.leaves restart s st trusts);
  }
