-- Every step is a move, and so every history keeps what moves keep.
use Rattle.std.proofs.Common.{◌≡◌, ◌∙◌, ℕ, zero, suc, ◌+◌, ◌≤◌, Bool, true, false, ◌&&◌, cond, List, [], ◌∷◌, Option, Some, None, refl, sym, ap, subst, arith}
use Rattle.std.specs.Prelude.{IfSome, filter, nat_lt, option_map}
use Rattle.xa_frame.specs.declared.request.Request.{Request}
use Rattle.xa_frame.specs.declared.request.Request.TheVariants.{Restart, Trim}
use Rattle.xa_record.specs.declared.record.Record.{Record}
use Rattle.xa_record.specs.declared.record.Record.TheVariants as logged
use Rattle.xa_model.specs.declared.event.Event.{Event}
use Rattle.xa_model.specs.declared.event.Event.TheVariants as event
use Rattle.xa_model.specs.State.{State}
use Rattle.xa_model.specs.Answer.{Answer, ok}
use Rattle.xa_model.specs.Early.{early_refusal}
use Rattle.xa_model.specs.Turn.{Happening, Asked, Reopened, Stops, Opens}
use Rattle.xa_model.specs.Step.{respond, asked, turn, context_of, further_record}
use Rattle.xa_model.specs.Events.{HaveHappened, begins_boot}
use Rattle.xa_model.specs.History.{Entry, Leads}
use Rattle.xa_model.specs.Logging.{applied}
use Rattle.xa_model.specs.Invariants.Loggable.{IsRecoverable}
use Rattle.xa_model.specs.Trimming.{trim_refusal, trim_became, trim_turn}
use Rattle.xa_model.specs.Restarting.{with_first, looked, lasts, survived, restarted, restarting, restart_turn, refused_opening, reopen_became, reopening, reopen_turn, can_open}
use Rattle.xa_model.proofs.AppliedAll.{IsFirst, if_imply}
use Rattle.xa_model.proofs.Restarts.{open_first, found_boots}
use Rattle.xa_model.proofs.Restores.{idle}
use Rattle.xa_model.proofs.Recoveries.{keeps_recoverable}
use Rattle.xa_model.proofs.Replies.{AllOf, AllOfReading, taken_all, asked_all, joins_all, unless_all, each_fate, restarting_all}
use Rattle.xa_model.proofs.Moves.{Core, core, Remain, Moves, remains, restarts, trims, all_remain, remain_on, lasting_remain}
use Rattle.xa_model.proofs.MovingRows.{Moved, itself, applied_remain, applied_core, event_moved}

-- the state x has the branches of s that remain, and the same reads
record Stems (s x : State) : Type 0 where
  remain : Remain s.branches x.branches
  same : core x ≡ record (core s) { branches = x.branches }
  boots : x.boot ≤ x.logged_boot

still : (s x : State) → Stems s x → Moves (core s) (core x)
still s x h = subst (Moves (core s)) (sym h.same) (remains x.branches h.remain)

boots : (s x : State) → Stems s x → Moves (core s) (core (restarted x (x.logged_boot + 1)))
boots s x h =
    let same : x.boot ≡ s.boot = ap (λ (c : Core). c.boot) h.same in
    restarts (x.logged_boot + 1) (filter lasts x.branches) (omega (arith, same, h.boots)) (remain_on h.remain (lasting_remain x.branches))
    (idle x.branches)

reopens_by : (s x : State) (name : List ℕ) (log_bytes : ℕ) (c : Bool) → Stems s x
    → AllOfReading (Moved s)
    (cond c (Opens (logged.Opened (x.logged_boot + 1)) (reopen_became x name log_bytes (x.logged_boot + 1)))
    (Stops (ok (refused_opening x name log_bytes))))
reopens_by s x name log_bytes true h =
    each_fate (λ a. Moved s (reopen_became x name log_bytes (x.logged_boot + 1) a)) (boots s x h) (still s x h) (still s x h)
reopens_by s x name log_bytes false h = still s x h

-- the state with the first of the open records

record Follows (s x : State) : Type 0 where
  remain : Remain s.branches x.branches
  same : core x ≡ record (core s) { branches = x.branches }

first_follows : (k : ℕ) (rs : List Record) (s : State) → IfSome (with_first k rs s) (Follows s)
first_follows zero rs s = record { remain = all_remain s.branches; same = refl }
first_follows (suc k) [] s = tt
first_follows (suc k) (r ∷ rs) s =
    if_imply (Follows (applied r s)) (Follows s) further (with_first k rs (applied r s)) (first_follows k rs (applied r s))
  where
    further : (x : State) → Follows (applied r s) x → Follows s x
    further x f = record {
      remain = remain_on (applied_remain s r) f.remain;
      same = f.same ∙ ap (λ (c : Core). record c { branches = x.branches }) (applied_core s r);
    }

survived_stems : (s : State) (k : ℕ) → IsRecoverable s → IfSome (survived s k) (Stems s)
survived_stems s k h =
    by_first (with_first k s.open_records s) (first_follows k s.open_records s) (open_first s k h)
  where
    by_first : (o : Option State) → IfSome o (Follows s) → IfSome o (IsFirst s k s.open_records) → IfSome (option_map looked o) (Stems s)
    by_first None f x = tt
    by_first (Some t) f x = record { remain = f.remain; same = f.same; boots = x.loggable.boots }

restart_moved : (s : State) → IsRecoverable s → AllOf (Moved s) (restart_turn s)
restart_moved s h = (
  itself s,
  λ k. found_boots (Stems s) (AllOfReading (Moved s)) s k restarting
      (λ x f. restarting_all (Moved s) x (boots s x f) (still s x f) (still s x f) (still s x f)) (survived_stems s k h),
)

reopen_moved : (s : State) (name : List ℕ) (log_bytes : ℕ) → IsRecoverable s → AllOf (Moved s) (reopen_turn s name log_bytes)
reopen_moved s name log_bytes h = (
  itself s,
  λ k. found_boots (Stems s) (AllOfReading (Moved s)) s k (reopening name log_bytes)
      (λ x f. reopens_by s x name log_bytes (nat_lt x.logged_boot 4294967295 && can_open x log_bytes (x.logged_boot + 1)) f) (survived_stems s k h),
)

pub trim_moved : (s : State) → IsRecoverable s → AllOf (Moved s) (trim_turn s)
trim_moved s h =
    unless_all (Moved s) (trim_refusal s) s _ (λ reply is. itself s)
    (each_fate (λ x. Moved s (trim_became s (s.logged_boot + 1) x)) (trims (s.logged_boot + 1) (omega (arith, h.loggable.boots))) (itself s) (itself s))

restart_only : (s : State) (n : ℕ) (request : Request) → begins_boot (event.Call n request) ≡ true → IsRecoverable s
    → AllOf (Moved s) (respond s (event.Call n request))
restart_only s n Restart e h =
    unless_all (Moved s) (early_refusal (context_of s n) Restart) s (restart_turn s) (λ reply is. itself s)
    (restart_moved s h)
restart_only s n Trim e h =
    unless_all (Moved s) (early_refusal (context_of s n) Trim) s (trim_turn s) (λ reply is. itself s) (trim_moved s h)
restart_only s n request e h = absurd (cc e)

restart_asked : (s : State) (e : Event) → begins_boot e ≡ true → IsRecoverable s → AllOf (Moved s) (respond s e)
restart_asked s event.Connect e h = absurd (cc e)
restart_asked s (event.Hangup n) e h = absurd (cc e)
restart_asked s (event.Call n request) e h = restart_only s n request e h

responds : (s : State) (e : Event) (c : Bool) → begins_boot e ≡ c → IsRecoverable s → AllOf (Moved s) (respond s e)
responds s e true c h = restart_asked s e c h
responds s e false c h = event_moved s e h c

pub turn_moved : (s : State) (happening : Happening) → IsRecoverable s → AllOf (Moved s) (turn s happening)
turn_moved s (Asked e) h =
    joins_all (Moved s) s (further_record s e) (asked s.standing (respond s e))
    (asked_all (Moved s) s.standing (respond s e) (responds s e (begins_boot e) refl h)) (λ r found. itself s)
turn_moved s (Reopened name log_bytes) h = reopen_moved s name log_bytes h

-- what moves keep is kept at each place of a history
pub always : (P : Core → Type 0) → ((s : State) (d : Core) → IsRecoverable s → Moves (core s) d → P (core s) → P d)
    → (first last : State) (entries : List Entry)
    → HaveHappened entries → IsRecoverable first → Leads first entries last → P (core first) → P (core last)
always P keeps first last [] happened h leads k = subst (λ (s : State). P (core s)) (sym leads) k
always P keeps first last (e ∷ es) happened h leads k =
    let a : Answer = record { reply = e.reply; after = leads.0 } in
    let moves : Moved first a = taken_all (Moved first) (turn first e.happening) e.outcome a (turn_moved first e.happening h) leads.1 in
    always P keeps leads.0 last es happened.1 (keeps_recoverable first e.happening e.outcome a happened.0 h leads.1) leads.2
    (keeps first (core leads.0) h moves k)
