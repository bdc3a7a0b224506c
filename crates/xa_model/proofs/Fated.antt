-- What holds of all that a crash may leave goes on to hold, where the records that are logged leave it so.
use Rattle.std.proofs.Common.{◌≡◌, ◌⊎◌, inl, inr, ℕ, zero, suc, ◌+◌, Bool, true, false, List, [], ◌∷◌, ◌++◌, Some, refl, sym, ◌∙◌, ap, subst, arith}
use Rattle.std.specs.Prelude.{Contains, IfSome, option_map}
use Rattle.std.specs.List.{AllByRecursion}
use Rattle.xa_frame.specs.declared.reply.Reply.{Reply}
use Rattle.xa_frame.specs.declared.request.Request.{Request}
use Rattle.xa_frame.specs.declared.request.Request.TheVariants.{Restart, Trim}
use Rattle.xa_record.specs.declared.record.Record.{Record}
use Rattle.xa_model.specs.declared.event.Event.{Event}
use Rattle.xa_model.specs.declared.event.Event.TheVariants as event
use Rattle.xa_model.specs.declared.outcome.Outcome.{Outcome}
use Rattle.xa_model.specs.declared.outcome.Appending.{Appending}
use Rattle.xa_model.specs.declared.outcome.Appending.TheVariants.{Kept, Refused, Lost}
use Rattle.xa_model.specs.State.{State, Standing, Up, Down, Ended}
use Rattle.xa_model.specs.Answer.{Answer}
use Rattle.xa_model.specs.Early.{early_refusal}
use Rattle.xa_model.specs.Durable.{Durable, durable}
use Rattle.xa_model.specs.Fold.{apply}
use Rattle.xa_model.specs.Turn.{Happening, Asked, Reopened, Turn, Nobody, Now, Appends, Checkpoints, Rereads, Joins, Rereading, Stops, Opens}
use Rattle.xa_model.specs.Step.{respond, asked, turn, step, context_of, further_record}
use Rattle.xa_model.specs.Events.{IsEvent, IsHappening, HaveHappened, begins_boot}
use Rattle.xa_model.specs.History.{Entry, Leads}
use Rattle.xa_model.specs.Logging.{applied, lost, lost_too, supposed}
use Rattle.xa_model.specs.Invariants.MayLog.{MayLog}
use Rattle.xa_model.specs.Invariants.Loggable.{IsRecoverable}
use Rattle.xa_model.specs.Laws.Logging.{KeepsLog, LogsWhatLasts, BootLasts, BeginsWhatLasts, apply_all}
use Rattle.xa_model.specs.Trimming.{trim_turn}
use Rattle.xa_model.specs.ListedLaw.{IsDone, MayBeDone}
use Rattle.xa_model.specs.Restarting.{fates, fates_with, restart_turn, reopen_turn, restarting, reopening, survived}
use Rattle.xa_model.proofs.AppliedAll.{applied_open, all_lasts, come_to, fates_come, first_fate}
use Rattle.xa_model.proofs.AppliedDecisions.{applied_lasts}
use Rattle.xa_model.proofs.Further.{further_is, further_may}
use Rattle.xa_model.proofs.LastLogged.{LogsLast, event_logs_last}
use Rattle.xa_model.proofs.LoggedEvents.{events_log_what_lasts}
use Rattle.xa_model.proofs.Restarts.{IsFound, survived_found, found_boots, restart_lasts, reopen_lasts, restarts, reopens}
use Rattle.xa_model.proofs.Trims.{trim_asked, trim_lasts}
use Rattle.xa_model.proofs.Recoveries.{keeps_recoverable}
use Rattle.xa_model.proofs.Asking.{IsAsked, Logs, event_logs, standing_logs}
use Rattle.xa_model.proofs.Replies.{AllOf, AllOfReading, taken_all, asked_all, joins_all, unless_all}

-- all that a crash may leave has it
abbrev pub IsFated : (Durable → Type 0) → State → Type 0
IsFated P s = AllByRecursion P (fates s)

pub all_contained : (P : Durable → Type 0) (xs : List Durable) (d : Durable) → AllByRecursion P xs → Contains xs d → P d
all_contained P [] d h (k, less, e) = absurd (omega arith)
all_contained P (x ∷ xs) d h (zero, less, e) = subst P e h.0
all_contained P (x ∷ xs) d h (suc k, less, e) = all_contained P xs d h.1 (k, omega arith, e)

-- so what would last now has it
pub now_has : (P : Durable → Type 0) (s : State) → IsFated P s → P (durable s)
now_has P s all = all_contained P (fates s) (durable s) all (first_fate s s.open_records)

-- and all that the open records come to
pub fates_are : (P : Durable → Type 0) (t : State) (d : Durable) (rs : List Record) → t.open_records ≡ rs → IsRecoverable t → durable t ≡ d
    → AllByRecursion P (come_to d rs) → IsFated P t
fates_are P t d rs e h same all =
    let come : fates t ≡ come_to d rs
    = fates_come t t.open_records h.sound h.open_records ∙ ap (come_to (durable t)) e ∙ ap (λ (x : Durable). come_to x rs) same in
    subst (AllByRecursion P) (sym come) all

pub come_is : (P : Durable → Type 0) (s : State) → IsRecoverable s → IsFated P s → AllByRecursion P (come_to (durable s) s.open_records)
come_is P s h all = subst (AllByRecursion P) (fates_come s s.open_records h.sound h.open_records) all

last_is : (P : Durable → Type 0) (d : Durable) (rs : List Record) → AllByRecursion P (come_to d rs) → P (apply_all rs d)
last_is P d [] all = all.0
last_is P d (r ∷ rs) all = last_is P (apply r d) rs all.1

one_more_is : (P : Durable → Type 0) (d : Durable) (rs : List Record) (r : Record) → AllByRecursion P (come_to d rs) → P (apply r (apply_all rs d))
    → AllByRecursion P (come_to d (rs ++ r ∷ []))
one_more_is P d [] r all last = (all.0, (last, tt))
one_more_is P d (q ∷ rs) r all last = (all.0, one_more_is P (apply q d) rs r all.1 last)

-- where nothing is logged
pub quiet_is : (P : Durable → Type 0) (s t : State) → IsRecoverable s → IsRecoverable t → KeepsLog s t → IsFated P s → IsFated P t
quiet_is P s t h k keeps all = fates_are P t (durable s) s.open_records keeps.open_records k keeps.lasts (come_is P s h all)

pub alone : (P : Durable → Type 0) (s : State) → P (durable s) → s.open_records ≡ [] → IsFated P s
alone P s held none = subst (λ (rs : List Record). AllByRecursion P (fates_with s rs)) (sym none) (held, tt)

-- so has what a crash may leave after each answer, but of these replies
abbrev pub Stays : (Durable → Type 0) → (Reply → Type 0) → Answer → Type 0
Stays P E a = IsRecoverable a.after → (E a.reply → ⊥) → IsFated P a.after

-- a record leaves it so; or, where it may be kept, the reply is one of these
abbrev pub Spares : (Durable → Type 0) → (Reply → Type 0) → State → Record → Type 0
Spares P E s r = (P (durable s) → P (apply r (durable s))) ⊎ ((reply : Reply) → IsDone reply ⊎ MayBeDone reply → E reply)

-- where a record is logged

module _ (P : Durable → Type 0) (s : State) (r : Record) (h : IsRecoverable s) (up : s.standing ≡ Up) (may : MayLog s r) (all : IsFated P s)
    (goes : P (durable s) → P (apply r (durable s))) where
  now : P (durable s)
  now = now_has P s all

  applied_is : IsRecoverable (applied r s) → IsFated P (applied r s)
  applied_is k = fates_are P (applied r s) (apply r (durable s)) [] (applied_open s r ∙ h.settled up) k (applied_lasts s r h.sound may) (goes now, tt)

  lost_is : IsRecoverable (lost s r).after → IsFated P (lost s r).after
  lost_is k = fates_are P (lost s r).after (durable s) (r ∷ []) refl k refl (now, (goes now, tt))

logged_stays : (P : Durable → Type 0) (E : Reply → Type 0) (s : State) (r : Record) (after : Appending → Answer) → IsRecoverable s
    → LogsWhatLasts s (Appends r after) → s.standing ≡ Up → Spares P E s r → IsFated P s → (x : Appending) → Stays P E (after x)
logged_stays P E s r after h l up spares all Refused = λ k other. quiet_is P s (after Refused).after h k l.2 all
logged_stays P E s r after h l up (inl goes) all Kept = subst (Stays P E) (sym l.1) (λ k other. applied_is P s r h up l.0 all goes k)
logged_stays P E s r after h l up (inl goes) all Lost = subst (Stays P E) (sym l.3) (λ k other. lost_is P s r h up l.0 all goes k)
logged_stays P E s r after h l up (inr spared) all Kept = subst (Stays P E) (sym l.1) (λ k other. absurd (other (spared _ (inl refl))))
logged_stays P E s r after h l up (inr spared) all Lost = subst (Stays P E) (sym l.3) (λ k other. absurd (other (spared _ (inr (refl, refl)))))

pub asked_lasts : (s : State) (e : Event) (standing : Standing) → s.standing ≡ standing → IsRecoverable s → begins_boot e ≡ false
    → (asked standing (respond s e) ≡ Nobody) ⊎ LogsWhatLasts s (asked standing (respond s e))
asked_lasts s e Up up h other = inr (events_log_what_lasts s e h.sound other)
asked_lasts s e Down down h other = inr (events_log_what_lasts s e h.sound other)
asked_lasts s e Ended ended h other = inl refl

-- It goes on to hold where a boot's number doesn't matter, and each record that is logged leaves it so.
module _ (P : Durable → Type 0) (E : Happening → Reply → Type 0) (boots : (d : Durable) (n : ℕ) → P d → P (record d { boot = n }))
    (spares : (happening : Happening) (s : State) (r : Record) → IsRecoverable s → MayLog s r → IsAsked happening r → Spares P (E happening) s r) where
  logs_stay : (happening : Happening) (s : State) (t : Turn) → IsRecoverable s → LogsWhatLasts s t → LogsLast s t → Logs (IsAsked happening) t
      → IsFated P s → AllOf (Stays P (E happening)) t
  logs_stay happening s Nobody h l last asks all = tt
  logs_stay happening s (Now a) h l last asks all = λ k other. quiet_is P s a.after h k l all
  logs_stay happening s (Appends r after) h l last asks all =
      λ x. logged_stays P (E happening) s r after h l last.2 (spares happening s r h l.0 asks) all x
  logs_stay happening s (Checkpoints r after) h l last asks all = absurd l
  logs_stay happening s (Rereads failed found) h l last asks all = absurd l
  logs_stay happening s (Joins refused r lost) h l last asks all = absurd l

  -- restarts and openings

  boots_stay : (happening : Happening) (s : State) (x : Rereading) → P (durable s) → s.open_records ≡ [] → BootLasts s x
      → AllOfReading (Stays P (E happening)) x
  boots_stay happening s (Stops a) held none l = λ k other. subst (AllByRecursion P) (sym l.fates) (alone P s held none)
  boots_stay happening s (Opens r after) held none l = by_fate
    where
      by_fate : (x : Appending) → Stays P (E happening) (after x)
      by_fate Kept =
          λ k other. fates_are P (after Kept).after (record (durable s) { boot = s.logged_boot + 1 }) [] l.1.settled k l.1.lasts
          (boots (durable s) (s.logged_boot + 1) held, tt)
      by_fate Refused = λ k other. subst (AllByRecursion P) (sym l.2.fates) (alone P s held none)
      by_fate Lost = λ k other. fates_are P (after Lost).after (durable s) (r ∷ []) l.3.open_records k l.3.lasts
          (held, (subst (λ (q : Record). P (apply q (durable s))) (sym l.0) (boots (durable s) (s.logged_boot + 1) held), tt))

  found_stay : (happening : Happening) (s : State) (boot : State → Rereading)
      → ((t : State) → IsRecoverable t → t.open_records ≡ [] → BootLasts t (boot t)) → IsRecoverable s → IsFated P s → (k : ℕ)
      → IfSome (option_map boot (survived s k)) (AllOfReading (Stays P (E happening)))
  found_stay happening s boot boots h all k =
      found_boots (IsFound s k) (AllOfReading (Stays P (E happening))) s k boot
      (λ t found. boots_stay happening t (boot t) (all_contained P (fates s) (durable t) all found.fate) found.settled (boots t found.recoverable found.settled))
      (survived_found s k h)

  restart_stays : (happening : Happening) (s : State) → IsRecoverable s → IsFated P s → AllOf (Stays P (E happening)) (restart_turn s)
  restart_stays happening s h all =
      ((λ k other. subst (AllByRecursion P) (sym (restart_lasts s h).0.fates) all), found_stay happening s restarting restarts h all)

  reopen_stays : (happening : Happening) (s : State) (name : List ℕ) (log_bytes : ℕ) → IsRecoverable s → IsFated P s
      → AllOf (Stays P (E happening)) (reopen_turn s name log_bytes)
  reopen_stays happening s name log_bytes h all = (
    (λ k other. subst (AllByRecursion P) (sym (reopen_lasts s name log_bytes h).0.fates) all),
    found_stay happening s (reopening name log_bytes) (λ t k none. reopens t name log_bytes k none) h all,
  )

  begins_stay : (happening : Happening) (s : State) (t : Turn) → P (durable s) → IsFated P s → BeginsWhatLasts s t → AllOf (Stays P (E happening)) t
  begins_stay happening s Nobody held all l = tt
  begins_stay happening s (Now a) held all l = λ k other. subst (AllByRecursion P) (sym l.fates) all
  begins_stay happening s (Appends r after) held all l = absurd l
  begins_stay happening s (Checkpoints r after) held all l = boots_stay happening s (Opens r after) held l.1 l.0
  begins_stay happening s (Rereads failed found) held all l = absurd l
  begins_stay happening s (Joins refused r lost) held all l = absurd l

  -- all that happens

  restart_only : (s : State) (n : ℕ) (request : Request) → begins_boot (event.Call n request) ≡ true → IsRecoverable s → IsFated P s
      → AllOf (Stays P (E (Asked (event.Call n request)))) (respond s (event.Call n request))
  restart_only s n Restart e h all =
      unless_all (Stays P (E (Asked (event.Call n Restart)))) (early_refusal (context_of s n) Restart) s (restart_turn s)
      (λ reply is k other. all)
      (restart_stays (Asked (event.Call n Restart)) s h all)
  restart_only s n Trim e h all =
      let Q : Answer → Type 0 = Stays P (E (Asked (event.Call n Trim))) in
      trim_asked (AllOf Q) s n (λ k other. all)
      (λ up. unless_all Q (early_refusal (context_of s n) Trim) s (trim_turn s) (λ reply is k other. all)
      (begins_stay (Asked (event.Call n Trim)) s (trim_turn s) (now_has P s all) all (trim_lasts s h up)))
  restart_only s n request e h all = absurd (cc e)

  restarts_stay : (s : State) (e : Event) → begins_boot e ≡ true → IsRecoverable s → IsFated P s → AllOf (Stays P (E (Asked e))) (respond s e)
  restarts_stay s event.Connect e h all = absurd (cc e)
  restarts_stay s (event.Hangup n) e h all = absurd (cc e)
  restarts_stay s (event.Call n request) e h all = restart_only s n request e h all

  event_stays : (s : State) (e : Event) (c : Bool) → begins_boot e ≡ c → IsEvent e → IsRecoverable s → IsFated P s
      → AllOf (Stays P (E (Asked e))) (asked s.standing (respond s e))
  event_stays s e true restart is h all = asked_all (Stays P (E (Asked e))) s.standing (respond s e) (restarts_stay s e restart h all)
  event_stays s e false other is h all =
      elim (asked_lasts s e s.standing refl h other) [
        | inl none ↦ subst (AllOf (Stays P (E (Asked e)))) (sym none) tt
        | inr l ↦ logs_stay (Asked e) s (asked s.standing (respond s e)) h l (event_logs_last s e (begins_boot e) refl is h) (standing_logs s e) all
      ]

  -- one more record of a group is lost
  further_stays : (s : State) (e : Event) (r : Record) → IsEvent e → IsRecoverable s → further_record s e ≡ Some r → IsFated P s
      → Stays P (E (Asked e)) (lost_too s r)
  further_stays s e r is h found all =
      let f = further_is s e r found in
      let m = further_may s e r is h f in
      let asks : IsAsked (Asked e) r = subst (Logs (IsAsked (Asked e))) f.appends (event_logs (supposed s) e) in
      elim (spares (Asked e) (supposed s) r m.recovers m.last.may asks) [
        | inl goes ↦ λ k other. one_more s r h k all goes
        | inr spared ↦ λ k other. absurd (other (spared _ (inr (refl, refl))))
      ]
    where
      one_more : (s : State) (r : Record) → IsRecoverable s → IsRecoverable (lost_too s r).after → IsFated P s
          → (P (durable (supposed s)) → P (apply r (durable (supposed s)))) → IsFated P (lost_too s r).after
      one_more s r h k all goes =
          let come = come_is P s h all in
          let supposed_lasts : durable (supposed s) ≡ apply_all s.open_records (durable s) = all_lasts s.open_records s h.sound h.open_records in
          let before : P (durable (supposed s)) = subst P (sym supposed_lasts) (last_is P (durable s) s.open_records come) in
          fates_are P (lost_too s r).after (durable s) (s.open_records ++ r ∷ []) refl k refl
          (one_more_is P (durable s) s.open_records r come (subst (λ (d : Durable). P (apply r d)) supposed_lasts (goes before)))

  turn_stays : (s : State) (happening : Happening) → IsHappening happening → IsRecoverable s → IsFated P s
      → AllOf (Stays P (E happening)) (turn s happening)
  turn_stays s (Asked e) is h all =
      joins_all (Stays P (E (Asked e))) s (further_record s e) (asked s.standing (respond s e)) (event_stays s e (begins_boot e) refl is h all)
      (λ r found. further_stays s e r is h found all)
  turn_stays s (Reopened name log_bytes) is h all = reopen_stays (Reopened name log_bytes) s name log_bytes h all

  pub step_fated : (s : State) (happening : Happening) (outcome : Outcome) (a : Answer) → IsHappening happening → IsRecoverable s
      → step s happening outcome ≡ Some a
      → (E happening a.reply → ⊥) → IsFated P s → IsFated P a.after
  step_fated s happening outcome a is h steps other all =
      let stays : Stays P (E happening) a
      = taken_all (Stays P (E happening)) (turn s happening) outcome a (turn_stays s happening is h all) steps in
      stays (keeps_recoverable s happening outcome a is h steps) other

  pub always_fated : (first last : State) (entries : List Entry) → HaveHappened entries → IsRecoverable first → Leads first entries last
      → AllByRecursion (λ e. E e.happening e.reply → ⊥) entries → IsFated P first → IsFated P last
  always_fated first last [] happened h leads none all = subst (IsFated P) (sym leads) all
  always_fated first last (e ∷ es) happened h leads none all =
      let a : Answer = record { reply = e.reply; after = leads.0 } in
      let next : IsRecoverable leads.0 = keeps_recoverable first e.happening e.outcome a happened.0 h leads.1 in
      always_fated leads.0 last es happened.1 next leads.2 none.1 (step_fated first e.happening e.outcome a happened.0 h leads.1 none.0 all)
