-- What a crash may leave while a turn is taken.
use Rattle.std.proofs.Common.{◌≡◌, inl, inr, ℕ, suc, Bool, true, false, List, [], ◌∷◌, ◌++◌, Option, Some, None, refl, sym, ◌∙◌, ap, subst, arith}
use Rattle.std.specs.Prelude.{IfSome, Contains, is_some, option_map, option_and_then}
use Rattle.std.specs.List.{AllByRecursion}
use Rattle.xa_frame.specs.declared.reply.Reply.{Reply}
use Rattle.xa_frame.specs.declared.request.Request.{Request}
use Rattle.xa_frame.specs.declared.request.Request.TheVariants.{Restart, Trim}
use Rattle.xa_record.specs.declared.record.Record.{Record}
use Rattle.xa_model.specs.declared.event.Event.{Event}
use Rattle.xa_model.specs.declared.event.Event.TheVariants as event
use Rattle.xa_model.specs.declared.outcome.Outcome.{Outcome}
use Rattle.xa_model.specs.declared.outcome.Outcome.TheVariants.{Quiet, Appended, Joined, Failed, Reread}
use Rattle.xa_model.specs.declared.outcome.Appending.{Appending}
use Rattle.xa_model.specs.declared.outcome.Appending.TheVariants.{Kept, Refused, Lost}
use Rattle.xa_model.specs.State.{State, Standing, Up, Down, Ended}
use Rattle.xa_model.specs.Answer.{Answer}
use Rattle.xa_model.specs.Early.{early_refusal}
use Rattle.xa_model.specs.Durable.{Durable, durable}
use Rattle.xa_model.specs.Fold.{apply}
use Rattle.xa_model.specs.Turn.{Happening, Asked, Reopened, Turn, Nobody, Now, Appends, Checkpoints, Rereads, Joins, Rereading, Stops, Opens, going_on, taken, unless_now}
use Rattle.xa_model.specs.Step.{respond, asked, turn, context_of, further_record}
use Rattle.xa_model.specs.Events.{IsEvent, IsHappening, begins_boot}
use Rattle.xa_model.specs.Logging.{lost, lost_too, supposed}
use Rattle.xa_model.specs.Invariants.Loggable.{IsRecoverable}
use Rattle.xa_model.specs.Laws.Logging.{LogsWhatLasts, BootLasts, BeginsWhatLasts, apply_all}
use Rattle.xa_model.specs.Trimming.{trim_turn}
use Rattle.xa_model.specs.Restarting.{fates, fates_with, restart_turn, reopen_turn, restarting, reopening, survived}
use Rattle.xa_model.specs.History.{joins}
use Rattle.xa_model.specs.Crash.{with_append, appends, lost_of, IsFate}
use Rattle.xa_model.specs.Laws.Crash.{LostFits, LostFates}
use Rattle.xa_model.proofs.AppliedDecisions.{applied_lasts}
use Rattle.xa_model.proofs.Restarts.{IsFound, survived_found, found_boots, restart_lasts, reopen_lasts, restarts, reopens}
use Rattle.xa_model.proofs.Recoveries.{StaysRecoverable, event_stays, further_stays}
use Rattle.xa_model.proofs.Trims.{trim_asked, trim_lasts}
use Rattle.xa_model.proofs.Fated.{IsFated, alone, quiet_is, asked_lasts}
use Rattle.xa_model.proofs.AppliedAll.{all_lasts, come_to, fates_come, first_fate}
use Rattle.xa_model.proofs.Further.{joins_with}
use Rattle.xa_model.proofs.Inserts.{all_imply}

-- each of what a crash may leave it may

pub further_in : (x d : Durable) (xs : List Durable) → Contains xs d → Contains (x ∷ xs) d
further_in x d xs (k, less, e) = (suc k, omega (arith, less), e)

own_by : (xs : List Durable) → AllByRecursion (Contains xs) xs
own_by [] = tt
own_by (x ∷ xs) = ((0, omega arith, refl), all_imply (Contains xs) (Contains (x ∷ xs)) (λ d here. further_in x d xs here) xs (own_by xs))

own_fates : (s : State) → IsFated (IsFate s) s
own_fates s = own_by (fates s)

now_fate : (s : State) → IsFate s (durable s)
now_fate s = first_fate s s.open_records

two : {A : Type 0} (a b c d : A) → a ≡ c → b ≡ d → a ∷ b ∷ [] ≡ c ∷ d ∷ []
two a b c d e f = rw (e, f) refl

-- where an append was lost

abbrev AppendFates : (Appending → Answer) → Type 0
AppendFates after = fates (after Lost).after ≡ durable (after Refused).after ∷ durable (after Kept).after ∷ []

lost_fates : (t : State) (r : Record) (d : Durable) → IsRecoverable t → t.open_records ≡ r ∷ [] → durable t ≡ d → fates t ≡ d ∷ apply r d ∷ []
lost_fates t r d h e same =
    fates_come t t.open_records h.sound h.open_records ∙ ap (come_to (durable t)) e ∙ ap (λ (x : Durable). come_to x (r ∷ [])) same

logged_fates : (s : State) (r : Record) (after : Appending → Answer) → IsRecoverable s → LogsWhatLasts s (Appends r after)
    → IsRecoverable (after Lost).after → AppendFates after
logged_fates s r after h l k =
    let next : IsRecoverable (lost s r).after = subst (λ (a : Answer). IsRecoverable a.after) l.3 k in
    let kept : durable (after Kept).after ≡ apply r (durable s) = ap (λ (a : Answer). durable a.after) l.1 ∙ applied_lasts s r h.sound l.0 in
    ap (λ (a : Answer). fates a.after) l.3
    ∙ lost_fates (lost s r).after r (durable s) next refl refl
    ∙ two (durable s) (apply r (durable s)) (durable (after Refused).after) (durable (after Kept).after) (sym l.2.lasts) (sym kept)

head_or : Durable → List Durable → Durable
head_or d [] = d
head_or d (x ∷ xs) = x

only_fate : (t : State) (rs : List Record) (d : Durable) → fates_with t rs ≡ d ∷ [] → durable t ≡ d
unfolding head_or
only_fate t [] d e = ap (head_or d) e
only_fate t (r ∷ rs) d e = ap (head_or d) e

booted_fates : (s : State) (r : Record) (after : Appending → Answer) → s.open_records ≡ [] → BootLasts s (Opens r after) → AppendFates after
booted_fates s r after none l =
    let refused : durable (after Refused).after ≡ durable s
    = only_fate (after Refused).after (after Refused).after.open_records (durable s) (l.2.fates ∙ ap (fates_with s) none) in
    let kept : apply r (durable s) ≡ durable (after Kept).after = ap (λ (q : Record). apply q (durable s)) l.0 ∙ sym l.1.lasts in
    lost_fates (after Lost).after r (durable s) l.3.recoverable l.3.open_records l.3.lasts
    ∙ two (durable s) (apply r (durable s)) (durable (after Refused).after) (durable (after Kept).after) (sym refused) kept

-- where nothing is appended, a crash leaves what it left before

abbrev pub ReadingLeaves : State → Rereading → Type 0
ReadingLeaves s (Stops a) = IsFated (IsFate s) a.after
ReadingLeaves s (Opens r after) = AppendFates after

abbrev pub TurnLeaves : State → Turn → Type 0
TurnLeaves s Nobody = Unit {0}
TurnLeaves s (Now a) = IsFated (IsFate s) a.after
TurnLeaves s (Appends r after) = AppendFates after
TurnLeaves s (Checkpoints r after) = AppendFates after
TurnLeaves s (Rereads failed found) = IsFated (IsFate s) failed.after × ((k : ℕ) → IfSome (found k) (ReadingLeaves s))
TurnLeaves s (Joins refused r lost) =
    IsFated (IsFate s) refused.after × (fates lost.after ≡ fates s ++ durable (supposed lost.after) ∷ [])

logs_leave : (s : State) (t : Turn) → IsRecoverable s → LogsWhatLasts s t → StaysRecoverable t → TurnLeaves s t
logs_leave s Nobody h l stays = tt
logs_leave s (Now a) h l stays = quiet_is (IsFate s) s a.after h stays l (own_fates s)
logs_leave s (Appends r after) h l stays = logged_fates s r after h l (stays Lost)
logs_leave s (Checkpoints r after) h l stays = absurd l
logs_leave s (Rereads failed found) h l stays = absurd l
logs_leave s (Joins refused r lost) h l stays = absurd l

boots_leave : (s settled : State) (x : Rereading) → settled.open_records ≡ [] → IsFate s (durable settled) → BootLasts settled x → ReadingLeaves s x
boots_leave s settled (Stops a) none here l = subst (AllByRecursion (IsFate s)) (sym l.fates) (alone (IsFate s) settled here none)
boots_leave s settled (Opens r after) none here l = booted_fates settled r after none l

found_leaves : (s : State) (boot : State → Rereading) → ((t : State) → IsRecoverable t → t.open_records ≡ [] → BootLasts t (boot t)) → IsRecoverable s → (k : ℕ)
    → IfSome (option_map boot (survived s k)) (ReadingLeaves s)
found_leaves s boot boots h k =
    found_boots (IsFound s k) (ReadingLeaves s) s k boot
    (λ t found. boots_leave s t (boot t) found.settled found.fate (boots t found.recoverable found.settled)) (survived_found s k h)

restart_leaves : (s : State) → IsRecoverable s → TurnLeaves s (restart_turn s)
restart_leaves s h =
    (subst (AllByRecursion (IsFate s)) (sym (restart_lasts s h).0.fates) (own_fates s), found_leaves s restarting restarts h)

reopen_leaves : (s : State) (name : List ℕ) (log_bytes : ℕ) → IsRecoverable s → TurnLeaves s (reopen_turn s name log_bytes)
reopen_leaves s name log_bytes h = (
  subst (AllByRecursion (IsFate s)) (sym (reopen_lasts s name log_bytes h).0.fates) (own_fates s),
  found_leaves s (reopening name log_bytes) (λ t k none. reopens t name log_bytes k none) h,
)

-- one more record of a group is lost

come_more : (d : Durable) (rs : List Record) (r : Record) → come_to d (rs ++ r ∷ []) ≡ come_to d rs ++ apply r (apply_all rs d) ∷ []
come_more d [] r = refl
come_more d (q ∷ rs) r = ap (λ (l : List Durable). d ∷ l) (come_more (apply q d) rs r)

apply_more : (d : Durable) (rs : List Record) (r : Record) → apply_all (rs ++ r ∷ []) d ≡ apply r (apply_all rs d)
apply_more d [] r = refl
apply_more d (q ∷ rs) r = apply_more (apply q d) rs r

too_fates : (s : State) (r : Record) → IsRecoverable s → IsRecoverable (lost_too s r).after
    → fates (lost_too s r).after ≡ fates s ++ durable (supposed (lost_too s r).after) ∷ []
too_fates s r h k =
    let t = (lost_too s r).after in
    let rs = s.open_records in
    let last : durable (supposed t) ≡ apply r (apply_all rs (durable s))
    = all_lasts (rs ++ r ∷ []) t k.sound k.open_records ∙ apply_more (durable s) rs r in
    fates_come t (rs ++ r ∷ []) k.sound k.open_records
    ∙ come_more (durable s) rs r
    ∙ ap (λ (l : List Durable). l ++ apply r (apply_all rs (durable s)) ∷ []) (sym (fates_come s rs h.sound h.open_records))
    ∙ ap (λ (d : Durable). fates s ++ d ∷ []) (sym last)

begins_leave : (s : State) (t : Turn) → BeginsWhatLasts s t → TurnLeaves s t
begins_leave s Nobody l = absurd l
begins_leave s (Now a) l = subst (AllByRecursion (IsFate s)) (sym l.fates) (own_fates s)
begins_leave s (Appends r after) l = absurd l
begins_leave s (Checkpoints r after) l = booted_fates s r after l.1 l.0
begins_leave s (Rereads failed found) l = absurd l
begins_leave s (Joins refused r lost) l = absurd l

unless_leaves : (o : Option Reply) (s : State) (t : Turn) → TurnLeaves s t → TurnLeaves s (unless_now o s t)
unless_leaves None s t h = h
unless_leaves (Some reply) s t h = own_fates s

asked_leaves : (standing : Standing) (s : State) (t : Turn) → TurnLeaves s t → TurnLeaves s (asked standing t)
asked_leaves Up s t h = h
asked_leaves Down s t h = h
asked_leaves Ended s t h = tt

restart_only : (s : State) (n : ℕ) (request : Request) → begins_boot (event.Call n request) ≡ true → IsRecoverable s
    → TurnLeaves s (respond s (event.Call n request))
restart_only s n Restart e h = unless_leaves (early_refusal (context_of s n) Restart) s (restart_turn s) (restart_leaves s h)
restart_only s n Trim e h =
    trim_asked (TurnLeaves s) s n (own_fates s)
    (λ up. unless_leaves (early_refusal (context_of s n) Trim) s (trim_turn s) (begins_leave s (trim_turn s) (trim_lasts s h up)))
restart_only s n request e h = absurd (cc e)

restarts_leave : (s : State) (e : Event) → begins_boot e ≡ true → IsRecoverable s → TurnLeaves s (respond s e)
restarts_leave s event.Connect e h = absurd (cc e)
restarts_leave s (event.Hangup n) e h = absurd (cc e)
restarts_leave s (event.Call n request) e h = restart_only s n request e h

event_leaves : (s : State) (e : Event) (c : Bool) → begins_boot e ≡ c → IsEvent e → IsRecoverable s → TurnLeaves s (asked s.standing (respond s e))
event_leaves s e true restart is h = asked_leaves s.standing s (respond s e) (restarts_leave s e restart h)
event_leaves s e false other is h =
    elim (asked_lasts s e s.standing refl h other) [
      | inl none ↦ subst (TurnLeaves s) (sym none) tt
      | inr l ↦ logs_leave s (asked s.standing (respond s e)) h l (event_stays s e (begins_boot e) refl is h)
    ]

pub turn_leaves : (s : State) (happening : Happening) → IsHappening happening → IsRecoverable s → TurnLeaves s (turn s happening)
turn_leaves s (Asked e) is h =
    let first = event_leaves s e (begins_boot e) refl is h in
    joins_with (TurnLeaves s) s (further_record s e) (asked s.standing (respond s e)) first
    (λ a r found now. (subst (TurnLeaves s) now first, too_fates s r h (further_stays s e r is h found)))
turn_leaves s (Reopened name log_bytes) is h = reopen_leaves s name log_bytes h

-- which outcomes fit

going_fits : (x : Appending) (o : Option Rereading) (a : Answer) → option_and_then (going_on (Some x)) o ≡ Some a
    → is_some (option_and_then (going_on (Some Lost)) o) ≡ true
going_fits x None a e = absurd (cc e)
going_fits x (Some (Stops b)) a e = absurd (cc e)
going_fits x (Some (Opens r after)) a e = refl

taken_fits : (t : Turn) (o : Outcome) (a : Answer) → joins o ≡ false → taken t o ≡ Some a → is_some (taken t (lost_of o)) ≡ true
taken_fits (Appends r after) (Appended x) a alone e = refl
taken_fits (Checkpoints r after) (Appended x) a alone e = refl
taken_fits (Rereads failed found) (Reread k (Some x)) a alone e = going_fits x (found k) a e
taken_fits t Quiet a alone e = ap is_some e
taken_fits t Failed a alone e = ap is_some e
taken_fits t (Reread there None) a alone e = ap is_some e
taken_fits t (Joined x) a alone e = absurd (cc alone)
taken_fits t o a alone e = absurd (cc e)

pub lost_fits : LostFits
lost_fits s happening outcome a alone e = taken_fits (turn s happening) outcome a alone e

-- the fates of what was lost

three : (after : Appending → Answer) (kept refused lost : Answer) → AppendFates after → Some (after Kept) ≡ Some kept
    → Some (after Refused) ≡ Some refused → Some (after Lost) ≡ Some lost → fates lost.after ≡ durable refused.after ∷ durable kept.after ∷ []
three after kept refused lost f e g k =
    let one : after Kept ≡ kept = cc e in
    let other : after Refused ≡ refused = cc g in
    let last : after Lost ≡ lost = cc k in
    ap (λ (a : Answer). fates a.after) (sym last)
    ∙ f
    ∙ two _ _ (durable refused.after) (durable kept.after) (ap (λ (a : Answer). durable a.after) other) (ap (λ (a : Answer). durable a.after) one)

reading_lost : (s : State) (o : Option Rereading) (kept refused lost : Answer) → IfSome o (ReadingLeaves s)
    → option_and_then (going_on (Some Kept)) o ≡ Some kept → option_and_then (going_on (Some Refused)) o ≡ Some refused
    → option_and_then (going_on (Some Lost)) o ≡ Some lost → fates lost.after ≡ durable refused.after ∷ durable kept.after ∷ []
reading_lost s None kept refused lost f e g k = absurd (cc e)
reading_lost s (Some (Stops a)) kept refused lost f e g k = absurd (cc e)
reading_lost s (Some (Opens r after)) kept refused lost f e g k = three after kept refused lost f e g k

taken_lost : (s : State) (t : Turn) (o : Outcome) (kept refused lost : Answer) → TurnLeaves s t → appends o ≡ true
    → taken t (with_append Kept o) ≡ Some kept → taken t (with_append Refused o) ≡ Some refused → taken t (with_append Lost o) ≡ Some lost
    → fates lost.after ≡ durable refused.after ∷ durable kept.after ∷ []
taken_lost s (Appends r after) (Appended x) kept refused lost f is e g k = three after kept refused lost f e g k
taken_lost s (Checkpoints r after) (Appended x) kept refused lost f is e g k = three after kept refused lost f e g k
taken_lost s (Appends r after) (Joined x) kept refused lost f is e g k = absurd (cc k)
taken_lost s (Rereads failed found) (Reread i (Some x)) kept refused lost f is e g k = reading_lost s (found i) kept refused lost (f.1 i) e g k
taken_lost s t (Joined x) kept refused lost f is e g k = absurd (cc e)
taken_lost s t Quiet kept refused lost f is e g k = absurd (cc is)
taken_lost s t Failed kept refused lost f is e g k = absurd (cc is)
taken_lost s t (Reread there None) kept refused lost f is e g k = absurd (cc is)
taken_lost s t o kept refused lost f is e g k = absurd (cc e)

pub lost_fates_are : LostFates
lost_fates_are s happening outcome kept refused lost is h adds e g k =
    taken_lost s (turn s happening) outcome kept refused lost (turn_leaves s happening is h) adds e g k
