-- A trim begins a boot, with what lasts and with all that is at work; or it leaves the state as it was.
use Rattle.std.proofs.Common.{◌≡◌, ℕ, ◌+◌, ◌<◌, true, false, not, Option, Some, None, [], ◌∷◌, refl, sym, subst, arith}
use Rattle.std.specs.Prelude.{nat_lt}
use Rattle.std.proofs.lemmas.Bool.{not-false}
use Rattle.xa_codes.specs.declared.codes.TheConstants.{XAER_RMERR, XAER_RMFAIL}
use Rattle.xa_codes.specs.declared.detail.Detail.TheVariants as detail
use Rattle.xa_frame.specs.declared.reply.Reply.{Reply}
use Rattle.xa_frame.specs.declared.request.Request.{Request}
use Rattle.xa_frame.specs.declared.request.Request.TheVariants.{Restart, Trim}
use Rattle.xa_record.specs.declared.record.Record.TheVariants as logged
use Rattle.xa_model.specs.declared.event.Event.{Event}
use Rattle.xa_model.specs.declared.event.Event.TheVariants as event
use Rattle.xa_model.specs.State.{State, Standing, Up, Down, Ended, timestamp_of}
use Rattle.xa_model.specs.Answer.{plain, answer, detailed, first}
use Rattle.xa_model.specs.Early.{early_refusal}
use Rattle.xa_model.specs.Events.{asks_restart, is_restart, asks_boot, begins_boot, asks_trim, is_trim}
use Rattle.xa_model.specs.Step.{respond, context_of, is_up}
use Rattle.xa_model.specs.Turn.{Turn, Now, Checkpoints, unless_now}
use Rattle.xa_model.specs.Invariants.Sound.{IsSound}
use Rattle.xa_model.specs.Invariants.Loggable.{IsLoggable, IsRecoverable}
use Rattle.xa_model.specs.Laws.Logging.{Fails, BeginsWhatLasts, TrimLasts}
use Rattle.xa_model.specs.Restarting.{can_open}
use Rattle.xa_model.specs.Trimming.{trim_refusal, trimmed, trim_became, trim_turn}
use Rattle.xa_model.proofs.Order.{descends_below}
use Rattle.xa_model.proofs.Parts.{sound_within}
use Rattle.xa_model.proofs.Recordable.{recordable, loggable, raised}
use Rattle.xa_model.proofs.Restarts.{next_above, with_none_open, lost_in_doubt}
use Rattle.xa_model.proofs.Rows.{passed, below}

-- where it isn't refused
pub record MayTrim (s : State) : Type 0 where
  pub boots : s.logged_boot < 2147483648
  pub room : can_open s s.log_bytes (s.logged_boot + 1) ≡ true

pub may_trim : (s : State) → trim_refusal s ≡ None → MayTrim s
may_trim s e =
    let full = passed (not (can_open s s.log_bytes (s.logged_boot + 1))) (detailed XAER_RMERR detail.LogFull) None in
    let limit = passed (not (nat_lt s.logged_boot 2147483648)) (detailed XAER_RMERR detail.Limit)
    (first ((not (can_open s s.log_bytes (s.logged_boot + 1)), detailed XAER_RMERR detail.LogFull) ∷ [])) e in
    record {
      boots = below s.logged_boot 2147483648 limit.0;
      room = not-false (can_open s s.log_bytes (s.logged_boot + 1)) (full limit.1).0;
    }

trimmed_sound : (s : State) (next : ℕ) → IsSound s → s.boot < next → IsSound (trimmed s next)
trimmed_sound s next h less =
    sound_within s (trimmed s next) h
    (descends_below (timestamp_of s.boot s.given + 1) (timestamp_of next 0 + 1) s.branches (next_above s.boot s.given next h.given less) h.descends)
    h.distinct h.known (omega arith)

trimmed_loggable : (s : State) → IsLoggable s → s.logged_boot < 4294967295 → IsLoggable (trimmed s (s.logged_boot + 1))
trimmed_loggable s h less =
    loggable (trimmed s (s.logged_boot + 1)) (record { first = omega arith; boots = omega arith; last = omega (arith, less) })
    (raised s.logged_boot (s.logged_boot + 1) s.branches (omega arith) (recordable s h))

pub trimmed_recoverable : (s : State) → IsRecoverable s → s.open_records ≡ [] → s.logged_boot < 4294967295 → IsRecoverable (trimmed s (s.logged_boot + 1))
trimmed_recoverable s h settled less =
    with_none_open (trimmed s (s.logged_boot + 1)) (trimmed_sound s (s.logged_boot + 1) h.sound (omega (arith, h.loggable.boots))) (trimmed_loggable s h.loggable less)
    settled refl

pub fails_itself : (s : State) → IsRecoverable s → Fails s s
fails_itself s h = record { recoverable = h; fates = refl }

trim_by : (s : State) (o : Option Reply) → trim_refusal s ≡ o → IsRecoverable s → s.standing ≡ Up
    → BeginsWhatLasts s (unless_now o s (Checkpoints (logged.Opened (s.logged_boot + 1)) (trim_became s (s.logged_boot + 1))))
trim_by s (Some reply) e h up = fails_itself s h
trim_by s None e h up =
    let may = may_trim s e in
    let less : s.logged_boot < 4294967295 = omega (arith, may.boots) in (
      (
        refl,
        record {
          recoverable = trimmed_recoverable s h (h.settled up) less;
          lasts = refl;
          boot = refl;
          up = up;
          settled = h.settled up;
        },
        fails_itself s h,
        lost_in_doubt s h less,
      ),
      h.settled up,
    )

pub trim_lasts : TrimLasts
trim_lasts s h up = trim_by s (trim_refusal s) refl h up

-- a manager that isn't up refuses it

module _ (T : Turn → Type 0) (s : State) (n : ℕ) where
  trim_of : (standing : Standing) → s.standing ≡ standing → T (Now (answer (plain XAER_RMFAIL) s)) → (s.standing ≡ Up → T (respond s (event.Call n Trim)))
      → T (respond s (event.Call n Trim))
  trim_of Up e refused row = row e
  trim_of Down e refused row = subst (λ (standing : Standing). T (unless_now (early_refusal (record (context_of s n) { up = is_up standing }) Trim) s (trim_turn s))) (sym e) refused
  trim_of Ended e refused row = subst (λ (standing : Standing). T (unless_now (early_refusal (record (context_of s n) { up = is_up standing }) Trim) s (trim_turn s))) (sym e) refused

  pub trim_asked : T (Now (answer (plain XAER_RMFAIL) s)) → (s.standing ≡ Up → T (respond s (event.Call n Trim))) → T (respond s (event.Call n Trim))
  trim_asked refused row = trim_of s.standing refl refused row

-- an event that begins no boot is no restart, and no trim
no_boot : (e : Event) → begins_boot e ≡ false → (is_restart e ≡ false) × (is_trim e ≡ false)
no_boot event.Connect other = (refl, refl)
no_boot (event.Hangup n) other = (refl, refl)
no_boot (event.Call n request) other = asks_none request other
  where
    asks_none : (request : Request) → asks_boot request ≡ false → (asks_restart request ≡ false) × (asks_trim request ≡ false)
    asks_none Restart other = absurd (cc other)
    asks_none Trim other = absurd (cc other)
    asks_none request other = (refl, refl)

pub restarts_none : (e : Event) → begins_boot e ≡ false → is_restart e ≡ false
restarts_none e other = (no_boot e other).0

pub trims_none : (e : Event) → begins_boot e ≡ false → is_trim e ≡ false
trims_none e other = (no_boot e other).1
