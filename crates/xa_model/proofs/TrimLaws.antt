-- The laws of a trim that are no other event's.
use Rattle.std.proofs.Common.{ℕ, ◌+◌, refl}
use Rattle.xa_frame.specs.declared.request.Request.TheVariants.{Trim}
use Rattle.xa_record.specs.declared.record.Record.{Record}
use Rattle.xa_record.specs.declared.record.Record.TheVariants as logged
use Rattle.xa_model.specs.declared.event.Event.TheVariants.{Call}
use Rattle.xa_model.specs.declared.outcome.Appending.{Appending}
use Rattle.xa_model.specs.declared.outcome.Appending.TheVariants.{Kept, Refused, Lost}
use Rattle.xa_model.specs.State.{State}
use Rattle.xa_model.specs.Answer.{Answer}
use Rattle.xa_model.specs.Early.{early_refusal}
use Rattle.xa_model.specs.Logging.{lost, lost_too}
use Rattle.xa_model.specs.Step.{respond, asked, turn, context_of, further_record}
use Rattle.xa_model.specs.Trimming.{trim_refusal, trimmed, trim_became, trim_turn}
use Rattle.xa_model.specs.Laws.Trim.{HoldsOverTrims, TrimGoesOn, TrimLists}
use Rattle.xa_model.specs.Turn.{Asked}
use Rattle.xa_model.proofs.Replies.{AllOf, taken_all, asked_all, joins_all, unless_all}

-- what holds where nothing changed, where the boot began, and where its record was lost, holds over trims
module _ (P : State → State → Type 0) (same : (s : State) → P s s) (begun : (s : State) (boot : ℕ) → P s (trimmed s boot))
    (is_lost : (s : State) (boot : ℕ) → P s (lost s (logged.Opened boot)).after) (too : (s : State) (r : Record) → P s (lost_too s r).after) where
  by_turn : (s : State) → AllOf (λ a. P s a.after) (trim_turn s)
  by_turn s = unless_all (λ a. P s a.after) (trim_refusal s) s _ (λ reply is. same s) by_fate
    where
      by_fate : (x : Appending) → P s (trim_became s (s.logged_boot + 1) x).after
      by_fate Kept = begun s (s.logged_boot + 1)
      by_fate Refused = same s
      by_fate Lost = is_lost s (s.logged_boot + 1)

  pub over_trims : HoldsOverTrims P
  over_trims s n outcome a h steps =
      taken_all (λ (b : Answer). P s b.after) (turn s (Asked (Call n Trim))) outcome a
      (joins_all (λ b. P s b.after) s (further_record s (Call n Trim)) (asked s.standing (respond s (Call n Trim)))
      (asked_all (λ b. P s b.after) s.standing (respond s (Call n Trim))
      (unless_all (λ b. P s b.after) (early_refusal (context_of s n) Trim) s (trim_turn s) (λ reply is. same s) (by_turn s)))
      (λ r found. too s r)) steps

pub trim_goes_on : TrimGoesOn
trim_goes_on =
    over_trims _ (λ s. (refl, refl, refl, refl, refl, refl)) (λ s boot. (refl, refl, refl, refl, refl, refl))
    (λ s boot. (refl, refl, refl, refl, refl, refl)) (λ s r. (refl, refl, refl, refl, refl, refl))

pub trim_lists : TrimLists
trim_lists = over_trims _ (λ s xid. refl) (λ s boot xid. refl) (λ s boot xid. refl) (λ s r xid. refl)
