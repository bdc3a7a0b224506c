use Rattle.std.proofs.Common.{◌≡◌, None, true, false, pos, length, refl, ap, sym, ◌∙◌, arith, rules, w32, to_z, of_z}
use Rattle.std.specs.Prelude.{unwrap_or}
use Rattle.std.proofs.lemmas.Grind.{common_steps}
use Rattle.mv_chain.specs.declared.fate.Fate.TheVariants.{RolledBack}
use Rattle.xa_codes.specs.declared.direction.Direction.TheVariants.{Rollback}
use Rattle.xa_record.specs.Spelling.{spelled}
use Rattle.xa_record.specs.declared.record.Record.TheVariants as logged
use Rattle.xa_record.proofs.Sizes.{completed}
use Rattle.xa_model.specs.State.{InDoubt, known_as}
use Rattle.xa_model.specs.Answer.{plain}
use Rattle.xa_model.specs.Phases.{rollback_refusal, heuristic_refusal, is_associated}
use Rattle.xa_model.specs.Completions.{roll_back_turn}
use Rattle.xa_model.specs.Turn.{unless_now}
use Rattle.xa_manager.specs.declared.row.Row.TheVariants as row
use Rattle.xa_manager.proofs.OnePhase.{known_some, refused_turn}
use Rattle.xa_manager.proofs.Completing.{passes_both, settled_doubtful, doubt_rolls, doubtful_fits, rolled_at_once, rolled_known, second_refused}
use Rattle.xa_manager.proofs.Plans.{plans_small, refused_at_once, settled_at_once}
use Rattle.xa_manager.proofs.manager.Manager.plan_rollback.Goals as goal

pub returns : goal.returns
returns g c =
    let m = c.args.self.now in
    let xid = c.args.xid.now in
    let free : c.rollback_refusal.result ≡ None = search rules in
    let none : c.heuristic_refusal.result ≡ None = search rules in
    let settled_ : c.is_lasting.result ≡ true = search rules in
    let r = logged.Completed xid Rollback in
    plans_small _ m row.Rollback xid c.small.result r c.small.ensures.row c.small.ensures.xid (c.small.ensures.body ∙ ap (λ x. spelled (logged.Completed x Rollback)) c.copied.ensures) (omega arith) (completed xid Rollback c.requires.name)
    (λ s whole st.
    let passes = sym free ∙ c.rollback_refusal.ensures.value s st in
    let through = sym none ∙ c.heuristic_refusal.ensures.value s st in
    let settled = c.is_lasting.ensures s st ∙ settled_ in
    let doubt : known_as s xid ≡ InDoubt = settled_doubtful s xid settled through in
    record {
      turn_is =
          passes_both s (rollback_refusal (known_as s xid) (is_associated s xid)) (heuristic_refusal (known_as s xid)) (roll_back_turn s xid (known_as s xid)) passes through
          ∙ doubt_rolls s xid (known_as s xid) doubt;
      may = doubt;
      body_is = refl;
      fits = doubtful_fits s xid (length (spelled r)) st.up whole.roomy doubt (completed xid Rollback c.requires.name);
    })

-- ---- what is refused, and a branch at work

pub returns-in-Some : goal.returns-in-Some
returns-in-Some g c =
    let xid = c.args.xid.now in
    let refused = c.in-Some.ensures in
    refused_at_once _ c.args.self.now row.Rollback xid c.in-Some.reply refused.served refused.bare
    (λ s st.
    let rolls = roll_back_turn s xid (known_as s xid) in
    refused_turn (rollback_refusal (known_as s xid) (is_associated s xid)) s (unless_now (heuristic_refusal (known_as s xid)) s rolls) c.in-Some.reply (refused.value s st))

pub returns-in-Some-heuristic_refusal : goal.returns-in-Some-heuristic_refusal
returns-in-Some-heuristic_refusal g c =
    let xid = c.args.xid.now in
    let refused = c.in-Some-heuristic_refusal.ensures in
    let free : c.rollback_refusal.result ≡ None = search rules in
    refused_at_once _ c.args.self.now row.Rollback xid c.in-Some-heuristic_refusal.reply refused.served refused.bare
    (λ s st.
    let rolls = roll_back_turn s xid (known_as s xid) in
    second_refused s (rollback_refusal (known_as s xid) (is_associated s xid)) (heuristic_refusal (known_as s xid)) rolls c.in-Some-heuristic_refusal.reply (sym free ∙ c.rollback_refusal.ensures.value s st) (refused.value s st))

pub returns-then-not-is_lasting : goal.returns-then-not-is_lasting
returns-then-not-is_lasting g c =
    let xid = c.args.xid.now in
    let free : c.rollback_refusal.result ≡ None = search rules in
    let none : c.heuristic_refusal.result ≡ None = search rules in
    let at_work : c.is_lasting.result ≡ false = search rules in
    let kept : to_z w32 (of_z w32 c.unwrap_or-code.result) ≡ c.unwrap_or-code.result = first_of (search rules, grind (arith, common_steps)) in
    rw (c.plain.ensures, kept, c.unwrap_or-code.ensures) (
    settled_at_once _ c.args.self.now row.Rollback xid (plain (unwrap_or c.mark_of.result (pos 0))) RolledBack refl (refl, refl)
    (λ s whole is_up st.
    let passes = sym free ∙ c.rollback_refusal.ensures.value s st in
    let through = sym none ∙ c.heuristic_refusal.ensures.value s st in
    let known = rolled_known s xid passes in
    record {
      turn_is = rolled_at_once s xid (rollback_refusal (known_as s xid) (is_associated s xid)) c.mark_of.result passes through known (c.is_lasting.ensures s st ∙ at_work) (c.mark_of.ensures s st);
      may = known_some s xid known (c.is_lasting.ensures s st ∙ at_work);
    }))
