use Rattle.std.proofs.Common.{◌≡◌, ◌≤◌, None, length, refl, ap, ◌∙◌, arith, rules, w32, to_z, of_z}
use Rattle.std.proofs.lemmas.Grind.{common_steps}
use Rattle.xa_codes.specs.declared.codes.TheConstants.{XAER_RMERR}
use Rattle.xa_record.specs.Spelling.{spelled}
use Rattle.xa_record.specs.declared.record.Record.TheVariants as logged
use Rattle.xa_record.proofs.Sizes.{forgotten}
use Rattle.xa_model.specs.State.{known_as}
use Rattle.xa_model.specs.Answer.{plain}
use Rattle.xa_model.specs.Completions.{forget_refusal}
use Rattle.xa_model.specs.Logging.{logs}
use Rattle.xa_manager.specs.declared.row.Row.TheVariants.{Forget}
use Rattle.xa_manager.proofs.OnePhase.{passed_turn, refused_turn}
use Rattle.xa_manager.proofs.Completing.{forgets_completed, forgotten_fits}
use Rattle.xa_manager.proofs.Plans.{plans_small, refused_at_once}
use Rattle.xa_manager.proofs.manager.Manager.plan_forgetting.Goals as goal

pub returns-in-Ok : goal.returns-in-Ok
returns-in-Ok g c =
    let m = c.args.self.now in
    let xid = c.args.xid.now in
    let r = logged.Forgotten xid in
    let small : length (spelled r) ≤ 135 = omega (arith, forgotten xid c.requires.name) in
    plans_small _ m Forget xid c.small.result r c.small.ensures.row c.small.ensures.xid (c.small.ensures.body ∙ ap spelled c.in-Ok.ensures.logs) (omega arith) (omega (arith, small))
    (λ s whole st.
    let passes : None ≡ forget_refusal (known_as s xid) = c.in-Ok.ensures.refusal s st in
    let done = forgets_completed s xid passes in
    record {
      turn_is = passed_turn (forget_refusal (known_as s xid)) s (logs s r XAER_RMERR s) passes;
      may = done;
      body_is = refl;
      fits = forgotten_fits s xid (length (spelled r)) st.up whole.roomy done small;
    })

pub returns-in-Err : goal.returns-in-Err
returns-in-Err g c =
    let xid = c.args.xid.now in
    let kept : to_z w32 (of_z w32 c.in-Err.code) ≡ c.in-Err.code = first_of (search rules, grind (arith, common_steps)) in
    rw (c.plain.ensures, kept) (
    refused_at_once _ c.args.self.now Forget xid (plain c.in-Err.code) refl (refl, refl)
    (λ s st. refused_turn (forget_refusal (known_as s xid)) s (logs s (logged.Forgotten xid) XAER_RMERR s) (plain c.in-Err.code) (c.in-Err.ensures.refusal s st)))
