use Rattle.std.proofs.Common.{◌≡◌, None, length, refl, ap, ◌∙◌, arith, rules, w32, to_z, of_z}
use Rattle.std.proofs.lemmas.Grind.{common_steps}
use Rattle.xa_codes.specs.declared.codes.TheConstants.{XAER_RMERR}
use Rattle.xa_record.specs.Spelling.{spelled}
use Rattle.xa_record.specs.declared.record.Record.TheVariants as logged
use Rattle.xa_record.proofs.Sizes.{decided}
use Rattle.xa_model.specs.State.{InDoubt, known_as}
use Rattle.xa_model.specs.Answer.{plain}
use Rattle.xa_model.specs.Completions.{decide_refusal}
use Rattle.xa_model.specs.Logging.{logs}
use Rattle.xa_manager.specs.declared.row.Row.TheVariants.{Decide}
use Rattle.xa_manager.proofs.OnePhase.{passed_turn, refused_turn}
use Rattle.xa_manager.proofs.Completing.{decided_doubtful, doubtful_fits}
use Rattle.xa_manager.proofs.Plans.{plans_small, refused_at_once}
use Rattle.xa_manager.proofs.manager.Manager.plan_decision.Goals as goal

pub returns-in-Ok : goal.returns-in-Ok
returns-in-Ok g c =
    let m = c.args.self.now in
    let xid = c.args.xid.now in
    let direction = c.args.direction in
    let r = logged.Decided xid direction in
    plans_small _ m (Decide direction) xid c.small.result r c.small.ensures.row c.small.ensures.xid (c.small.ensures.body ∙ ap spelled c.in-Ok.ensures.logs) (omega arith) (decided xid direction c.requires.name)
    (λ s whole st.
    let passes : None ≡ decide_refusal (known_as s xid) = c.in-Ok.ensures.refusal s st in
    let doubt : known_as s xid ≡ InDoubt = decided_doubtful s xid passes in
    record {
      turn_is = passed_turn (decide_refusal (known_as s xid)) s (logs s r XAER_RMERR s) passes;
      may = doubt;
      body_is = refl;
      fits = doubtful_fits s xid (length (spelled r)) st.up whole.roomy doubt (decided xid direction c.requires.name);
    })

pub returns-in-Err : goal.returns-in-Err
returns-in-Err g c =
    let xid = c.args.xid.now in
    let direction = c.args.direction in
    let kept : to_z w32 (of_z w32 c.in-Err.code) ≡ c.in-Err.code = first_of (search rules, grind (arith, common_steps)) in
    rw (c.plain.ensures, kept) (
    refused_at_once _ c.args.self.now (Decide direction) xid (plain c.in-Err.code) refl (refl, refl)
    (λ s st. refused_turn (decide_refusal (known_as s xid)) s (logs s (logged.Decided xid direction) XAER_RMERR s) (plain c.in-Err.code) (c.in-Err.ensures.refusal s st)))
