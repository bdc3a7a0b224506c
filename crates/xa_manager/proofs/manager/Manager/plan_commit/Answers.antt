use Rattle.std.proofs.Common.{◌≡◌, None, length, refl, ap, sym, ◌∙◌, arith, rules}
use Rattle.xa_codes.specs.declared.codes.TheConstants.{XA_RETRY}
use Rattle.xa_codes.specs.declared.direction.Direction.TheVariants.{Commit}
use Rattle.xa_record.specs.Spelling.{spelled}
use Rattle.xa_record.specs.declared.record.Record.TheVariants as logged
use Rattle.xa_record.proofs.Sizes.{completed}
use Rattle.xa_model.specs.State.{InDoubt, known_as}
use Rattle.xa_model.specs.Phases.{two_phase_refusal, heuristic_refusal}
use Rattle.xa_model.specs.Logging.{logs}
use Rattle.xa_model.specs.Turn.{unless_now}
use Rattle.xa_manager.specs.declared.row.Row.TheVariants.{CommitTwoPhase}
use Rattle.xa_manager.proofs.OnePhase.{refused_turn}
use Rattle.xa_manager.proofs.Completing.{passes_both, two_doubtful, doubtful_fits, second_refused}
use Rattle.xa_manager.proofs.Plans.{plans_small, refused_at_once}
use Rattle.xa_manager.proofs.manager.Manager.plan_commit.Goals as goal

pub returns : goal.returns
returns g c =
    let m = c.args.self.now in
    let xid = c.args.xid.now in
    let free : c.two_phase_refusal.result ≡ None = search rules in
    let none : c.heuristic_refusal.result ≡ None = search rules in
    let r = logged.Completed xid Commit in
    plans_small _ m CommitTwoPhase xid c.small.result r c.small.ensures.row c.small.ensures.xid (c.small.ensures.body ∙ ap (λ x. spelled (logged.Completed x Commit)) c.copied.ensures) (omega arith) (completed xid Commit c.requires.name)
    (λ s whole st.
    let passes = sym free ∙ c.two_phase_refusal.ensures.value s st in
    let through = sym none ∙ c.heuristic_refusal.ensures.value s st in
    let doubt : known_as s xid ≡ InDoubt = two_doubtful s xid passes through in
    record {
      turn_is = passes_both s (two_phase_refusal (known_as s xid)) (heuristic_refusal (known_as s xid)) (logs s r XA_RETRY s) passes through;
      may = doubt;
      body_is = refl;
      fits = doubtful_fits s xid (length (spelled r)) st.up whole.roomy doubt (completed xid Commit c.requires.name);
    })

-- ---- what is refused

pub returns-in-Some : goal.returns-in-Some
returns-in-Some g c =
    let xid = c.args.xid.now in
    let refused = c.in-Some.ensures in
    refused_at_once _ c.args.self.now CommitTwoPhase xid c.in-Some.reply refused.served refused.bare
    (λ s st.
    let logged_ = logs s (logged.Completed xid Commit) XA_RETRY s in
    refused_turn (two_phase_refusal (known_as s xid)) s (unless_now (heuristic_refusal (known_as s xid)) s logged_) c.in-Some.reply (refused.value s st))

pub returns-in-Some-heuristic_refusal : goal.returns-in-Some-heuristic_refusal
returns-in-Some-heuristic_refusal g c =
    let xid = c.args.xid.now in
    let refused = c.in-Some-heuristic_refusal.ensures in
    let free : c.two_phase_refusal.result ≡ None = search rules in
    refused_at_once _ c.args.self.now CommitTwoPhase xid c.in-Some-heuristic_refusal.reply refused.served refused.bare
    (λ s st.
    let logged_ = logs s (logged.Completed xid Commit) XA_RETRY s in
    second_refused s (two_phase_refusal (known_as s xid)) (heuristic_refusal (known_as s xid)) logged_ c.in-Some-heuristic_refusal.reply (sym free ∙ c.two_phase_refusal.ensures.value s st) (refused.value s st))
