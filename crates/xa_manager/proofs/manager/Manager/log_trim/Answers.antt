use Rattle.std.proofs.Common.{◌+◌, ℕ, List, length, map, refl, ap, sym, ◌∙◌, subst}
use Rattle.xa_frame.specs.Made.{carrying}
use Rattle.xa_frame.specs.declared.body.Body.TheVariants.{Number}
use Rattle.xa_record.specs.Spelling.{spelled}
use Rattle.xa_log.specs.Believed.Chain.{newest, text}
use Rattle.xa_log.specs.Believed.Pair.{generation}
use Rattle.xa_log.specs.Believed.TwoFiles.{HasOther, Pair, MaySeal}
use Rattle.xa_log.proofs.Beside.{other_swapped}
use Rattle.xa_model.specs.State.{State}
use Rattle.xa_manager.specs.Believed.LogStands.{Trusts}
use Rattle.xa_manager.specs.Managed.{ManagerStandsFor}
use Rattle.xa_model.specs.declared.outcome.Appending.TheVariants.{Kept, Refused, Lost}
use Rattle.xa_model.specs.Durable.{durable}
use Rattle.xa_model.specs.Fold.{snapshot}
use Rattle.xa_model.specs.Trimming.{trim_became, trim_turn}
use Rattle.xa_model.specs.Turn.{taken}
use Rattle.xa_manager.specs.declared.done.Done.{Done}
use Rattle.xa_manager.proofs.CrashBoots.{checkpointed}
use Rattle.xa_manager.proofs.Fates.{is_answer}
use Rattle.xa_manager.proofs.LogLengths.{text_size}
use Rattle.xa_manager.proofs.Reserved.{pair_same}
use Rattle.xa_manager.proofs.Standing.{refused_pair}
use Rattle.xa_manager.proofs.Trims.{trim_taken, kept_stands, records_here, refused_stands, sealed_stands, trim_leaves, trim_called, is_refused}
use Rattle.xa_manager.proofs.manager.Manager.log_trim.Goals as goal
use Rattle.xa_manager.proofs.manager.Manager.log_trim.Goals.{After-checkpoint}

-- the other file isn't missing afterwards, whatever the checkpoint came to
beside : (g : _) (c : After-checkpoint g) (s : State) → ManagerStandsFor g.D.Disk c.args.self.now s → Trusts g.D.Disk → HasOther g.D.Disk c.checkpoint.new.self
beside g c s st trusts =
    let here = records_here g.D.Disk c.args.self.now s st c.requires.up trusts in
    other_swapped g.D.Disk (map spelled here.0.records) c.args.bodies.now c.checkpoint.result c.args.self.now.log c.checkpoint.new.self here.1.1.current
    (c.checkpoint.ensures.swaps (st.alive c.requires.up)) (c.checkpoint.ensures.filled trusts.disk) here.1.2

pub returns-in-Kept-clause-turn : goal.returns-in-Kept-clause-turn
returns-in-Kept-clause-turn g c =
    λ s st e number bodies.
    let m = c.args.self.now in
    let swaps = rw c.in-Kept.is at (c.checkpoint.ensures.swaps (st.alive c.requires.up)) in
    let end = swaps.3 ∙ ap (λ (b : List (List ℕ)). length (text newest b)) bodies ∙ text_size newest (snapshot (durable s) (s.logged_boot + 1)) in
    let told = ap (λ (d : Done). taken (trim_turn s) d.outcome) c.trimmed.ensures in
    let reply = ap (λ (n : ℕ). carrying (Number n)) (c.end.ensures ∙ end) in
    is_answer _ (trim_became s (s.logged_boot + 1) Kept) _ (told ∙ trim_taken s Kept e) (
      sym (ap (λ (d : Done). d.reply) c.trimmed.ensures ∙ c.carrying.ensures ∙ reply),
      kept_stands g.D.Disk m s st c.requires.up _ c.args.next e number c.begin_boot.ensures.begun c.requires.up refl
          c.checkpoint.ensures.settings end (swaps.5 ∙ st.alive c.requires.up) swaps.2 (swaps.6 ∙ ap (λ (b : List (List ℕ)). generation b) bodies)
          (λ trusts.
          let here = records_here g.D.Disk m s st c.requires.up trusts in
          let bs = map spelled here.0.records in
          let kept = rw c.in-Kept.is at (c.checkpoint.ensures.answer trusts.disk bs here.1.0 here.1.1) in
          (bs, subst (λ (b : List (List ℕ)). Pair g.D.Disk b bs c.checkpoint.new.self) bodies kept.0, beside g (goal.at.returns-in-Kept-clause-turn g c).After-checkpoint s st trusts)),
    )

pub returns-in-Kept-clause-leaves : goal.returns-in-Kept-clause-leaves
returns-in-Kept-clause-leaves g c =
    λ log s rs r st trusts backs has e bodies.
    let m = c.args.self.now in
    trim_leaves g.D.Disk m log c.checkpoint.new.self s rs Kept _ st c.requires.up r e backs has (ap (λ (d : Done). d.outcome) c.trimmed.ensures)
    (checkpointed g.D.Disk m.log c.checkpoint.new.self Kept c.checkpoint.result has.0 c.args.bodies.now _ c.in-Kept.is bodies c.checkpoint.ensures.settings (c.checkpoint.ensures.swaps (st.alive c.requires.up))
    (c.checkpoint.ensures.any_moment trusts.disk (map spelled rs) has.0 (pair_same g.D.Disk log m.log r (map spelled rs) has.0 has.1)) (c.checkpoint.ensures.filled_meanwhile trusts.disk))

pub returns-in-Lost-clause-turn : goal.returns-in-Lost-clause-turn
returns-in-Lost-clause-turn g c =
    λ s st e number bodies.
    let m = c.args.self.now in
    let told = ap (λ (d : Done). taken (trim_turn s) d.outcome) c.trimmed-in-Lost.ensures in
    is_answer _ (trim_became s (s.logged_boot + 1) Lost) _ (told ∙ trim_taken s Lost e) (
      sym (ap (λ (d : Done). d.reply) c.trimmed-in-Lost.ensures ∙ c.detailed-in-Lost.ensures),
      sealed_stands g.D.Disk m s st c.requires.up _ c.args.next e number refl refl refl c.checkpoint.ensures.settings
          (λ trusts.
          let here = records_here g.D.Disk m s st c.requires.up trusts in
          let bs = map spelled here.0.records in
          let seal = rw c.in-Lost.is at (c.checkpoint.ensures.answer trusts.disk bs here.1.0 here.1.1) in
          (here.0.records, here.0.backs, subst (λ (b : List (List ℕ)). MaySeal g.D.Disk bs b c.checkpoint.new.self) bodies seal, beside g (goal.at.returns-in-Lost-clause-turn g c).After-checkpoint s st trusts)),
    )

pub returns-in-Lost-clause-leaves : goal.returns-in-Lost-clause-leaves
returns-in-Lost-clause-leaves g c =
    λ log s rs r st trusts backs has e bodies.
    let m = c.args.self.now in
    trim_leaves g.D.Disk m log c.checkpoint.new.self s rs Lost _ st c.requires.up r e backs has (ap (λ (d : Done). d.outcome) c.trimmed-in-Lost.ensures)
    (checkpointed g.D.Disk m.log c.checkpoint.new.self Lost c.checkpoint.result has.0 c.args.bodies.now _ c.in-Lost.is bodies c.checkpoint.ensures.settings (c.checkpoint.ensures.swaps (st.alive c.requires.up))
    (c.checkpoint.ensures.any_moment trusts.disk (map spelled rs) has.0 (pair_same g.D.Disk log m.log r (map spelled rs) has.0 has.1)) (c.checkpoint.ensures.filled_meanwhile trusts.disk))

pub returns-in-Lost-clause-called : goal.returns-in-Lost-clause-called
returns-in-Lost-clause-called g c =
    λ log s r st bodies.
    let m = c.args.self.now in
    let alive = st.alive c.requires.up in
    trim_called g.D.Disk log m.log c.checkpoint.new.self c.args.bodies.now c.checkpoint.result Lost _ c.in-Lost.is (ap (λ (d : Done). d.outcome) c.trimmed-in-Lost.ensures) r
    (c.checkpoint.ensures.swaps alive) (c.checkpoint.ensures.cause alive)

pub returns-in-Refused-clause-called : goal.returns-in-Refused-clause-called
returns-in-Refused-clause-called g c =
    λ log s r st bodies.
    let m = c.args.self.now in
    let alive = st.alive c.requires.up in
    let is = is_refused g.D.Disk m s st c.requires.up c.args.bodies.now c.checkpoint.result bodies (c.checkpoint.ensures.full (st.alive c.requires.up)).0 c.in-Refused.is in
    trim_called g.D.Disk log m.log c.checkpoint.new.self c.args.bodies.now c.checkpoint.result Refused _ is (ap (λ (d : Done). d.outcome) c.trimmed-in-Refused.ensures) r
    (c.checkpoint.ensures.swaps alive) (c.checkpoint.ensures.cause alive)

pub returns-in-Refused-clause-turn : goal.returns-in-Refused-clause-turn
returns-in-Refused-clause-turn g c =
    λ s st e number bodies.
    let m = c.args.self.now in
    let is = is_refused g.D.Disk m s st c.requires.up c.args.bodies.now c.checkpoint.result bodies (c.checkpoint.ensures.full (st.alive c.requires.up)).0 c.in-Refused.is in
    let swaps = rw is at (c.checkpoint.ensures.swaps (st.alive c.requires.up)) in
    let told = ap (λ (d : Done). taken (trim_turn s) d.outcome) c.trimmed-in-Refused.ensures in
    is_answer _ (trim_became s (s.logged_boot + 1) Refused) _ (told ∙ trim_taken s Refused e) (
      sym (ap (λ (d : Done). d.reply) c.trimmed-in-Refused.ensures ∙ c.detailed.ensures),
      refused_stands g.D.Disk m s st c.requires.up _ refl c.requires.up refl c.checkpoint.ensures.settings swaps.3 swaps.5 swaps.2 swaps.6
          (λ trusts.
          let here = records_here g.D.Disk m s st c.requires.up trusts in
          let bs = map spelled here.0.records in
          let kept = rw is at (c.checkpoint.ensures.answer trusts.disk bs here.1.0 here.1.1) in
          (here.0.records, here.0.backs, refused_pair g.D.Disk bs here.1.0 c.checkpoint.new.self kept (beside g (goal.at.returns-in-Refused-clause-turn g c).After-checkpoint s st trusts))),
    )

pub returns-in-Refused-clause-leaves : goal.returns-in-Refused-clause-leaves
returns-in-Refused-clause-leaves g c =
    λ log s rs r st trusts backs has e bodies.
    let m = c.args.self.now in
    let is = is_refused g.D.Disk m s st c.requires.up c.args.bodies.now c.checkpoint.result bodies (c.checkpoint.ensures.full (st.alive c.requires.up)).0 c.in-Refused.is in
    trim_leaves g.D.Disk m log c.checkpoint.new.self s rs Refused _ st c.requires.up r e backs has (ap (λ (d : Done). d.outcome) c.trimmed-in-Refused.ensures)
    (checkpointed g.D.Disk m.log c.checkpoint.new.self Refused c.checkpoint.result has.0 c.args.bodies.now _ is bodies c.checkpoint.ensures.settings (c.checkpoint.ensures.swaps (st.alive c.requires.up))
    (c.checkpoint.ensures.any_moment trusts.disk (map spelled rs) has.0 (pair_same g.D.Disk log m.log r (map spelled rs) has.0 has.1)) (c.checkpoint.ensures.filled_meanwhile trusts.disk))

pub returns-in-Kept-clause-called : goal.returns-in-Kept-clause-called
returns-in-Kept-clause-called g c =
    λ log s r st bodies.
    let m = c.args.self.now in
    let alive = st.alive c.requires.up in
    trim_called g.D.Disk log m.log c.checkpoint.new.self c.args.bodies.now c.checkpoint.result Kept _ c.in-Kept.is (ap (λ (d : Done). d.outcome) c.trimmed.ensures) r
    (c.checkpoint.ensures.swaps alive) (c.checkpoint.ensures.cause alive)
