use Rattle.std.proofs.Common.{◌≡◌, ◌+◌, ℕ, List, false, map, Some, refl, ap, ◌∙◌, subst, ltb-true}
use Rattle.xa_record.specs.Spelling.{spelled}
use Rattle.xa_record.specs.declared.record.Record.{Record}
use Rattle.xa_log.specs.Believed.TwoFiles.{HasOther, Pair, MaySeal}
use Rattle.xa_log.proofs.Beside.{other_swapped}
use Rattle.xa_model.specs.declared.outcome.Appending.TheVariants.{Kept, Refused, Lost}
use Rattle.xa_model.specs.Durable.{durable}
use Rattle.xa_model.specs.Fold.{snapshot}
use Rattle.xa_model.specs.Restarting.{boot_became, restart_turn}
use Rattle.xa_limits.specs.declared.TheConstants.{MOST_BOOTS}
use Rattle.xa_model.specs.Turn.{taken}
use Rattle.xa_model.specs.declared.outcome.Outcome.{Outcome}
use Rattle.xa_manager.specs.declared.doubt.Doubt.TheVariants.{Boot}
use Rattle.xa_manager.specs.Believed.LogStands.{HasRecords}
use Rattle.xa_manager.proofs.CrashBoots.{boot_leaves, checkpointed}
use Rattle.xa_manager.proofs.Fates.{is_answer, turn_opens}
use Rattle.xa_manager.proofs.LogLengths.{text_size}
use Rattle.xa_manager.proofs.Standing.{down_stands, lost_stands, begun_stands, never_full, refused_pair}
use Rattle.xa_manager.proofs.manager.Manager.log_boot.Goals as goal
use Rattle.xa_manager.proofs.manager.Manager.log_boot.Goals.{After-checkpoint}

-- the other file isn't missing afterwards, whatever the checkpoint came to
beside : (g : _) (c : After-checkpoint g) → c.args.self.now.log.lost ≡ false → g.D.Disk.honest → (rs : List Record) → HasRecords g.D.Disk rs c.args.self.now.log → HasOther g.D.Disk c.checkpoint.new.self
beside g c alive honest rs has =
    other_swapped g.D.Disk (map spelled rs) c.deref.result.now c.checkpoint.result c.args.self.now.log c.checkpoint.new.self has.1.current (c.checkpoint.ensures.swaps alive)
    (c.checkpoint.ensures.filled honest) has.2

pub returns-in-Kept-clause-turn : goal.returns-in-Kept-clause-turn
returns-in-Kept-clause-turn g c =
    λ s t rs st trusts fate backs has alive less boot ready.
    let bodies : c.deref.result.now ≡ map spelled (snapshot (durable t) (t.logged_boot + 1)) = cc (ready.bodies, c.deref.ensures.value) in
    let kept = rw c.in-Kept.is at (c.checkpoint.ensures.answer trusts.disk (map spelled rs) has.0 has.1) in
    let swaps = rw c.in-Kept.is at (c.checkpoint.ensures.swaps alive) in
    let pair = subst (λ (b : List (List ℕ)). Pair g.D.Disk b (map spelled rs) c.checkpoint.new.self) bodies kept.0 in
    is_answer _ (boot_became t (t.logged_boot + 1) Kept) _ (ap (λ (o : Outcome). taken (restart_turn s) o) c.begun.ensures.told ∙ turn_opens c.args.survived s t Kept fate less) (
      cc,
      begun_stands g.D.Disk c.args.self.now _ s t c.args.survived rs refl refl refl refl c.checkpoint.ensures.settings st fate backs less c.restart.ensures.any ready.branches ready.records
          (pair.current.end ∙ text_size _ (snapshot (durable t) (t.logged_boot + 1))) pair.current.alive swaps.2 pair.current.number (map spelled rs, pair, beside g (goal.at.returns-in-Kept-clause-turn g c).After-checkpoint alive trusts.disk rs has),
    )

pub returns-in-Refused-clause-turn : goal.returns-in-Refused-clause-turn
returns-in-Refused-clause-turn g c =
    λ s t rs st trusts fate backs has alive less boot ready.
    let bodies : c.deref.result.now ≡ map spelled (snapshot (durable t) (t.logged_boot + 1)) = cc (ready.bodies, c.deref.ensures.value) in
    let kept = rw c.in-Refused.is at (c.checkpoint.ensures.answer trusts.disk (map spelled rs) has.0 has.1) in
    is_answer _ (boot_became t (t.logged_boot + 1) Refused) _ (ap (λ (o : Outcome). taken (restart_turn s) o) c.begun-in-Refused.ensures.told ∙ turn_opens c.args.survived s t Refused fate less)
    (cc, down_stands g.D.Disk c.args.self.now _ s t c.args.survived rs refl refl refl c.checkpoint.ensures.settings st fate backs (refused_pair g.D.Disk (map spelled rs) has.0 c.checkpoint.new.self kept (beside g (goal.at.returns-in-Refused-clause-turn g c).After-checkpoint alive trusts.disk rs has)))

pub returns-in-Lost-clause-turn : goal.returns-in-Lost-clause-turn
returns-in-Lost-clause-turn g c =
    λ s t rs st trusts fate backs has alive less boot ready.
    let bodies : c.deref.result.now ≡ map spelled (snapshot (durable t) (t.logged_boot + 1)) = cc (ready.bodies, c.deref.ensures.value) in
    let kept = rw c.in-Lost.is at (c.checkpoint.ensures.answer trusts.disk (map spelled rs) has.0 has.1) in
    is_answer _ (boot_became t (t.logged_boot + 1) Lost) _ (ap (λ (o : Outcome). taken (restart_turn s) o) c.begun-in-Lost.ensures.told ∙ turn_opens c.args.survived s t Lost fate less) (
      cc,
      lost_stands g.D.Disk c.args.self.now _ s t c.args.survived rs refl refl (ap (λ (n : ℕ). Some (Boot n)) boot) c.checkpoint.ensures.settings st fate backs (ltb-true t.logged_boot MOST_BOOTS less)
          (λ trusts. (rs, backs, subst (λ (b : List (List ℕ)). MaySeal g.D.Disk (map spelled rs) b c.checkpoint.new.self) bodies kept, beside g (goal.at.returns-in-Lost-clause-turn g c).After-checkpoint alive trusts.disk rs has)),
    )

pub returns-in-Full-clause-turn : goal.returns-in-Full-clause-turn
returns-in-Full-clause-turn g c =
    λ s t rs st trusts fate backs has alive less boot ready.
    absurd (never_full g.D.Disk c.args.self.now s t c.args.survived rs st fate backs c.deref.result.now (cc (ready.bodies, c.deref.ensures.value)) ((c.checkpoint.ensures.full alive).0 c.in-Full.is))

pub returns-in-Kept-clause-leaves : goal.returns-in-Kept-clause-leaves
returns-in-Kept-clause-leaves g c =
    λ s t rs st trusts fate backs has alive less ready.
    boot_leaves g.D.Disk c.args.self.now c.checkpoint.new.self s t c.args.survived rs Kept _ st fate backs has less c.begun.ensures.told
    (checkpointed g.D.Disk c.args.self.now.log c.checkpoint.new.self Kept c.checkpoint.result has.0 c.deref.result.now _ c.in-Kept.is (cc (ready.bodies, c.deref.ensures.value)) c.checkpoint.ensures.settings
    (c.checkpoint.ensures.swaps alive) (c.checkpoint.ensures.any_moment trusts.disk (map spelled rs) has.0 has.1) (c.checkpoint.ensures.filled_meanwhile trusts.disk))

pub returns-in-Refused-clause-leaves : goal.returns-in-Refused-clause-leaves
returns-in-Refused-clause-leaves g c =
    λ s t rs st trusts fate backs has alive less ready.
    boot_leaves g.D.Disk c.args.self.now c.checkpoint.new.self s t c.args.survived rs Refused _ st fate backs has less c.begun-in-Refused.ensures.told
    (checkpointed g.D.Disk c.args.self.now.log c.checkpoint.new.self Refused c.checkpoint.result has.0 c.deref.result.now _ c.in-Refused.is (cc (ready.bodies, c.deref.ensures.value)) c.checkpoint.ensures.settings
    (c.checkpoint.ensures.swaps alive) (c.checkpoint.ensures.any_moment trusts.disk (map spelled rs) has.0 has.1) (c.checkpoint.ensures.filled_meanwhile trusts.disk))

pub returns-in-Lost-clause-leaves : goal.returns-in-Lost-clause-leaves
returns-in-Lost-clause-leaves g c =
    λ s t rs st trusts fate backs has alive less ready.
    boot_leaves g.D.Disk c.args.self.now c.checkpoint.new.self s t c.args.survived rs Lost _ st fate backs has less c.begun-in-Lost.ensures.told
    (checkpointed g.D.Disk c.args.self.now.log c.checkpoint.new.self Lost c.checkpoint.result has.0 c.deref.result.now _ c.in-Lost.is (cc (ready.bodies, c.deref.ensures.value)) c.checkpoint.ensures.settings
    (c.checkpoint.ensures.swaps alive) (c.checkpoint.ensures.any_moment trusts.disk (map spelled rs) has.0 has.1) (c.checkpoint.ensures.filled_meanwhile trusts.disk))

pub returns-in-Full-clause-leaves : goal.returns-in-Full-clause-leaves
returns-in-Full-clause-leaves g c =
    λ s t rs st trusts fate backs has alive less ready.
    absurd (never_full g.D.Disk c.args.self.now s t c.args.survived rs st fate backs c.deref.result.now (cc (ready.bodies, c.deref.ensures.value)) ((c.checkpoint.ensures.full alive).0 c.in-Full.is))
