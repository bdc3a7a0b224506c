use Rattle.std.proofs.Common.{◌≡◌, sym, ◌∙◌, subst}
use Rattle.std.proofs.lemmas.List.{get_or_read}
use Rattle.xa_frame.specs.declared.request.Request.TheVariants as request
use Rattle.xa_manager.specs.declared.together.Together.{Together}
use Rattle.xa_manager.specs.Believed.Together.{asked_at, asks_prepare}
use Rattle.xa_manager.proofs.Grouping.{HasGrown, beq_same, none_grown, one_grown}
use Rattle.xa_manager.proofs.manager.Manager.gather.Goals as goal
use Rattle.xa_manager.proofs.manager.Manager.gather.Goals.{then-prepares+in_ok-take_in, else-prepares}

pub calls-init : goal.calls-init
calls-init g c = none_grown g.D.Disk c.args.self.now c.args.calls.now c.args.prepares c.args.together.now c.requires.first

pub calls-preserved : goal.calls-preserved
calls-preserved g c =
    let m = c.args.self.now in
    let calls = c.args.calls.now in
    let call = c.index-calls-at.result in
    let is : call ≡ asked_at calls c.calls.at = get_or_read calls _ _ c.calls-test.true c.index-calls-at.is (record { session = 0; request = request.Restart }) in
    elim c.if-prepares.branch [
      | then-prepares+in_ok-take_in w ↦
          let asks : asks_prepare call.request ≡ c.args.prepares = sym c.prepares.ensures ∙ beq_same c.prepares.result c.args.prepares w.if-prepares.true in
          subst (λ (x : Together). HasGrown g.D.Disk m calls c.args.prepares c.args.together.now x) (sym w.together-is)
          (one_grown g.D.Disk m calls c.args.prepares c.args.together.now c.calls.together w.take_in.new.together c.calls.at call c.calls-test.true (sym is) asks w.in_ok-take_in.ensures c.calls.invariant)
      | else-prepares w ↦
          subst (λ (x : Together). HasGrown g.D.Disk m calls c.args.prepares c.args.together.now x) (sym w.together-is) c.calls.invariant
    ]
