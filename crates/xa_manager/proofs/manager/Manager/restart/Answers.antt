use Rattle.std.proofs.Common.{ap, refl}
use Rattle.xa_assoc.specs.Refusals.{is_memory}
use Rattle.xa_frame.specs.declared.reply.Reply.{Reply}
use Rattle.xa_manager.proofs.Calling.{served_not, wanted_is, restart_answered}
use Rattle.xa_manager.proofs.Promised.{restart_promises}
use Rattle.xa_manager.proofs.manager.Manager.restart.Goals as goal

pub returns-in-Ok-clause-answered : goal.returns-in-Ok-clause-answered
returns-in-Ok-clause-answered g c =
    served_not g.D.Disk _ _ _ c.in-Ok.ensures.ok.served
    (λ s st trusts. restart_answered g.D.Disk c.restarted.new.self s c.in-Ok.done.reply c.in-Ok.done.outcome (c.in-Ok.ensures.ok.turn s st trusts))

pub returns-in-Ok-clause-leaves : goal.returns-in-Ok-clause-leaves
returns-in-Ok-clause-leaves g c = served_not g.D.Disk _ _ _ c.in-Ok.ensures.ok.served (λ s st trusts. c.in-Ok.ensures.ok.leaves s st trusts)

pub returns-in-Ok-clause-promises : goal.returns-in-Ok-clause-promises
returns-in-Ok-clause-promises g c =
    λ served.
    restart_promises g.D.Disk c.args.self.now (record c.restarted.new.self { outcome = c.in-Ok.done.outcome }) c.in-Ok.done.reply
    (λ s st trusts. restart_answered g.D.Disk c.restarted.new.self s c.in-Ok.done.reply c.in-Ok.done.outcome (c.in-Ok.ensures.ok.turn s st trusts))

-- memory was wanted

pub returns-in-Err-clause-answered : goal.returns-in-Err-clause-answered
returns-in-Err-clause-answered g c = wanted_is _ _ _ (ap (λ (r : Reply). is_memory r.detail) c.detailed.ensures) (c.in-Err.ensures.err.stays, c.restarted.ensures.outcome)

pub returns-in-Err-clause-leaves : goal.returns-in-Err-clause-leaves
returns-in-Err-clause-leaves g c = wanted_is _ _ _ (ap (λ (r : Reply). is_memory r.detail) c.detailed.ensures) (λ s st trusts. c.in-Err.ensures.err.leaves refl s st trusts)

pub returns-in-Err-clause-quiet : goal.returns-in-Err-clause-quiet
returns-in-Err-clause-quiet g c = λ wanted. c.in-Err.ensures.err.quiet
