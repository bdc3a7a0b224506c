use Rattle.xa_model.specs.declared.event.Event.TheVariants.{Call}
use Rattle.xa_history.proofs.Together.{if_ok}
use Rattle.xa_sequencer.proofs.Pendings.{acted_with_none, acted_with_some}
use Rattle.xa_sequencer.proofs.manager.ManagerManages.call.Goals as goal

pub returns-in-Some-clause-acts : goal.returns-in-Some-clause-acts
returns-in-Some-clause-acts g c =
    if_ok c.call_beside.result _ _
    (λ reply w. acted_with_some g.D.Disk c.args.self.now c.call_beside.new.self c.args.pending.now c.in-Some.group (Call c.args.session c.args.request) reply c.in-Some.is w)
    c.call_beside.ensures.ok

pub returns-in-None-clause-acts : goal.returns-in-None-clause-acts
returns-in-None-clause-acts g c =
    acted_with_none g.D.Disk c.args.self.now c.call.new.self c.args.pending.now (Call c.args.session c.args.request) c.call.result c.in-None.is c.call.ensures.answered
