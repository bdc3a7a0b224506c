use Rattle.xa_manager.specs.Believed.Answered.{connect_reply}
use Rattle.xa_model.specs.declared.event.Event.TheVariants.{Connect}
use Rattle.xa_sequencer.proofs.Pendings.{acted_with_none, acted_with_some}
use Rattle.xa_sequencer.proofs.manager.ManagerManages.connect.Goals as goal

pub returns-in-Some-clause-acts : goal.returns-in-Some-clause-acts
returns-in-Some-clause-acts g c =
    acted_with_some g.D.Disk c.args.self.now c.connect_beside.new.self c.args.pending.now c.in-Some.group Connect (connect_reply c.connect_beside.result) c.in-Some.is
    c.connect_beside.ensures.answered

pub returns-in-None-clause-acts : goal.returns-in-None-clause-acts
returns-in-None-clause-acts g c =
    acted_with_none g.D.Disk c.args.self.now c.connect.new.self c.args.pending.now Connect (connect_reply c.connect.result) c.in-None.is c.connect.ensures.answered
