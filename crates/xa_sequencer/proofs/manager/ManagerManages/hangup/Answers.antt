use Rattle.std.specs.Prelude.{pos}
use Rattle.xa_model.specs.Answer.{plain}
use Rattle.xa_model.specs.declared.event.Event.TheVariants.{Hangup}
use Rattle.xa_sequencer.proofs.Pendings.{acted_with_none, hung_up_with_some, sessions_left}
use Rattle.xa_sequencer.proofs.manager.ManagerManages.hangup.Goals as goal

pub returns-in-Some-clause-did : goal.returns-in-Some-clause-did
returns-in-Some-clause-did g c =
    hung_up_with_some g.D.Disk c.args.self.now c.hangup_beside.new.self c.args.pending.now c.in-Some.group c.args.session c.hangup_beside.result c.in-Some.is c.hangup_beside.ensures.did

pub returns-in-Some-clause-sessions : goal.returns-in-Some-clause-sessions
returns-in-Some-clause-sessions g c = λ did was.
    sessions_left g.D.Disk c.args.self.now c.hangup_beside.new.self c.in-Some.group c.args.session c.hangup_beside.result did was c.hangup_beside.ensures.did

pub returns-in-None-clause-did : goal.returns-in-None-clause-did
returns-in-None-clause-did g c =
    acted_with_none g.D.Disk c.args.self.now c.hangup.new.self c.args.pending.now (Hangup c.args.session) (plain (pos 0)) c.in-None.is c.hangup.ensures.answered
