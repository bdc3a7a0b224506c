use Rattle.xa_assoc.proofs.Companies.{gone_company}
use Rattle.xa_assoc.proofs.HangingUp.{hang_up_follows}
use Rattle.xa_assoc.proofs.sessions.Sessions.hangup.Goals as goal

pub returns-clause-after : goal.returns-clause-after
returns-clause-after c = hang_up_follows c.args.self.now c.take_seat.new.self c.args.session c.take_seat.ensures.goes

pub returns-clause-gone : goal.returns-clause-gone
returns-clause-gone c = gone_company _ _ c.args.session c.take_seat.ensures.goes
