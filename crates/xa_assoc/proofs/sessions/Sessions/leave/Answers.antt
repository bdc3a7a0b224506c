use Rattle.xa_assoc.proofs.Follows.{ended_follows, failed_follows, not_suspended_follows, not_resumed_follows}
use Rattle.xa_assoc.proofs.sessions.Sessions.leave.Goals as goal

pub returns-clause-ended : goal.returns-clause-ended
returns-clause-ended c = ended_follows c.args.self.now c.leave_seat.new.self c.args.session c.args.xid.now c.leave_seat.ensures.room c.leave_seat.ensures.seat

pub returns-clause-failed : goal.returns-clause-failed
returns-clause-failed c = failed_follows c.args.self.now c.leave_seat.new.self c.args.session c.args.xid.now c.leave_seat.ensures.room c.leave_seat.ensures.seat

pub returns-clause-not_suspended : goal.returns-clause-not_suspended
returns-clause-not_suspended c = not_suspended_follows c.args.self.now c.leave_seat.new.self c.args.session c.args.xid.now c.leave_seat.ensures.room c.leave_seat.ensures.seat

pub returns-clause-not_resumed : goal.returns-clause-not_resumed
returns-clause-not_resumed c = not_resumed_follows c.args.self.now c.leave_seat.new.self c.args.session c.args.xid.now c.leave_seat.ensures.room c.leave_seat.ensures.seat
