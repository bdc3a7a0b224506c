use Rattle.std.proofs.Common.{◌≡◌, Some, refl, rules}
use Rattle.xa_assoc.specs.Seats.{seat_at}
use Rattle.xa_assoc.proofs.Reseats.{left}
use Rattle.xa_assoc.proofs.sessions.Sessions.leave_seat.Goals as goal

pub returns-in-Some-clause-seat : goal.returns-in-Some-clause-seat
returns-in-Some-clause-seat c =
    let was : seat_at c.args.self.now c.args.session ≡ Some c.in-Some.seat.now = search rules in
    left c.args.self.now (record c.args.self.now { seats = c.get_mut.follows.lender c.leave.new.self }) c.args.session c.args.xid.now c.in-Some.seat.now c.leave.new.self
    (record { was = was; at = search rules; opened = c.leave.ensures.opened; scan = c.leave.ensures.scan; limit = c.leave.ensures.limit; connected = search rules; free = refl }) c.leave.ensures.active c.leave.ensures.own
