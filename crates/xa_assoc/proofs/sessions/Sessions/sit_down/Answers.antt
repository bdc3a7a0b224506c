use Rattle.std.proofs.Common.{◌≡◌, Some, refl, rules}
use Rattle.xa_assoc.specs.Seats.{seat_at}
use Rattle.xa_assoc.proofs.Companies.{room_company}
use Rattle.xa_assoc.proofs.Reseats.{Reseats, sat, same_room}
use Rattle.xa_assoc.proofs.sessions.Sessions.sit_down.Goals as goal

seated : (c : goal.In_ok-sit_down) → Reseats c.args.self.now (record c.args.self.now { seats = c.get_mut.follows.lender c.sit_down.new.self }) c.args.session c.in-Some.seat.now c.sit_down.new.self
seated c = record { was = search rules; at = search rules; opened = c.sit_down.ensures.opened; scan = c.sit_down.ensures.scan; limit = c.sit_down.ensures.limit; connected = search rules; free = refl }

pub returns-in_ok-sit_down-clause-seat : goal.returns-in_ok-sit_down-clause-seat
returns-in_ok-sit_down-clause-seat c =
    sat c.args.self.now (record c.args.self.now { seats = c.get_mut.follows.lender c.sit_down.new.self }) c.args.session c.args.xid c.in-Some.seat.now c.sit_down.new.self (seated c) c.in_ok-sit_down.ensures.active c.in_ok-sit_down.ensures.own

pub returns-in_ok-sit_down-clause-company : goal.returns-in_ok-sit_down-clause-company
returns-in_ok-sit_down-clause-company c =
    room_company c.args.self.now (record c.args.self.now { seats = c.get_mut.follows.lender c.sit_down.new.self }) (same_room _ _ c.args.session c.in-Some.seat.now c.sit_down.new.self (seated c))

pub returns-in_err-sit_down-clause-company : goal.returns-in_err-sit_down-clause-company
returns-in_err-sit_down-clause-company c =
    let was : seat_at c.args.self.now c.args.session ≡ Some c.in-Some.seat.now = search rules in
    room_company c.args.self.now (record c.args.self.now { seats = c.get_mut.follows.lender c.sit_down.new.self })
    (same_room _ _ c.args.session c.in-Some.seat.now c.sit_down.new.self
    (record { was = was; at = search rules; opened = c.sit_down.ensures.opened; scan = c.sit_down.ensures.scan; limit = c.sit_down.ensures.limit; connected = search rules; free = refl }))
