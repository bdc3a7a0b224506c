use Rattle.std.proofs.Common.{◌≡◌, ◌+◌, length, None, false, sym, arith, rules}
use Rattle.xa_model.specs.Associations.{connect_refusal}
use Rattle.xa_model.proofs.Rows.{nothing}
use Rattle.std.specs.Prelude.{is_some}
use Rattle.xa_assoc.specs.Changes.{Comes}
use Rattle.xa_assoc.specs.Seats.{opened_at}
use Rattle.xa_assoc.proofs.Companies.{come_company}
use Rattle.xa_assoc.proofs.Connecting.{IsFirst, done, connect_number, connect_follows, none_is_full, fewer}
use Rattle.xa_assoc.proofs.sessions.Sessions.connect.Goals as goal

pub returns-in_default-2-clause-full : goal.returns-in_default-2-clause-full
returns-in_default-2-clause-full c = λ is s st.
    let free : connect_refusal (length c.args.self.now.seats.entries) ≡ None = grind (arith, c.connect_refusal.ensures.value, c.len.ensures.len, nothing c.connect_refusal.result) in
    absurd (none_is_full c.args.self.now s st (fewer (length c.args.self.now.seats.entries) free) c.in_default.ensures.none)

pub returns-clause-number : goal.returns-clause-number
returns-clause-number c = λ s st.
    let free : connect_refusal (length c.args.self.now.seats.entries) ≡ None = grind (arith, c.connect_refusal.ensures.value, c.len.ensures.len, nothing c.connect_refusal.result) in
    let at : IsFirst c.args.self.now c.in-Some.index = record { within = c.in-Some.ensures.within; free = c.in-Some.ensures.free; least = c.in-Some.ensures.least } in
    connect_number c.args.self.now s c.in-Some.index st free at

pub returns-clause-ok : goal.returns-clause-ok
returns-clause-ok c =
    let free : connect_refusal (length c.args.self.now.seats.entries) ≡ None = grind (arith, c.connect_refusal.ensures.value, c.len.ensures.len, nothing c.connect_refusal.result) in
    let at : IsFirst c.args.self.now c.in-Some.index = record { within = c.in-Some.ensures.within; free = c.in-Some.ensures.free; least = c.in-Some.ensures.least } in
    let comes : Comes c.args.self.now (c.in-Some.index + 1) c.add_seat.new.self = done c.add_seat.result _ (sym c.if-is_err.ensures.value) c.add_seat.ensures.ok in
    connect_follows c.args.self.now c.add_seat.new.self c.in-Some.index at free comes

pub returns-clause-came : goal.returns-clause-came
returns-clause-came c =
    let none : is_some (opened_at c.args.self.now (c.in-Some.index + 1)) ≡ false = search rules in
    let comes : Comes c.args.self.now (c.in-Some.index + 1) c.add_seat.new.self = done c.add_seat.result _ (sym c.if-is_err.ensures.value) c.add_seat.ensures.ok in
    come_company c.args.self.now c.add_seat.new.self _ none comes
