use Rattle.std.proofs.Common.{◌≡◌, Some, None, arith}
use Rattle.xa_model.specs.Associations.{close_refusal}
use Rattle.xa_assoc.specs.Seats.{holds_any_at}
use Rattle.xa_assoc.proofs.Companies.{set_company}
use Rattle.xa_assoc.proofs.Closing.{close_refuses, close_stays, close_succeeds, close_follows}
use Rattle.xa_assoc.proofs.sessions.Sessions.close.Goals as goal

pub returns-in-Some-clause-refused : goal.returns-in-Some-clause-refused
returns-in-Some-clause-refused c = λ s st.
    let e : close_refusal (holds_any_at c.args.self.now c.args.session) ≡ Some c.in-Some.reply = grind (arith, c.in-Some.ensures.value, c.holds_any.ensures) in
    close_refuses c.args.self.now s c.args.session c.in-Some.reply st e

pub returns-in-Some-clause-after : goal.returns-in-Some-clause-after
returns-in-Some-clause-after c =
    let e : close_refusal (holds_any_at c.args.self.now c.args.session) ≡ Some c.in-Some.reply = grind (arith, c.in-Some.ensures.value, c.holds_any.ensures) in
    close_stays c.args.self.now c.args.session c.in-Some.reply e

pub returns-clause-closed : goal.returns-clause-closed
returns-clause-closed c = λ s st.
    let e : close_refusal (holds_any_at c.args.self.now c.args.session) ≡ None = grind (arith, c.in_default.ensures.value, c.holds_any.ensures) in
    close_succeeds c.args.self.now s c.args.session st e

pub returns-clause-after : goal.returns-clause-after
returns-clause-after c =
    let e : close_refusal (holds_any_at c.args.self.now c.args.session) ≡ None = grind (arith, c.in_default.ensures.value, c.holds_any.ensures) in
    close_follows c.args.self.now c.set_closed.new.self c.args.session e c.set_closed.ensures

pub returns-clause-company : goal.returns-clause-company
returns-clause-company c = set_company _ _ c.args.session _ _ _ c.set_closed.ensures
