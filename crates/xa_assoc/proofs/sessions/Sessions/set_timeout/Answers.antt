use Rattle.std.proofs.Common.{◌≡◌, None, rules}
use Rattle.xa_assoc.specs.Seats.{opened_at}
use Rattle.xa_assoc.proofs.Arrivals.{limit_follows, limit_stays}
use Rattle.xa_assoc.proofs.Companies.{set_company}
use Rattle.xa_assoc.proofs.sessions.Sessions.set_timeout.Goals as goal

pub returns-then-not-is_connected-clause-after : goal.returns-then-not-is_connected-clause-after
returns-then-not-is_connected-clause-after c = λ s st.
    let none : opened_at c.args.self.now c.args.session ≡ None = search rules in
    limit_stays c.args.self.now c.args.session c.args.seconds s none st

pub returns-clause-after : goal.returns-clause-after
returns-clause-after c = λ s st. limit_follows c.args.self.now c.put_limit.new.self c.args.session c.args.seconds s c.put_limit.ensures st

pub returns-clause-company : goal.returns-clause-company
returns-clause-company c = set_company _ _ c.args.session _ _ _ c.put_limit.ensures
