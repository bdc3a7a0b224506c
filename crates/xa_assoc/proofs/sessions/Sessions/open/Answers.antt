use Rattle.xa_assoc.proofs.Companies.{set_company}
use Rattle.xa_assoc.proofs.Arrivals.{open_follows}
use Rattle.xa_assoc.proofs.sessions.Sessions.open.Goals as goal

pub returns-clause-after : goal.returns-clause-after
returns-clause-after c = open_follows c.args.self.now c.set_opened.new.self c.args.session c.set_opened.ensures

pub returns-clause-company : goal.returns-clause-company
returns-clause-company c = set_company _ _ c.args.session _ _ _ c.set_opened.ensures
