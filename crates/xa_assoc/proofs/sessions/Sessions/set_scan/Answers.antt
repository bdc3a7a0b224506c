use Rattle.xa_assoc.proofs.Companies.{set_company}
use Rattle.xa_assoc.proofs.Arrivals.{scan_follows}
use Rattle.xa_assoc.proofs.sessions.Sessions.set_scan.Goals as goal

pub returns-clause-after : goal.returns-clause-after
returns-clause-after c = λ s st. scan_follows c.args.self.now c.put_scan.new.self c.args.session c.args.scan s c.put_scan.ensures st

pub returns-clause-company : goal.returns-clause-company
returns-clause-company c = set_company _ _ c.args.session _ _ _ c.put_scan.ensures
