use Rattle.std.proofs.Common.{◌∙◌}
use Rattle.xa_manager.specs.Managed.{view}
use Rattle.xa_manager.proofs.Standing.{outside}
use Rattle.xa_manager.proofs.manager.Manager.works_for.Goals as goal

pub returns-clause-alone : goal.returns-clause-alone
returns-clause-alone g c = λ s stands.
    c.owns.ensures ∙ (outside c.args.self.now.up (view c.args.self.now) s stands.tables).sessions.own c.args.session c.args.xid.now

pub returns-clause-beside : goal.returns-clause-beside
returns-clause-beside g c = λ f s pends.
    c.owns.ensures ∙ (outside c.args.self.now.up (view c.args.self.now) s pends.1.stands.tables).sessions.own c.args.session c.args.xid.now
