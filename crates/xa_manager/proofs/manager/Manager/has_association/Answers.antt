use Rattle.std.proofs.Common.{◌∙◌}
use Rattle.xa_assoc.proofs.Facts.{holds_any_is}
use Rattle.xa_manager.specs.Managed.{view}
use Rattle.xa_manager.proofs.Standing.{outside}
use Rattle.xa_manager.proofs.manager.Manager.has_association.Goals as goal

pub returns-clause-alone : goal.returns-clause-alone
returns-clause-alone g c = λ s stands.
    c.holds_any.ensures
    ∙ holds_any_is c.args.self.now.tables.sessions s c.args.session (outside c.args.self.now.up (view c.args.self.now) s stands.tables).sessions

pub returns-clause-beside : goal.returns-clause-beside
returns-clause-beside g c = λ f s pends.
    c.holds_any.ensures
    ∙ holds_any_is c.args.self.now.tables.sessions s c.args.session (outside c.args.self.now.up (view c.args.self.now) s pends.1.stands.tables).sessions
