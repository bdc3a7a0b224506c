use Rattle.std.proofs.Common.{◌≡◌, Bool, false, ap, sym, subst, ◌∙◌}
use Rattle.std.specs.Prelude.{if◌then◌else◌}
use Rattle.std.specs.List.{list_any}
use Rattle.xa_model.specs.Associations.{is_of_session}
use Rattle.xa_model.specs.State.{State}
use Rattle.xa_model.specs.Step.{is_up}
use Rattle.xa_assoc.proofs.Facts.{holds_any_is}
use Rattle.xa_manager.specs.Managed.{view}
use Rattle.xa_manager.specs.Stands.{StandsDown, TablesStandFor}
use Rattle.xa_manager.specs.Unmarked.{has_unmarked, is_of_unmarked}
use Rattle.xa_manager.proofs.manager.Manager.has_unmarked.Goals as goal

pub returns-else-self-clause-alone : goal.returns-else-self-clause-alone
returns-else-self-clause-alone g c = λ s stands.
    let stood : TablesStandFor false (view c.args.self.now) s = subst (λ (up : Bool). TablesStandFor up (view c.args.self.now) s) c.if-self.false stands.tables in
    c.holds_any.ensures
    ∙ holds_any_is c.args.self.now.tables.sessions s c.args.session stood.sessions
    ∙ ap (λ (up : Bool). if up then list_any (is_of_unmarked c.args.session s) s.associations else list_any (is_of_session c.args.session) s.associations)
    (sym (ap is_up stood.down))
