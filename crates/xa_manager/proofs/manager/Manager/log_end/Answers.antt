use Rattle.std.proofs.Common.{◌≡◌, ◌∙◌, Bool, true, false, refl}
use Rattle.xa_model.specs.State.{State, Up}
use Rattle.xa_manager.specs.Managed.{view}
use Rattle.xa_manager.specs.Stands.{TablesStandFor}
use Rattle.xa_manager.specs.View.{View}
use Rattle.xa_manager.proofs.manager.Manager.log_end.Goals as goal

up_of : (up : Bool) (k : View) (s : State) → TablesStandFor up k s → s.standing ≡ Up → up ≡ true
up_of true k s h is = refl
up_of false k s h is = absurd (cc (is, h.down))

pub returns-clause-alone : goal.returns-clause-alone
returns-clause-alone g c = λ s stands is.
    c.end.ensures ∙ stands.end (up_of c.args.self.now.up (view c.args.self.now) s stands.tables is)

-- the group is written after the end, where it stays
pub returns-clause-beside : goal.returns-clause-beside
returns-clause-beside g c = λ f s pends. c.end.ensures ∙ pends.1.written.ends.0 ∙ pends.1.stands.end pends.1.up
