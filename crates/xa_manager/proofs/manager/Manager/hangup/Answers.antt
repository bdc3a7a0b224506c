use Rattle.std.proofs.Common.{refl}
use Rattle.std.specs.Prelude.{pos}
use Rattle.xa_model.specs.Answer.{plain}
use Rattle.xa_model.specs.Associations.{hang_up_by}
use Rattle.xa_model.specs.declared.event.Event.TheVariants.{Hangup}
use Rattle.xa_manager.proofs.Calling.{event_answered}
use Rattle.xa_manager.proofs.manager.Manager.hangup.Goals as goal

pub returns-clause-answered : goal.returns-clause-answered
returns-clause-answered g c =
    event_answered _ c.args.self.now (record c.args.self.now { tables = c.hangup.new.self }) (Hangup c.args.session) (λ s. hang_up_by s c.args.session) (plain (pos 0)) tt refl (λ s. refl) refl refl refl
    c.hangup.ensures.up c.hangup.ensures.down
