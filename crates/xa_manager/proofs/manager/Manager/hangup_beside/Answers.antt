use Rattle.std.proofs.Common.{◌≡◌, true, refl}
use Rattle.std.specs.Prelude.{pos}
use Rattle.xa_model.specs.Answer.{plain}
use Rattle.xa_model.specs.Associations.{hang_up_by}
use Rattle.xa_model.specs.declared.event.Event.TheVariants.{Hangup}
use Rattle.xa_model.specs.declared.outcome.Outcome.TheVariants.{Quiet}
use Rattle.xa_manager.proofs.Besides.{asks_none, event_beside, hangs_up_apart, none_asks}
use Rattle.xa_manager.proofs.manager.Manager.hangup_beside.Goals as goal

pub returns-clause-did : goal.returns-clause-did
returns-clause-did g c =
    let m = c.args.self.now in
    let f = c.args.group.now in
    let none = asks_none c.args.session f c.asks_none.result c.asks_none.ensures c.if-not-asks_none.false in (
      event_beside g.D.Disk m (record m { tables = c.hangup.new.self; outcome = Quiet }) f (Hangup c.args.session) (λ s. hang_up_by s c.args.session) (plain (pos 0)) c.requires.group
          refl (hangs_up_apart g.D.Disk m f c.args.session c.requires.group none) tt refl (λ s. refl) refl refl refl c.hangup.ensures.up c.hangup.ensures.down c.hangup.ensures.rooms,
      c.hangup.ensures.gone,
    )

pub returns-then-not-asks_none-clause-did : goal.returns-then-not-asks_none-clause-did
returns-then-not-asks_none-clause-did g c =
    let f = c.args.group.now in
    let any = c.if-not-asks_none.true in
    (refl, λ none. let all : c.asks_none.result ≡ true = none_asks c.args.session f c.asks_none.result c.asks_none.ensures none in absurd (cc (all, any)))
