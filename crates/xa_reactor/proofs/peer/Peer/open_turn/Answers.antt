use Rattle.std.proofs.Common.{subst, sym}
use Rattle.xa_connection.specs.declared.connection.Connection.{Connection}
use Rattle.xa_reactor.specs.Believed.Tending.{Seat}
use Rattle.xa_reactor.specs.Turning.{CarriesOn, HasAnswered}
use Rattle.xa_reactor.proofs.Turning.{carries_on, carries_on_fed, has_answered, none_answered}
use Rattle.xa_reactor.proofs.peer.Peer.open_turn.Goals as goal

pub returns-then-not-take_turn-clause-opens : goal.returns-then-not-take_turn-clause-opens
returns-then-not-take_turn-clause-opens g c =
    let taken = c.take_turn.ensures.taken in
    let old = c.args.self.now in (
      none_answered old.standing (g.D.Door.called old.session) c.args.door.now,
      carries_on_fed old.standing (g.D.Door.called old.session) old.connection taken.0 c.take_turn.new.self.connection c.args.door.now taken.1 taken.2,
    )

pub returns-in_default-clause-opens : goal.returns-in_default-clause-opens
returns-in_default-clause-opens g c =
    let taken = c.take_turn.ensures.taken in
    let p = c.take_turn.new.self in
    let old = c.args.self.now in (
      subst (λ (s : Seat). HasAnswered s.standing (g.D.Door.called s.session) c.args.door.now c.answer.new.door) c.take_turn.ensures.session
          (has_answered p.standing (g.D.Door.called p.session) c.answer.ensures.turns.0 p.connection c.answer.new.self.connection
          c.args.door.now c.answer.new.door c.answer.ensures.turns.1),
      subst (λ (x : Connection). CarriesOn old.standing (g.D.Door.called old.session) old.connection c.args.door.now x c.answer.new.door)
          (sym c.order_or.ensures.same.1)
          (subst (λ (s : Seat). CarriesOn s.standing (g.D.Door.called s.session) old.connection c.args.door.now c.send-step.new.self.connection c.answer.new.door)
          c.take_turn.ensures.session
          (carries_on p.standing (g.D.Door.called p.session) old.connection taken.0 p.connection
          c.answer.new.self.connection c.send-step.new.self.connection c.args.door.now c.answer.new.door c.answer.ensures.turns.0
          taken.1 taken.2 c.answer.ensures.turns.1 c.send-step.ensures.sent)),
    )
