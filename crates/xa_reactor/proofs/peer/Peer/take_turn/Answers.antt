use Rattle.std.proofs.Common.{ℕ, inl, refl, subst}
use Rattle.xa_reactor.specs.Since.{TakenAt}
use Rattle.xa_reactor.proofs.peer.Peer.take_turn.Goals as goal

pub returns-then-not-flush-clause-taken : goal.returns-then-not-flush-clause-taken
returns-then-not-flush-clause-taken g c = (c.flush.new.self.connection, c.flush.ensures.sent, inl refl)

pub returns-then-is_asked-clause-taken : goal.returns-then-is_asked-clause-taken
returns-then-is_asked-clause-taken g c = (c.flush.new.self.connection, c.flush.ensures.sent, inl refl)

pub returns-else-is_asked-clause-taken : goal.returns-else-is_asked-clause-taken
returns-else-is_asked-clause-taken g c = (c.flush.new.self.connection, c.flush.ensures.sent, c.receive.ensures.fed)

pub returns-else-is_asked-clause-since : goal.returns-else-is_asked-clause-since
returns-else-is_asked-clause-since g c =
    subst (λ (t : ℕ). TakenAt t c.args.self.now.connection c.args.self.now.since c.receive.new.self.connection c.receive.new.self.since) c.now-now.ensures.now
    (c.flush.new.self.connection, c.flush.new.self.since, c.flush.ensures.since, c.receive.ensures.since)
