use Rattle.std.proofs.Common.{None}
use Rattle.xa_desk.specs.Believed.Serving.{Talks}
use Rattle.xa_desk.proofs.connection.converse.Given as goal

abbrev pub invariant-loop : goal.invariant-loop
invariant-loop g l =
    Talks (g.D.Door.called l.session) l.counter None (g.R.Read.remaining l.initial.reader) (g.R.Read.remaining l.reader) (g.W.Write.contents l.initial.writer) (g.W.Write.contents l.writer) l.initial.door l.door
