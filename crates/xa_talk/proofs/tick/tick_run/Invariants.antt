use Rattle.std.proofs.Common.{◌≡◌, pos, List, length}
use Rattle.xa_frame.specs.Made.{plain}
use Rattle.xa_frame.specs.declared.reply.Reply.{Reply}
use Rattle.xa_talk.specs.declared.dial.Connection.{Connection}
use Rattle.xa_talk.specs.Ticks.{AreTicks}
use Rattle.xa_talk.proofs.tick.tick_run.Given as goal

-- this many moments were told and answered
abbrev pub invariant-loop : goal.invariant-loop
invariant-loop g l = (first : Connection g.row.R.Denot g.row.W.Denot) × (replies : List Reply) × (length replies ≡ l.counter)
    × AreTicks g.T.Ticker.gives g.T.Ticker.tells (λ c. g.W.Write.contents c.writer) (λ c. g.R.Read.remaining c.reader)
    (plain (pos 0)) replies l.last l.fn.ticker l.ticker first l.connection
