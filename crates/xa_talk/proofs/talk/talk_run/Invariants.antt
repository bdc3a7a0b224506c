use Rattle.std.proofs.Common.{List, [], ℕ}
use Rattle.std.specs.Io.KnownBytes.{Appends}
use Rattle.xa_talk.specs.Talks.{LinesTalked}
use Rattle.xa_talk.proofs.talk.talk_run.Given as goal

-- this many lines are talked, and their texts are written
abbrev pub invariant-loop-index : goal.invariant-loop-index
invariant-loop-index g l = (lines : List (List ℕ)) × (text : List ℕ) × Appends (g.O.Write.contents l.fn.output) (g.O.Write.contents l.output) text
    × LinesTalked l.manner (λ c. g.W.Write.contents c.writer) (λ c. g.R.Read.remaining c.reader) (g.I.Read.remaining l.fn.input) [] lines text (g.I.Read.remaining l.input) l.connections.numbered.items
