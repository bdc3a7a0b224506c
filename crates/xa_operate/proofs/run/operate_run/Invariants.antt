use Rattle.std.proofs.Common.{◌≡◌, ℕ, List, length}
use Rattle.std.specs.Io.KnownBytes.{Appends}
use Rattle.std.specs.Prelude.{All}
use Rattle.xa_talk.specs.declared.answered.Answered.{Answered}
use Rattle.xa_talk.specs.declared.dial.Connection.{Connection}
use Rattle.xa_operate.specs.Agendas.{asked_first}
use Rattle.xa_operate.specs.Askings.{IsAsking}
use Rattle.xa_operate.specs.Courses.{AreDone}
use Rattle.xa_operate.proofs.run.operate_run.Given as goal

-- this many questions are done, and their texts are printed
abbrev pub invariant-loop : goal.invariant-loop
invariant-loop g l = (first : Connection g.row.R.Denot g.row.W.Denot) × (replies : List Answered) × (text : List ℕ) × (length replies ≡ l.counter)
    × AreDone l.format l.task (λ c. g.W.Write.contents c.writer) (λ c. g.R.Read.remaining c.reader) (asked_first l.name l.task) replies l.agenda.items text first l.connection
    × Appends (g.O.Write.contents l.fn.output) (g.O.Write.contents l.output) text × All IsAsking l.agenda.items
