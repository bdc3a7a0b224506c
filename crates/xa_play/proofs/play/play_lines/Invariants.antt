use Rattle.std.proofs.Common.{List, ℕ, length}
use Rattle.std.specs.Io.KnownBytes.{Appends}
use Rattle.std.specs.Option.{option_copied}
use Rattle.xa_script.specs.Parts.{parts_behind}
use Rattle.xa_play.proofs.Playing.{PlayedSoFar}
use Rattle.xa_play.proofs.play.play_lines.Given as goal

-- the text so far is written, and what the rest prints stands after it
abbrev pub invariant-loop-rest : goal.invariant-loop-rest
invariant-loop-rest g l = (text : List ℕ) × Appends (g.W.Write.contents l.fn.writer) (g.W.Write.contents l.writer) text
    × PlayedSoFar l.settings.name l.settings.log_bytes l.fn.manager l.script text l.manager (option_copied l.rest)

abbrev pub decreases-loop-rest : goal.decreases-loop-rest
decreases-loop-rest g l = length (parts_behind 10 (option_copied l.rest))
