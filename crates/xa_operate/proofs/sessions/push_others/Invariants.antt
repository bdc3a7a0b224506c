use Rattle.std.proofs.Common.{◌≡◌, ◌++◌, take}
use Rattle.xa_operate.specs.Lines.{behind_commas}
use Rattle.xa_operate.proofs.sessions.push_others.Given as goal

abbrev pub invariant-loop-number : goal.invariant-loop-number
invariant-loop-number l = l.line.items ≡ l.initial.line.items ++ behind_commas (take l.number-index l.numbers)
