use Rattle.std.proofs.Common.{◌≡◌, ◌++◌, take}
use Rattle.xa_script.specs.Answers.{numbers_text}
use Rattle.xa_script.proofs.answer.push_numbers.Given as goal

abbrev pub invariant-loop-number : goal.invariant-loop-number
invariant-loop-number l = l.line.items ≡ l.initial.line.items ++ numbers_text (take l.number-index l.numbers)
