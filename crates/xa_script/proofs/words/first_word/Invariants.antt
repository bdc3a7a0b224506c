use Rattle.std.proofs.Common.{◌≡◌, drop, take}
use Rattle.xa_script.specs.Words.{words, words_from}
use Rattle.xa_script.proofs.Places.{onto}
use Rattle.xa_script.proofs.words.first_word.Given as goal

-- the words of the line, by the characters that the first one has so far
abbrev pub invariant-loop-index : goal.invariant-loop-index
invariant-loop-index l = words l.line ≡ onto (take l.index l.line) (words_from l.place (drop l.index l.line))
