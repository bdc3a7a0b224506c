use Rattle.std.proofs.Common.{◌≡◌, drop}
use Rattle.xa_script.specs.Words.{place_behind}
use Rattle.xa_script.specs.declared.words.Place.TheVariants.{Front}
use Rattle.xa_script.proofs.words.is_unended.Given as goal

-- where the reading is, with the characters that are left
abbrev pub invariant-loop-character : goal.invariant-loop-character
invariant-loop-character l = place_behind Front l.word ≡ place_behind l.place (drop l.character-index l.word)
