use Rattle.std.proofs.Common.{sym}
use Rattle.xa_script.specs.declared.words.Place.TheVariants.{Front}
use Rattle.xa_script.proofs.Places.{onto_none}
use Rattle.xa_script.proofs.words.first_word.Goals as goal

pub loop-index-init : goal.loop-index-init
loop-index-init c = sym (onto_none Front c.args.line.now)
