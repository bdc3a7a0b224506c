use Rattle.xa_words.specs.Line.{verb_shape}
use Rattle.xa_words.specs.declared.verb.Verb.TheVariants.{Status, Branches, Recover}
use Rattle.xa_words.proofs.line.with_questions.Goals as goal

pub returns : goal.returns
returns c app builds =
    let one = c.in_ok-line.ensures app (verb_shape Status) builds c.verb_command.ensures in
    let two = c.in_ok-line-2.ensures _ (verb_shape Branches) one c.verb_command-2.ensures in
    c.with_command-3.ensures _ (verb_shape Recover) two c.verb_command-3.ensures
