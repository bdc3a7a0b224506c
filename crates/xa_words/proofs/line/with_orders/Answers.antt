use Rattle.xa_words.specs.Line.{verb_shape}
use Rattle.xa_words.specs.declared.verb.Verb.TheVariants.{Disconnect, Trim, Restart, RollbackMarked}
use Rattle.xa_words.proofs.line.with_orders.Goals as goal

pub returns : goal.returns
returns c app builds =
    let one = c.in_ok-line.ensures app (verb_shape Disconnect) builds c.verb_command.ensures in
    let two = c.in_ok-line-2.ensures _ (verb_shape Trim) one c.verb_command-2.ensures in
    let three = c.in_ok-line-3.ensures _ (verb_shape Restart) two c.verb_command-3.ensures in
    c.with_command-4.ensures _ (verb_shape RollbackMarked) three c.verb_command-4.ensures
