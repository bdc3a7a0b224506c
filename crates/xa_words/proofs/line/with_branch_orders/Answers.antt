use Rattle.xa_words.specs.Line.{verb_shape}
use Rattle.xa_words.specs.declared.verb.Verb.TheVariants.{Commit, Rollback, Forget, Decide, Doom}
use Rattle.xa_words.proofs.line.with_branch_orders.Goals as goal

pub returns : goal.returns
returns c app builds =
    let one = c.in_ok-line.ensures app (verb_shape Commit) builds c.verb_command.ensures in
    let two = c.in_ok-line-2.ensures _ (verb_shape Rollback) one c.verb_command-2.ensures in
    let three = c.in_ok-line-3.ensures _ (verb_shape Forget) two c.verb_command-3.ensures in
    let four = c.in_ok-line-4.ensures _ (verb_shape Decide) three c.verb_command-4.ensures in
    c.with_command-5.ensures _ (verb_shape Doom) four c.verb_command-5.ensures
