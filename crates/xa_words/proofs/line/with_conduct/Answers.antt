use Rattle.xa_words.proofs.line.with_conduct.Goals as goal

pub returns : goal.returns
returns c app builds =
    let one = c.in_ok-command.ensures app builds in
    let two = c.in_ok-command-2.ensures _ one in
    c.with_upkeep.ensures _ two
