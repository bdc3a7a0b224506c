use Rattle.xa_control.proofs.Spelled.{only_plain}
use Rattle.xa_control.proofs.answer_reader.bare.Goals as goal

pub returns-in-Ok-clause-only : goal.returns-in-Ok-clause-only
returns-in-Ok-clause-only c a h =
    c.plain.ensures.only a
    (only_plain c.args.content.now a c.in-Ok.reply c.requires.long c.requires.plain.0 c.requires.plain.1 c.in-Ok.ensures.found h)
