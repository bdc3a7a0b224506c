use Rattle.mv_rules.proofs.steps.add.Goals as goal

pub returns-in-Ok-clause-ok : goal.returns-in-Ok-clause-ok
returns-in-Ok-clause-ok c = λ ts k look key low writes reads s u late. c.in-Ok.ensures.stands ts key low writes reads k look s u late
