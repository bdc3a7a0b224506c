use Rattle.mv_rules.proofs.Ties.{one_source, one_lateness}
use Rattle.mv_rules.proofs.laws.one_history.Goals as goal

pub returns-clause-source : goal.returns-clause-source
returns-clause-source c = λ key t limit bs h. one_source key t limit bs h

pub returns-clause-late : goal.returns-clause-late
returns-clause-late c = λ key t reads. one_lateness key t reads
