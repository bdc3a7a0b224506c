use Rattle.xa_sequencer.proofs.Adding.{twice}
use Rattle.xa_sequencer.proofs.laws.goes_on_twice.Goals as goal

pub returns : goal.returns
returns g c = twice g.M.Manages.manages g.S.Start.start g.S.Start.base
