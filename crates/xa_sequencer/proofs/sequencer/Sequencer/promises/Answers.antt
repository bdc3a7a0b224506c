use Rattle.xa_sequencer.proofs.Adding.{promised}
use Rattle.xa_sequencer.proofs.sequencer.Sequencer.promises.Goals as goal

pub returns-clause-promises : goal.returns-clause-promises
returns-clause-promises g c = promised g.M.Manages.manages g.S.Start.start g.S.Start.base c.args.self.now c.reached_promises.ensures
