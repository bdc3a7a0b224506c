use Rattle.std.specs.Prelude.{◌≡◌}
use Rattle.xa_sequencer.proofs.Pendings.{either_says}
use Rattle.xa_manager.specs.Status.{status_of, versions_of}
use Rattle.xa_sequencer.proofs.manager.ManagerManages.status.Goals as goal

pub returns : goal.returns
returns g c = λ pending s.
    either_says g.D.Disk c.args.self.now pending s (λ t. c.status.result ≡ status_of t (versions_of c.args.self.now)) (c.status.ensures.alone s) (λ f. c.status.ensures.beside f s)
