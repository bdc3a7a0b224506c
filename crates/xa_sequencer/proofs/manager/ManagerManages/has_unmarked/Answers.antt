use Rattle.std.specs.Prelude.{◌≡◌}
use Rattle.xa_manager.specs.Unmarked.{has_unmarked}
use Rattle.xa_sequencer.proofs.Pendings.{either_says}
use Rattle.xa_sequencer.proofs.manager.ManagerManages.has_unmarked.Goals as goal

pub returns : goal.returns
returns g c = λ pending s.
    either_says g.D.Disk c.args.self.now pending s (λ t. c.has_unmarked.result ≡ has_unmarked c.args.session t)
    (c.has_unmarked.ensures.alone s) (λ f. c.has_unmarked.ensures.beside f s)
