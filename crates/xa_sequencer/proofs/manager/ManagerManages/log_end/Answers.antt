use Rattle.std.specs.Prelude.{◌≡◌}
use Rattle.xa_model.specs.State.{Up}
use Rattle.xa_sequencer.proofs.Pendings.{either_says}
use Rattle.xa_sequencer.proofs.manager.ManagerManages.log_end.Goals as goal

pub returns : goal.returns
returns g c = λ pending s.
    either_says g.D.Disk c.args.self.now pending s (λ t. t.standing ≡ Up → c.log_end.result ≡ t.end) (c.log_end.ensures.alone s)
    (λ f pends is. c.log_end.ensures.beside f s pends)
