use Rattle.std.specs.Prelude.{◌≡◌}
use Rattle.std.specs.List.{list_any}
use Rattle.xa_model.specs.State.{owns}
use Rattle.xa_sequencer.proofs.Pendings.{either_says}
use Rattle.xa_sequencer.proofs.manager.ManagerManages.works_for.Goals as goal

pub returns : goal.returns
returns g c = λ pending s.
    either_says g.D.Disk c.args.self.now pending s
    (λ t. c.works_for.result ≡ list_any (owns c.args.session c.args.xid.now) t.associations)
    (c.works_for.ensures.alone s) (λ f. c.works_for.ensures.beside f s)
