use Rattle.std.specs.Prelude.{◌≡◌}
use Rattle.std.specs.List.{list_any}
use Rattle.xa_model.specs.Associations.{is_of_session}
use Rattle.xa_sequencer.proofs.Pendings.{either_says}
use Rattle.xa_sequencer.proofs.manager.ManagerManages.has_association.Goals as goal

pub returns : goal.returns
returns g c = λ pending s.
    either_says g.D.Disk c.args.self.now pending s (λ t. c.has_association.result ≡ list_any (is_of_session c.args.session) t.associations)
    (c.has_association.ensures.alone s) (λ f. c.has_association.ensures.beside f s)
