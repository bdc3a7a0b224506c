use Rattle.xa_manager.proofs.Beginnings.{all_sizes}
use Rattle.xa_manager.proofs.manager.Manager.make_ready.Goals as goal

pub reserve_next-requires : goal.reserve_next-requires
reserve_next-requires g c = all_sizes c.moment.result c.in_ok-planned.planned.durable.value c.in_ok-planned.planned.next c.in_ok-planned.ensures.1
