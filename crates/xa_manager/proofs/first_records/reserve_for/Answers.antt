use Rattle.xa_manager.proofs.Reserved.{holds_longest, longest_within}
use Rattle.xa_manager.proofs.Results.{on_ok, in_ok}
use Rattle.xa_manager.proofs.first_records.reserve_for.Goals as goal

pub reserve-requires : goal.reserve-requires
reserve-requires g c = longest_within c.args.bodies.now c.longest.result c.longest.ensures c.requires

pub returns-clause-holds : goal.returns-clause-holds
returns-clause-holds g c = on_ok c.reserve.result _ (λ v is. holds_longest c.reserve.new.self c.args.bodies.now c.longest.result c.longest.ensures (in_ok _ c.reserve.result v is c.reserve.ensures.holds))

pub returns-clause-ok : goal.returns-clause-ok
returns-clause-ok g c = on_ok c.reserve.result _ (λ v is. record { files = c.reserve.ensures.disks; fields = c.reserve.ensures.untouched; keeps = c.reserve.ensures.state })
