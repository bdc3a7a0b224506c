use Rattle.std.proofs.Common.{refl}
use Rattle.xa_manager.proofs.Calling.{either_stays_for}
use Rattle.xa_manager.proofs.manager.Manager.give_low_water.Goals as goal

pub returns-clause-stays : goal.returns-clause-stays
returns-clause-stays g c =
    either_stays_for g.D.Disk c.args.self.now (record c.args.self.now { tables = c.give_low_water.new.self }) refl refl refl c.give_low_water.ensures.stays c.give_low_water.ensures.down

pub returns-clause-drained : goal.returns-clause-drained
returns-clause-drained g c = c.give_low_water.ensures.drained
