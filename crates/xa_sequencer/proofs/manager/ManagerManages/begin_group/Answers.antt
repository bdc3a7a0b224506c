use Rattle.xa_sequencer.proofs.Pendings.{begun_so, left_alone}
use Rattle.xa_sequencer.proofs.manager.ManagerManages.begin_group.Goals as goal

pub returns-clause-begun : goal.returns-clause-begun
returns-clause-begun g c =
    let done = c.begin_group.ensures in
    begun_so g.D.Disk c.args.self.now c.begin_group.new.self c.begin_group.result done.ok done.wrote

pub returns-clause-rests : goal.returns-clause-rests
returns-clause-rests g c =
    let done = c.begin_group.ensures in
    left_alone g.D.Disk c.args.self.now c.begin_group.new.self c.begin_group.result done.err done.reserved
