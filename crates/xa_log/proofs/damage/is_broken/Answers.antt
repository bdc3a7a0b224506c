use Rattle.xa_log.specs.Reading.{bodies_of}
use Rattle.xa_log.proofs.Snapshot.{one_whole}
use Rattle.xa_log.proofs.damage.is_broken.Goals as goal

pub returns-in-One : goal.returns-in-One
returns-in-One c = λ file behind. one_whole c.args.format (bodies_of c.args.bodies.now) file c.in-One.is
