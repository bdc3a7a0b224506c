use Rattle.xa_copy.proofs.Stills.{still_tells}
use Rattle.xa_copy.proofs.still.StillSourceSource.read_at.Goals as goal

pub returns-clause-tells : goal.returns-clause-tells
returns-clause-tells c h = still_tells c.args.self.now.bytes.items
