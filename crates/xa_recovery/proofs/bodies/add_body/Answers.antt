use Rattle.xa_recovery.proofs.Spelled.{come_to_malformed}
use Rattle.xa_recovery.proofs.bodies.add_body.Goals as goal

pub returns-in-Err-Malformed : goal.returns-in-Err-Malformed
returns-in-Err-Malformed c = λ before at h.
    come_to_malformed c.args.progress before c.args.index c.args.body.now h at c.in-Err-Malformed.field-0 c.in-Err-Malformed.field-0-is c.in-Err-Malformed.ensures.only
