use Rattle.std.proofs.Common.{ap, arith}
use Rattle.xa_log.proofs.log.Log.free.Goals as goal

pub returns : goal.returns
returns g c = omega (arith, ap (λ l. l.log_bytes) c.self.view_is, ap (λ l. l.end) c.self.view_is)
