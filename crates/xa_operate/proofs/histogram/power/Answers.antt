use Rattle.std.proofs.Common.{arith}
use Rattle.std.proofs.Math.Pow.{pow-lt}
use Rattle.xa_operate.proofs.histogram.power.Goals as goal

pub pow-requires : goal.pow-requires
pow-requires c = pow-lt {j = 64} (omega (arith, c.requires))
