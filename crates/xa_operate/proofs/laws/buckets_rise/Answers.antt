use Rattle.xa_operate.proofs.Counting.{rises}
use Rattle.xa_operate.proofs.laws.buckets_rise.Goals as goal

pub returns : goal.returns
returns c = rises
