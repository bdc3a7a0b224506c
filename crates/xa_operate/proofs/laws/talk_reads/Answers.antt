use Rattle.xa_operate.proofs.Talking.{reads}
use Rattle.xa_operate.proofs.laws.talk_reads.Goals as goal

pub returns : goal.returns
returns c = reads
