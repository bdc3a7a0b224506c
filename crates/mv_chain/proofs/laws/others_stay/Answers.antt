use Rattle.mv_chain.proofs.Frames.{other_stays}
use Rattle.mv_chain.proofs.laws.others_stay.Goals as goal

pub returns : goal.returns
returns c = other_stays
