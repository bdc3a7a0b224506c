use Rattle.xa_play.proofs.Lawful.{runs_are_lawful}
use Rattle.xa_play.proofs.laws.runs_are_lawful.Goals as goal

pub returns : goal.returns
returns c = runs_are_lawful c.recoverable.ensures.history c.one_copy.ensures.always c.listed_until_asked.ensures.always
