use Rattle.std.proofs.Common.{subst}
use Rattle.xa_words.specs.Runs.{NamesWell}
use Rattle.xa_words.proofs.Naming.{name_fits}
use Rattle.xa_words.proofs.command.done.Goals as goal

pub tasked-requires : goal.tasked-requires
tasked-requires g c = name_fits c.in-Operate.name.now (subst NamesWell c.in-Operate.is c.requires)

pub confirmed-requires : goal.confirmed-requires
confirmed-requires g c = name_fits c.in-Unconfirmed.name.now (subst NamesWell c.in-Unconfirmed.is c.requires)
