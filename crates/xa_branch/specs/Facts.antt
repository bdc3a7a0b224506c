-- The facts of an XID, as the sequential resource manager names them.
use Rattle.xa_model.specs.State.{Known as Fact, Unknown, AtWork, InDoubt, Completed}
use Rattle.xa_branch.specs.declared.known.Known.{Known}
use Rattle.xa_branch.specs.declared.known.Known.TheVariants as known

abbrev pub fact_of : Known → Fact
fact_of known.Unknown = Unknown
fact_of (known.AtWork mark) = AtWork mark
fact_of known.InDoubt = InDoubt
fact_of (known.Completed direction) = Completed direction
