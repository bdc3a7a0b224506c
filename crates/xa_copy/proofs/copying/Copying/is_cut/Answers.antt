use Rattle.std.proofs.Common.{◌∙◌, sym, arith}
use Rattle.xa_copy.proofs.Unbroken.{few_on, more_on, not_back}
use Rattle.xa_copy.proofs.copying.Copying.is_cut.Goals as goal

pub returns-then-have-le-LENGTH_BYTES : goal.returns-then-have-le-LENGTH_BYTES
returns-then-have-le-LENGTH_BYTES c tail count enough read whole two snapshot = few_on tail (omega (arith, count, enough))

pub returns-in-Two : goal.returns-in-Two
returns-in-Two c tail count enough read whole two snapshot =
    more_on c.args.front.now tail c.args.have (omega arith) (omega (arith, count)) read (sym c.may_follow.ensures ∙ not_back c.may_follow.result whole)
