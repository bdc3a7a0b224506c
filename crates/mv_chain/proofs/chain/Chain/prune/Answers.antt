use Rattle.mv_chain.proofs.Pruned.{stands_pruned}
use Rattle.mv_chain.proofs.chain.Chain.prune.Goals as goal

pub returns-clause-stands : goal.returns-clause-stands
returns-clause-stands c = λ key before writes reads k s whole.
    rw (c.prune_in.ensures.versions k) (stands_pruned key before c.args.low writes reads _ k.chain whole s)
