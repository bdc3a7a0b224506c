use Rattle.mv_chain.proofs.Anywhere.{settled_stands}
use Rattle.mv_chain.proofs.chain.Chain.settle.Goals as goal

pub returns-clause-stands : goal.returns-clause-stands
returns-clause-stands c = λ key low writes reads k.
    rw (c.settle_in.ensures.versions k) (settled_stands c.args.ts c.args.fate _ k.chain key low writes reads)
