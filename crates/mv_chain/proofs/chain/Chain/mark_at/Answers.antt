use Rattle.mv_chain.specs.Pool.{versions_of}
use Rattle.mv_chain.proofs.Looked.{look_stands}
use Rattle.mv_chain.proofs.chain.Chain.mark_at.Goals as goal

pub returns-clause-stands : goal.returns-clause-stands
returns-clause-stands c = λ ts key low writes reads k e.
    rw ((rw c.deref.ensures at c.mark_in.ensures.versions) ts k e) (look_stands ts (versions_of c.args.pool.now c.args.self.now) k.chain key low writes reads)
