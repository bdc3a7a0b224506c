use Rattle.mv_chain.specs.Pool.{versions_of}
use Rattle.mv_chain.proofs.Anywhere.{installed_stands}
use Rattle.mv_chain.proofs.Frames.{then_ok}
use Rattle.mv_chain.proofs.chain.Chain.install_at.Goals as goal

pub returns-clause-stands : goal.returns-clause-stands
returns-clause-stands c =
    then_ok c.install_in.result c.install_in.ensures.versions
    (λ v ts key low writes reads k e. rw (v ts k e) (installed_stands ts _ (versions_of c.args.pool.now c.args.self.now) k.chain key low writes reads))
