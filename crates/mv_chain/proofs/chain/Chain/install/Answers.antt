use Rattle.mv_chain.proofs.Frames.{then_ok}
use Rattle.mv_chain.proofs.chain.Chain.install.Goals as goal

pub returns-clause-stands : goal.returns-clause-stands
returns-clause-stands c =
    then_ok c.install_at.result c.install_at.ensures.stands
    (λ v key low writes reads k. rw c.new.ensures at v c.args.ts key low writes reads k (c.look-look.ensures.found k))
