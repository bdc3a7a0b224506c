use Rattle.std.proofs.Common.{ℕ, ◌∷◌, sym, subst}
use Rattle.mv_chain.specs.Accesses.{read_by}
use Rattle.mv_chain.specs.Chain.{StandsFor}
use Rattle.mv_chain.specs.Pool.{versions_of}
use Rattle.mv_chain.proofs.chain.Chain.mark.Goals as goal

pub returns-then-look-from-clause-stands : goal.returns-then-look-from-clause-stands
returns-then-look-from-clause-stands c = λ key low writes reads k s le source free.
    subst (λ (f : ℕ). StandsFor key low writes (read_by c.args.reader key f ∷ reads) (versions_of c.mark_at.new.pool c.mark_at.new.self)) (sym source)
    (c.mark_at.ensures.stands c.args.reader key low writes reads k (c.look-look.ensures.found k) s le free)
