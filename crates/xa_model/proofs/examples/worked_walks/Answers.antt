use Rattle.std.proofs.Common.{[], ◌∷◌, refl}
use Rattle.xa_model.proofs.examples.worked_walks.Goals as goal

pub returns-clause-bounds : goal.returns-clause-bounds
returns-clause-bounds c = (refl, refl, refl, refl, refl, refl, refl)

pub returns-clause-phantom : goal.returns-clause-phantom
returns-clause-phantom c = (refl, refl, refl)

pub returns-clause-below_source : goal.returns-clause-below_source
returns-clause-below_source c = (refl, refl)

pub returns-clause-outside : goal.returns-clause-outside
returns-clause-outside c = (refl, refl)

pub returns-clause-put : goal.returns-clause-put
returns-clause-put c = (refl, refl)

pub returns-clause-finds : goal.returns-clause-finds
returns-clause-finds c = ((λ key within. refl, tt), (tt, tt))

pub returns-clause-misses : goal.returns-clause-misses
returns-clause-misses c = λ h. cc (h.0.0 (0x63 ∷ []) refl)

pub returns-clause-deleted : goal.returns-clause-deleted
returns-clause-deleted c = λ h. cc (h.0.0 (0x63 ∷ []) refl)

pub returns-clause-to_end : goal.returns-clause-to_end
returns-clause-to_end c = refl

pub returns-clause-below : goal.returns-clause-below
returns-clause-below c = refl

pub returns-clause-portions : goal.returns-clause-portions
returns-clause-portions c = (refl, refl, refl, refl)

pub returns-clause-busy : goal.returns-clause-busy
returns-clause-busy c = (refl, refl, refl, refl)
