-- A file that nobody writes to tells its generation.
use Rattle.std.proofs.Common.{ℕ, List, [], ◌∷◌, sym, ◌∙◌, ap, refl}
use Rattle.xa_log.specs.Believed.Chain.{logged}
use Rattle.xa_log.specs.Believed.Generation.{generation}
use Rattle.xa_log.proofs.Records.{logged_text}
use Rattle.xa_copy.specs.Moving.{Tells}
use Rattle.xa_copy.specs.Still.{state_of}

pub still_tells : (file : List ℕ) → Tells (state_of file)
still_tells file format [] some log = absurd (some refl)
still_tells file format (body ∷ bodies) some log =
    let it = logged_text format (body ∷ bodies) log.rest log.sizes in
    sym (ap generation (ap logged log.split ∙ it.1))
