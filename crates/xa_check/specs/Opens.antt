-- What is told of two files, and what an opening makes of them.
use Rattle.std.specs.Prelude.{◌≡◌, ◌⊎◌, ℕ, true, not, List, None, Some}
use Rattle.xa_check.specs.Fit.{is_first, is_second, is_whole}
use Rattle.xa_check.specs.Told.{told_in}
use Rattle.xa_log.specs.Believed.Pair.{on_first, pair_fault}
use Rattle.xa_log.specs.Believed.Unfit.{unfit_of}
use Rattle.xa_log.specs.declared.fault.OpenFault.TheVariants.{Damaged}
use Rattle.xa_log.specs.declared.unfit.Unfit.TheVariants.{Neither}

-- of two files that an opening reads, damaged or not, the one that is told as current has the log
abbrev pub CurrentLaw : Type 0
CurrentLaw = (most : ℕ) (first second : List ℕ)
    → (pair_fault most first second ≡ None) ⊎ (pair_fault most first second ≡ Some Damaged)
    → (is_first (told_in most first) (told_in most second) ≡ on_first first second)
    × (is_second (told_in most first) (told_in most second) ≡ not (on_first first second))

-- two files of which it is told that a server opens them fit, and an opening doesn't refuse them
abbrev pub WholeLaw : Type 0
WholeLaw = (most : ℕ) (first second : List ℕ)
    → is_whole (told_in most first) (told_in most second) ≡ true
    → (unfit_of most first second ≡ Neither) × (pair_fault most first second ≡ None)
