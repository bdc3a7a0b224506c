-- Whether two files may be one log's, or which of them isn't.
use Rattle.std.specs.Prelude.{◌≡◌, ℕ, Bool, true, false, ◌&&◌, ◌||◌, List, [], ◌∷◌, length, nat_lt, if◌then◌else◌, None}
use Rattle.xa_log.specs.declared.format.Format.{Format}
use Rattle.xa_log.specs.Believed.Chain.{logged}
use Rattle.xa_log.specs.Believed.Pair.{generation, has_log, pair_fault}
use Rattle.xa_log.specs.Believed.TwoFiles.{NoStray}
use Rattle.xa_log.specs.Believed.Standing.{Interrupted, standing}
use Rattle.xa_log.specs.declared.standing.Standing.{Standing}
use Rattle.xa_log.specs.declared.standing.Standing.TheVariants.{Nothing, Log, Later, Stray}
use Rattle.xa_log.specs.declared.unfit.Unfit.{Unfit}
use Rattle.xa_log.specs.declared.unfit.Unfit.TheVariants.{Neither, MissingFirst, MissingSecond, StrayFirst, StraySecond}

-- that of the log that a file is, 0 if it is none
abbrev pub generation_in : List ℕ → ℕ
generation_in file = if has_log file then generation (logged file) else 0

-- By what stands in the first file, what in the second, and the first one's generation. A log is made in the first file,
-- and a checkpoint writes to the second one only if the first one is there; the second generation went to the second
-- file, and from then on both are logs.
abbrev pub unfit_by : Standing → Standing → ℕ → Unfit
unfit_by Later _ number = Neither
unfit_by Stray Later number = Neither
unfit_by Stray _ number = StrayFirst
unfit_by _ Later number = Neither
unfit_by _ Stray number = StraySecond
unfit_by Nothing Log number = MissingFirst
unfit_by Log Nothing number = if nat_lt 1 number then MissingSecond else Neither
unfit_by _ _ number = Neither

abbrev pub is_empty : List ℕ → Bool
is_empty [] = true
is_empty (byte ∷ file) = false

-- By lengths alone, for whoever has read the log: one file is empty in which the other one's log was made, or went on.
abbrev pub missing_of : List ℕ → List ℕ → Unfit
missing_of first second =
    if is_empty first && has_log second then MissingFirst
    else (if is_empty second && nat_lt 1 (generation_in first) then MissingSecond else Neither)

-- An opening itself refuses what is too long, or of a later format.
abbrev pub unfit_of : ℕ → List ℕ → List ℕ → Unfit
unfit_of most first second =
    if nat_lt most (length first) || nat_lt most (length second) then Neither
    else unfit_by (standing first) (standing second) (generation_in first)

-- Of two files that fit, and that an opening doesn't refuse, none is missing.
abbrev pub MissingLaw : Type 0
MissingLaw = (most : ℕ) (first second : List ℕ)
    → unfit_of most first second ≡ Neither → pair_fault most first second ≡ None → missing_of first second ≡ Neither

-- Two files that fit, and that an opening doesn't refuse, meet its premise on a file that is no log.
abbrev pub FitLaw : Type 0
FitLaw = (most : ℕ) (first second : List ℕ)
    → unfit_of most first second ≡ Neither → pair_fault most first second ≡ None → NoStray first second

-- Two files that fit, and that an opening doesn't refuse, still fit when the first write of a checkpoint beside a log was
-- interrupted: to the second file, or to the first one.
pub record StaysFitLaw : Type 0 where
  pub to_second : (most : ℕ) (format : Format) (first second new : List ℕ)
      → unfit_of most first second ≡ Neither → pair_fault most first second ≡ None → has_log first ≡ true
      → Interrupted format second new → unfit_of most first new ≡ Neither
  pub to_first : (most : ℕ) (format : Format) (first second new : List ℕ)
      → unfit_of most first second ≡ Neither → pair_fault most first second ≡ None → has_log second ≡ true
      → Interrupted format first new → unfit_of most new second ≡ Neither
