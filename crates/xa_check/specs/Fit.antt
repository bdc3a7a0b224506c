-- What two files are together, by what is told of each.
use Rattle.std.specs.Prelude.{Bool, true, false, not, ◌&&◌, ◌||◌, ◌==◌, nat_lt, if◌then◌else◌, ℕ, is_none}
use Rattle.xa_check.specs.declared.told.LogTold.{LogTold}
use Rattle.xa_check.specs.declared.told.Told.{Told}
use Rattle.xa_check.specs.declared.told.Told.TheVariants.{Log, Nothing, Stray, Later, TooLong}
use Rattle.xa_log.specs.Believed.Unfit.{unfit_by}
use Rattle.xa_log.specs.declared.standing.Standing.{Standing}
use Rattle.xa_log.specs.declared.standing.Standing.TheVariants as standing_as
use Rattle.xa_log.specs.declared.unfit.Unfit.{Unfit}
use Rattle.xa_log.specs.declared.unfit.Unfit.TheVariants as unfit

-- the first file's log beats the second one's: by generation, on a tie by having records, or by coming first
abbrev pub comes_before : LogTold → LogTold → Bool
comes_before mine other =
    nat_lt other.generation mine.generation
    || ((other.generation == mine.generation) && (other.records == 0 || not (mine.records == 0)))

-- the first of two files is the current one
abbrev pub is_first : Told → Told → Bool
is_first (Log mine) (Log other) = comes_before mine other
is_first (Log mine) Nothing = true
is_first (Log mine) Stray = true
is_first _ _ = false

-- the second one is
abbrev pub is_second : Told → Told → Bool
is_second (Log other) (Log mine) = not (comes_before other mine)
is_second Nothing (Log mine) = true
is_second Stray (Log mine) = true
is_second _ _ = false

-- An opening itself refuses what is too long, as it does what is of a later format.
abbrev pub standing_told : Told → Standing
standing_told (Log log) = standing_as.Log
standing_told Nothing = standing_as.Nothing
standing_told Stray = standing_as.Stray
standing_told Later = standing_as.Later
standing_told TooLong = standing_as.Later

abbrev pub generation_told : Told → ℕ
generation_told (Log log) = log.generation
generation_told _ = 0

-- which of two files isn't one of a log's
abbrev pub unfit_told : Told → Told → Unfit
unfit_told first second = unfit_by (standing_told first) (standing_told second) (generation_told first)

abbrev pub is_log : Told → Bool
is_log (Log log) = true
is_log _ = false

-- a log that isn't damaged, or nothing
abbrev pub is_sound : Told → Bool
is_sound (Log log) = is_none log.damage
is_sound Nothing = true
is_sound _ = false

abbrev pub fits : Unfit → Bool
fits unfit.Neither = true
fits _ = false

-- a server opens the log that two files have
abbrev pub is_whole : Told → Told → Bool
is_whole first second =
    (is_log first || is_log second) && (is_sound first && (is_sound second && fits (unfit_told first second)))
