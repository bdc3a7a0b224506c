-- The lines of two files.
use Rattle.std.specs.Prelude.{ℕ, Bool, true, false, ◌==◌, if◌then◌else◌, List, [], ◌∷◌, ◌++◌, codes, Option, Some, None}
use Rattle.std.specs.Fmt.{decimal}
use Rattle.xa_check.specs.Fit.{is_first, is_second, unfit_told}
use Rattle.xa_check.specs.declared.told.Break.{Break}
use Rattle.xa_check.specs.declared.told.LogTold.{LogTold}
use Rattle.xa_check.specs.declared.told.Told.{Told}
use Rattle.xa_check.specs.declared.told.Told.TheVariants.{Log, Nothing, Stray, Later, TooLong}
use Rattle.xa_log.specs.Believed.Chain.{format_number}
use Rattle.xa_log.specs.declared.unfit.Unfit.{Unfit}
use Rattle.xa_log.specs.declared.unfit.Unfit.TheVariants as unfit

-- the path of a file: the first one's, or the second one's beside it
abbrev pub file_text : List ℕ → Bool → List ℕ
file_text path false = path
file_text path true = path ++ codes ".2"

abbrev pub current_text : Bool → List ℕ
current_text true = codes ", current"
current_text false = []

-- how many records chain after the break, and how many branches are prepared in them
unfoldable pub left_text : ℕ → ℕ → List ℕ
left_text behind prepared =
    if behind == 0 then []
    else (codes ", " ++ decimal behind) ++ (codes " records behind it, " ++ decimal prepared)
    ++ codes " branches prepared in them"

-- where a log breaks off, and what comes after
unfoldable pub break_text : Break → List ℕ
break_text damage =
    (codes ", damaged: record " ++ decimal damage.number) ++ (codes " at byte " ++ decimal damage.at)
    ++ left_text damage.behind damage.prepared

abbrev pub damage_text : Option Break → List ℕ
damage_text None = []
damage_text (Some damage) = break_text damage

unfoldable pub head_text : LogTold → List ℕ
head_text log =
    (codes ": format " ++ decimal (format_number log.format)) ++ (codes ", generation " ++ decimal log.generation)

-- how many records it has, and where the next one would begin
unfoldable pub size_text : LogTold → List ℕ
size_text log = (codes ", " ++ decimal log.records) ++ (codes " records, end " ++ decimal log.end)

unfoldable pub log_text : LogTold → Bool → List ℕ
log_text log current = head_text log ++ size_text log ++ current_text current ++ damage_text log.damage

unfoldable pub told_text : Told → Bool → List ℕ
told_text (Log log) current = log_text log current
told_text Nothing current = codes ": nothing"
told_text Stray current = codes ": not a log"
told_text Later current = codes ": log too new"
told_text TooLong current = codes ": log too long"

-- the line of the first file or the second one
unfoldable pub line_of : List ℕ → Bool → Told → Bool → List ℕ
line_of path second told current = file_text path second ++ told_text told current ++ 10 ∷ []

unfoldable pub missing_text : List ℕ → Bool → List ℕ
missing_text path second = codes "log file missing or empty: " ++ file_text path second ++ 10 ∷ []

unfoldable pub stray_text : List ℕ → Bool → List ℕ
stray_text path second = file_text path second ++ codes ": not a log, and not empty" ++ 10 ∷ []

-- the line that tells which of two files isn't a log's, as a server reports it
unfoldable pub unfit_text : List ℕ → Unfit → List ℕ
unfit_text path unfit.Neither = []
unfit_text path unfit.MissingFirst = missing_text path false
unfit_text path unfit.MissingSecond = missing_text path true
unfit_text path unfit.StrayFirst = stray_text path false
unfit_text path unfit.StraySecond = stray_text path true

-- the lines of two files
unfoldable pub check_text : List ℕ → Told → Told → List ℕ
check_text path first second =
    line_of path false first (is_first first second) ++ line_of path true second (is_second first second)
    ++ unfit_text path (unfit_told first second)
