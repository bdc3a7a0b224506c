-- What is told of one of a log's two files.
use Rattle.std.specs.Prelude.{ℕ, ◌+◌, Bool, true, false, List, length, Option, Some, None}
use Rattle.xa_check.specs.Prepared.{prepared_in}
use Rattle.xa_check.specs.declared.told.Break.{Break}
use Rattle.xa_check.specs.declared.told.LogTold.{LogTold}
use Rattle.xa_check.specs.declared.told.Told.{Told}
use Rattle.xa_check.specs.declared.told.Told.TheVariants as told
use Rattle.xa_log.specs.Believed.Chain.{format_in, logged, text}
use Rattle.xa_log.specs.Contents.{left_in}
use Rattle.xa_log.specs.Believed.Damage.{is_damaged}
use Rattle.xa_log.specs.Believed.Generation.{generation}
use Rattle.xa_log.specs.Reading.{bodies_of, fault_of}
use Rattle.xa_log.specs.Believed.Standing.{standing}
use Rattle.xa_log.specs.declared.contents.Contents.{Contents}
use Rattle.xa_log.specs.declared.contents.Contents.TheVariants.{Log, Nothing, Stray, Later, TooLong}
use Rattle.xa_log.specs.declared.fault.OpenFault.{OpenFault}
use Rattle.xa_log.specs.declared.fault.OpenFault.TheVariants as fault
use Rattle.xa_log.specs.declared.format.Format.{Format}
use Rattle.xa_log.specs.declared.standing.Standing.{Standing}
use Rattle.xa_log.specs.declared.standing.Standing.TheVariants as standing_as

-- the record at which a damaged log breaks off, and what these bodies after it are
abbrev pub break_of : Bool → ℕ → ℕ → List (List ℕ) → Option Break
break_of false number at left = None
break_of true number at left =
    Some (record { number = number; at = at; behind = length left; prepared = prepared_in left })

-- a log of these bodies, which ends there, is damaged there or isn't, and has these after it
abbrev pub log_told : Format → List (List ℕ) → ℕ → Bool → List (List ℕ) → LogTold
log_told format bodies end damaged left = record {
  format = format;
  generation = generation bodies;
  records = length bodies;
  end = end;
  damage = break_of damaged (length bodies + 1) end left;
}

abbrev pub told_of : Contents → Told
told_of (Log log) =
    told.Log (log_told log.format (bodies_of log.bodies.items) log.end log.damaged (bodies_of log.left.items))
told_of Nothing = told.Nothing
told_of Stray = told.Stray
told_of Later = told.Later
told_of TooLong = told.TooLong

-- the same by the file: what is no log
abbrev pub no_log_told : Standing → Told
no_log_told standing_as.Nothing = told.Nothing
no_log_told _ = told.Stray

abbrev pub fault_told : List ℕ → Option OpenFault → Told
fault_told file None =
    told.Log (log_told (format_in file) (logged file) (length (text (format_in file) (logged file))) (is_damaged file)
    (left_in file))
fault_told file (Some fault.TooLong) = told.TooLong
fault_told file (Some fault.TooNew) = told.Later
fault_told file (Some _) = no_log_told (standing file)

-- what is told of a file, if a log has at most this many bytes
unfoldable pub told_in : ℕ → List ℕ → Told
told_in most file = fault_told file (fault_of most file)
