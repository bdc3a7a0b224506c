-- What stands in one of a log's two files, as it is told.
use Rattle.std.specs.Prelude.{◌≡◌, ◌≢◌, ℕ, ◌&&◌, List, length, None, Some}
use Rattle.xa_log.specs.Believed.Chain.{Rests, format_in, logged, text}
use Rattle.xa_log.specs.Believed.Damage.{is_damaged, is_snapshot}
use Rattle.xa_log.specs.Believed.LeftOut.{left_out}
use Rattle.xa_log.specs.Reading.{bodies_of, fault_of}
use Rattle.xa_log.specs.Believed.Standing.{standing}
use Rattle.xa_log.specs.declared.contents.Contents.{Contents}
use Rattle.xa_log.specs.declared.contents.Contents.TheVariants.{Log, Nothing, Stray, Later, TooLong}
use Rattle.xa_log.specs.declared.contents.LogContents.{LogContents}
use Rattle.xa_log.specs.declared.fault.OpenFault.TheVariants as fault
use Rattle.xa_log.specs.declared.standing.Standing.TheVariants as standing_as

-- the bodies that chain after a record which doesn't
abbrev pub left_in : List ℕ → List (List ℕ)
left_in file = left_out (format_in file) (logged file) file

-- the log that a file is
pub record IsLogContents (file : List ℕ) (log : LogContents) : Type 0 where
  pub format : log.format ≡ format_in file
  pub bodies : bodies_of log.bodies.items ≡ logged file
  pub rests : Rests (format_in file) (logged file) file
  pub end : log.end ≡ length (text (format_in file) (logged file))
  pub damaged : log.damaged ≡ is_damaged file
  pub cut : log.cut ≡ (is_damaged file && is_snapshot (logged file))
  pub left : bodies_of log.left.items ≡ left_in file

-- nothing, if that is all that stands in a file that is no log, otherwise a stray
abbrev pub IsNoLog : List ℕ → Contents → Type 0
IsNoLog file (Log log) = ⊥
IsNoLog file Nothing = standing file ≡ standing_as.Nothing
IsNoLog file Stray = standing file ≢ standing_as.Nothing
IsNoLog file Later = ⊥
IsNoLog file TooLong = ⊥

-- what stands in a file, if a log has at most this many bytes
abbrev pub IsContents : ℕ → List ℕ → Contents → Type 0
IsContents most file (Log log) = (fault_of most file ≡ None) × IsLogContents file log
IsContents most file Nothing = (fault_of most file ≡ Some fault.NotALog) × (standing file ≡ standing_as.Nothing)
IsContents most file Stray = (fault_of most file ≡ Some fault.NotALog) × (standing file ≢ standing_as.Nothing)
IsContents most file Later = fault_of most file ≡ Some fault.TooNew
IsContents most file TooLong = fault_of most file ≡ Some fault.TooLong
