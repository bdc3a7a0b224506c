-- What is done of a command line.
use Rattle.std.specs.Prelude.{◌≡◌, ◌≢◌, ◌⊎◌, ℕ, Bool, true, false, List, [], Option, None, IsSome, Result, Ok, Err, IsErrOf}
use Rattle.std.specs.declared.io.ErrorKind.{ErrorKind as IoKind}
use Rattle.std.specs.declared.io.ErrorKind.TheVariants as io
use Rattle.std.specs.Process.{exit_status}
use Rattle.clap.specs.Faults.{fault_of}
use Rattle.clap.specs.Kinds.{Kinds, IsAmong}
use Rattle.clap.specs.Simple.{subcommand_of}
use Rattle.clap.specs.Walk.{Text}
use Rattle.clap.specs.declared.error.kind.ErrorKind.{ErrorKind}
use Rattle.clap.specs.declared.error.kind.ErrorKind.TheVariants.{OutOfMemory, DisplayHelp, DisplayVersion}
use Rattle.xa_commands.specs.Done.{Checked, HasConfirmed, HasOperated, HasPlayed, HasShown, HasTalked, HasTicked, Scanned, checked_status}
use Rattle.xa_commands.specs.Done.{scan_format}
use Rattle.xa_commands.specs.Enrolled.{HasAdded}
use Rattle.xa_commands.specs.declared.checking_fault.CheckingFault.{CheckingFault}
use Rattle.xa_commands.specs.declared.scanning_fault.ScanningFault.{ScanningFault}
use Rattle.xa_commands.specs.declared.server.Reach.{Reach}
use Rattle.xa_disk.specs.declared.file_fault.FileFault.{FileFault}
use Rattle.xa_manager.specs.Believed.Opening.{IsBadSetting}
use Rattle.xa_operate.specs.Courses as operate
use Rattle.xa_operate.specs.declared.fault.OperateFault.{OperateFault}
use Rattle.xa_operate.specs.declared.format.Format.{Format}
use Rattle.xa_operate.specs.declared.task.Task.{Task}
use Rattle.xa_script.specs.Requests.{is_name}
use Rattle.xa_script.specs.declared.style.Style.{Style}
use Rattle.xa_play.specs.declared.fault.PlayFault.{PlayFault}
use Rattle.xa_play.specs.declared.fault.PlayFault.TheVariants as play
use Rattle.xa_talk.specs.Shutdowns.{ShutsDown}
use Rattle.xa_talk.specs.declared.manner.Manner.{Manner}
use Rattle.xa_words.specs.Asks.{AsksOf}
use Rattle.xa_words.specs.Line.{xarm}
use Rattle.xa_words.specs.Terminals.{are_both}
use Rattle.xa_words.specs.declared.asked.Asked.{Asked}
use Rattle.xa_words.specs.declared.asked.Asked.TheVariants.{Play, Scan, Check, Copy, AddUser, Serve, Talk, Tick, Shutdown, Operate}
use Rattle.xa_words.specs.declared.asked.Asked.TheVariants.{Script, Unconfirmed, Malformed, Conflict, Nowhere}
use Rattle.xa_words.specs.declared.ran.Ran.{Ran}
use Rattle.xa_words.specs.declared.ran.Ran.TheVariants.{Ended, Serves}
use Rattle.xa_words.specs.declared.terminals.Terminals.{Terminals}

-- the status of an end: 0 if all is done, else 1
abbrev pub status_of : {X E : Type 0} → Result X E → ℕ
status_of (Ok x) = 0
status_of (Err e) = 1

-- The status if words are refused for a reason of this kind: 1 if memory ran out; of help and of the version, which
-- were asked for, 0, or 1 if they couldn't be printed; else 2.
abbrev pub IsRefusal : ErrorKind → ℕ → Type 0
IsRefusal OutOfMemory status = status ≡ 1
IsRefusal DisplayHelp status = (status ≡ 0) ⊎ (status ≡ 1)
IsRefusal DisplayVersion status = (status ≡ 0) ⊎ (status ≡ 1)
IsRefusal kind status = status ≡ 2

-- some end, of which this holds, is told by its status
abbrev pub EndsAs : {E : Type 0} → (Result (Unit {0}) E → Type 0) → ℕ → Type 0
EndsAs {E} holds status = (end : Result (Unit {0}) E) × holds end × (status ≡ status_of end)

-- the same of a task
abbrev pub EndsAsTask : (Result (Unit {0}) OperateFault → Type 0) → ℕ → Type 0
EndsAsTask holds status = (end : Result (Unit {0}) OperateFault) × holds end × (status ≡ operate.status_of end)

-- in which manner a server is talked to: if somebody types, and sees what is asked, each line is asked for
abbrev pub manner_of : Style → Bool → Terminals → Manner
manner_of style strict terminals = record { style = style; is_strict = strict; is_typed = are_both terminals }

-- a resource manager is named as scripts can
abbrev pub NamesWell : Asked → Type 0
NamesWell (Operate reach user seconds format name task) = is_name name.now ≡ true
NamesWell (Unconfirmed reach user seconds format name task about) = is_name name.now ≡ true
NamesWell _ = Unit {0}

-- a script was played under this name, with files of this size
pub record IsPlayed {I X : Type 0} (remaining : I → Option Text) (name : Text) (log_bytes : ℕ) (end : Result X PlayFault)
    : Type 0 where
  pub setting : IsErrOf end play.Setting → IsBadSetting name log_bytes
  pub bad : IsBadSetting name log_bytes → IsErrOf end play.Setting ⊎ IsErrOf end play.Memory
  pub played : IsErrOf end play.Memory ⊎ HasPlayed remaining name log_bytes end

-- by which streams are terminals, and what the runtime's readers, disks, files, connections and clocks are
module _ {I D F C : Type 0} (terminals : Terminals) (T : Type 0) (remaining : I → Option Text) (honest : Type 0) (seen : D → Text)
    (opened : D → Text → Type 0) (refused : Text → FileFault → Type 0) (contents : F → Option Text)
    (sent left : C → Option Text) where
  -- What can't be taken back wasn't confirmed by the words: if nobody types, it is told what would be done; if
  -- somebody does, it is done once he has said yes, if it is known where.
  abbrev pub HasAsked : Option Reach → Format → Text → Task → ℕ → Type 0
  HasAsked reach format name task status =
      ((terminals.input ≡ false) × (status ≡ 2))
      ⊎ (((reach ≡ None) × (status ≡ 2))
      ⊎ ((terminals.input ≡ true) × IsSome reach
      × EndsAsTask (HasConfirmed format task remaining sent left name) status))

  -- The command that was asked for was done, and that end's status is told; a server is handed on, unless it was to open
  -- what stands of a damaged log, and that failed.
  abbrev pub HasDone : Asked → Ran → Type 0
  HasDone (Play name log_bytes) (Ended code) =
      (end : Result (Unit {0}) PlayFault) × IsPlayed remaining name.now log_bytes end × (exit_status code ≡ status_of end)
  HasDone (Scan path format) (Ended code) =
      (end : Result (Unit {0}) ScanningFault) × Scanned (scan_format format) honest seen opened refused path.now end
      × (exit_status code ≡ status_of end)
  HasDone (Check path log_bytes) (Ended code) =
      (end : Result Bool CheckingFault) × Checked honest seen opened refused path.now log_bytes end
      × (exit_status code ≡ checked_status end)
  HasDone (Copy path to log_bytes follows) (Ended code) = (exit_status code ≡ 0) ⊎ (exit_status code ≡ 1)
  HasDone (AddUser path name role secret) (Ended code) =
      ((exit_status code ≡ 0) × HasAdded contents name.now role) ⊎ (exit_status code ≡ 1)
  HasDone (Talk reach user seconds style strict) (Ended code) =
      EndsAs (HasTalked (manner_of style strict terminals) remaining sent left) (exit_status code)
  HasDone (Tick reach user every) (Ended code) =
      EndsAs (HasTicked T sent left) (exit_status code)
  HasDone (Shutdown reach user) (Ended code) =
      EndsAs (ShutsDown sent left) (exit_status code)
  HasDone (Operate reach user seconds format name task) (Ended code) =
      EndsAsTask (HasOperated format task sent left name.now) (exit_status code)
  HasDone (Script name task) (Ended code) =
      EndsAsTask (HasShown name.now task) (exit_status code)
  HasDone (Unconfirmed reach user seconds format name task about) (Ended code) =
      HasAsked reach format name.now task (exit_status code)
  HasDone (Malformed what) (Ended code) = exit_status code ≡ 2
  HasDone Conflict (Ended code) = exit_status code ≡ 2
  HasDone Nowhere (Ended code) = exit_status code ≡ 2
  HasDone (Serve service accepts) (Serves served) = served ≡ service
  HasDone (Serve service accepts) (Ended code) = (accepts ≡ true) × (exit_status code ≡ 1)
  HasDone _ _ = ⊥

  -- The words were refused for one of these reasons, or for want of memory.
  abbrev pub HasRefused : Kinds → Ran → Type 0
  HasRefused kinds (Ended code) =
      (kind : ErrorKind) × ((kind ≡ OutOfMemory) ⊎ IsAmong kind kinds) × IsRefusal kind (exit_status code)
  HasRefused kinds _ = ⊥

  -- what the words ask for was done, or they were refused
  abbrev pub HasRun : List Text → Ran → Type 0
  HasRun words ran =
      ((asked : Asked) × (fault_of xarm words ≡ []) × AsksOf (subcommand_of xarm words) asked × HasDone asked ran)
      ⊎ HasRefused (fault_of xarm words) ran

-- the words couldn't be had: there was no memory, or one is no text
pub record IsUnreadStatus (kind : IoKind) (status : ℕ) : Type 0 where
  pub memory : kind ≡ io.OutOfMemory → status ≡ 1
  pub no_text : kind ≢ io.OutOfMemory → status ≡ 2

abbrev pub IsUnread : IoKind → Ran → Type 0
IsUnread kind (Ended code) = IsUnreadStatus kind (exit_status code)
IsUnread kind _ = ⊥
