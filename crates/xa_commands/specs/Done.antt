-- What a command did, with some reader or disk: no clause says that it is the one that the runtime gave.
use Rattle.std.specs.Prelude.{◌≡◌, ◌⊎◌, ◌++◌, ℕ, Bool, true, false, List, Option, Result, Ok, Err, IsErrOf, codes}
use Rattle.xa_check.specs.Checks.{Checks}
use Rattle.xa_check.specs.declared.fault.CheckFault.{CheckFault}
use Rattle.xa_check.specs.declared.fault.CheckFault.TheVariants as check
use Rattle.xa_commands.specs.declared.checking_fault.CheckingFault.{CheckingFault}
use Rattle.xa_commands.specs.declared.checking_fault.CheckingFault.TheVariants as checking
use Rattle.xa_commands.specs.declared.scanning_fault.ScanningFault.{ScanningFault}
use Rattle.xa_commands.specs.declared.scanning_fault.ScanningFault.TheVariants.{InUse, File, Scan}
use Rattle.xa_disk.specs.declared.file_fault.FileFault.{FileFault}
use Rattle.xa_disk.specs.declared.file_fault.FileFault.TheVariants as file
use Rattle.xa_operate.specs.Confirms.{Confirms}
use Rattle.xa_operate.specs.Courses.{Operates, Prints}
use Rattle.xa_operate.specs.Scripts.{script_of}
use Rattle.xa_operate.specs.declared.fault.OperateFault.{OperateFault}
use Rattle.xa_operate.specs.declared.fault.OperateFault.TheVariants.{Talk}
use Rattle.xa_operate.specs.declared.format.Format.{Format}
use Rattle.xa_operate.specs.declared.format.Format.TheVariants as format
use Rattle.xa_operate.specs.declared.task.Task.{Task}
use Rattle.xa_play.specs.Plays.{Plays}
use Rattle.xa_play.specs.Runs.{IsLawful}
use Rattle.xa_play.specs.declared.fault.PlayFault.{PlayFault}
use Rattle.xa_scan.specs.Scans.{Scans}
use Rattle.xa_scan.specs.declared.fault.ScanFault.{ScanFault}
use Rattle.xa_scan.specs.declared.fault.ScanFault.TheVariants.{Memory}
use Rattle.xa_scan.specs.declared.format.Format as scan_formats
use Rattle.xa_scan.specs.declared.format.Format.TheVariants as scan
use Rattle.xa_talk.specs.Talks.{Talks}
use Rattle.xa_talk.specs.Ticks.{Ticked}
use Rattle.xa_talk.specs.declared.fault.TalkFault.{TalkFault}
use Rattle.xa_talk.specs.declared.fault.TalkFault.TheVariants as talk
use Rattle.xa_talk.specs.declared.manner.Manner.{Manner}
use Rattle.xa_talk.specs.declared.tick_fault.TickFault.{TickFault}

-- what a reader gave was played, with this end
abbrev pub HasPlayed : {I X : Type 0} → (I → Option (List ℕ)) → List ℕ → ℕ → Result X PlayFault → Type 0
HasPlayed {I} remaining name log_bytes end =
    (reader : I) × (output : Option (List ℕ)) × (output' : Option (List ℕ))
    × Plays IsLawful name log_bytes end (remaining reader) output output'

-- the format of a scan that is asked for by this one
abbrev pub scan_format : Format → scan_formats.Format
scan_format format.Text = scan.Text
scan_format format.Json = scan.Json

-- the disk that was opened at a path was scanned, with this end
abbrev pub HasScanned : {D X : Type 0} → scan_formats.Format → Type 0 → (D → List ℕ) → (D → List ℕ → Type 0) → List ℕ
    → Result X ScanFault → Type 0
HasScanned {D} form honest seen opened path end =
    (disk : D) × opened disk path × ((output : Option (List ℕ)) × (output' : Option (List ℕ))
    × Scans form honest end (seen disk) output output')

-- the same by what is told: it was scanned, or there was no memory, or the file was refused for the reason that is told
abbrev pub Scanned : {D X : Type 0} → scan_formats.Format → Type 0 → (D → List ℕ) → (D → List ℕ → Type 0)
    → (List ℕ → FileFault → Type 0) → List ℕ → Result X ScanningFault → Type 0
Scanned form honest seen opened refused path (Ok x) = HasScanned {X = Unit {0}} form honest seen opened path (Ok tt)
Scanned form honest seen opened refused path (Err (Scan fault)) =
    (fault ≡ Memory) ⊎ HasScanned {X = Unit {0}} form honest seen opened path (Err fault)
Scanned form honest seen opened refused path (Err InUse) = refused path file.InUse
Scanned form honest seen opened refused path (Err (File told fault)) = (told.now ≡ path) × refused path fault

-- what a reader gave was sent over connections, with this end
abbrev pub HasTalked : {I C X : Type 0} → Manner → (I → Option (List ℕ)) → (C → Option (List ℕ)) → (C → Option (List ℕ))
    → Result X TalkFault → Type 0
HasTalked {I} manner remaining sent left end =
    (reader : I) × (reader' : I) × (output : Option (List ℕ)) × (output' : Option (List ℕ))
    × Talks manner sent left end (remaining reader) (remaining reader') output output'

-- moments that a clock of this type gave were told over a connection, with this end
abbrev pub HasTicked : {C X : Type 0} → (T : Type 0) → (C → Option (List ℕ)) → (C → Option (List ℕ)) → Result X TickFault
    → Type 0
HasTicked T sent left end =
    (ticker : T) × (ticker' : T) × Ticked {T = T} (λ _ _ _. Unit {0}) (λ _ _ _. Unit {0}) sent left end ticker ticker'

-- a server was asked a task over a connection, with this end
abbrev pub HasOperated : {C X : Type 0} → Format → Task → (C → Option (List ℕ)) → (C → Option (List ℕ)) → List ℕ
    → Result X OperateFault → Type 0
HasOperated format task sent left name end =
    (output : Option (List ℕ)) × (output' : Option (List ℕ)) × Operates format task sent left name end output output'

-- the same, once a line that a reader gave has said yes
abbrev pub HasConfirmed : {I C X : Type 0} → Format → Task → (I → Option (List ℕ)) → (C → Option (List ℕ))
    → (C → Option (List ℕ)) → List ℕ → Result X OperateFault → Type 0
HasConfirmed {I} format task remaining sent left name end =
    (reader : I) × (reader' : I) × (errors : Option (List ℕ)) × (errors' : Option (List ℕ))
    × (output : Option (List ℕ)) × (output' : Option (List ℕ))
    × Confirms format task sent left name end (remaining reader) (remaining reader') errors errors' output output'

-- the script of a task was printed, or there was no memory
abbrev pub HasShown : {X : Type 0} → List ℕ → Task → Result X OperateFault → Type 0
HasShown name task end =
    IsErrOf end (Talk talk.Memory)
    ⊎ ((output : Option (List ℕ)) × (output' : Option (List ℕ)) × Prints end (script_of name task) output output')

-- the status of a check: 0 if a server opens the two files, 1 if it doesn't, 2 if that couldn't be told
abbrev pub checked_status : {E : Type 0} → Result Bool E → ℕ
checked_status (Ok true) = 0
checked_status (Ok false) = 1
checked_status (Err e) = 2

abbrev pub second_path : List ℕ → List ℕ
second_path path = path ++ codes ".2"

-- the disks that were opened at a path, and at the path with `.2` after it, were checked, with this end
abbrev pub HasChecked : {D : Type 0} → Type 0 → (D → List ℕ) → (D → List ℕ → Type 0) → List ℕ → ℕ
    → Result Bool CheckFault → Type 0
HasChecked {D} honest seen opened path log_bytes end =
    (first : D) × (second : D) × opened first path × opened second (second_path path)
    × ((output : Option (List ℕ)) × (output' : Option (List ℕ))
    × Checks honest end path log_bytes (seen first) (seen second) output output')

-- The same by what is told: they were checked, or there was no memory, or one was refused for the reason that is told.
abbrev pub Checked : {D : Type 0} → Type 0 → (D → List ℕ) → (D → List ℕ → Type 0) → (List ℕ → FileFault → Type 0)
    → List ℕ → ℕ → Result Bool CheckingFault → Type 0
Checked honest seen opened refused path log_bytes (Ok whole) = HasChecked honest seen opened path log_bytes (Ok whole)
Checked honest seen opened refused path log_bytes (Err (checking.Check fault)) =
    (fault ≡ check.Memory) ⊎ HasChecked honest seen opened path log_bytes (Err fault)
Checked honest seen opened refused path log_bytes (Err checking.InUse) =
    refused path file.InUse ⊎ refused (second_path path) file.InUse
Checked honest seen opened refused path log_bytes (Err (checking.File told fault)) =
    (told.now ≡ path) × refused path fault
Checked honest seen opened refused path log_bytes (Err (checking.SecondFile told fault)) =
    (told.now ≡ path) × refused (second_path path) fault
