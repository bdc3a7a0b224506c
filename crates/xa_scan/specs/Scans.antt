-- What is printed of a log, by how its printing ended.
use Rattle.std.specs.Prelude.{ℕ, ◌+◌, ◌≡◌, ◌⊎◌, true, false, List, [], ◌++◌, length, Option, None, Result, Ok, Err}
use Rattle.std.specs.Io.KnownBytes.{Appends}
use Rattle.xa_disk.specs.Counts.{plus}
use Rattle.xa_disk.specs.declared.disk.Disk.{Ghosts}
use Rattle.xa_output.specs.Output.{IsFront, IsPart}
use Rattle.xa_log.specs.Believed.Chain.{logged}
use Rattle.xa_log.specs.Believed.Damage.{is_damaged}
use Rattle.xa_log.specs.Reading.{Explains, fault_of}
use Rattle.xa_limits.specs.declared.TheConstants.{FIRST_OFFSET, MOST_LOG}
use Rattle.xa_scan.specs.declared.fault.ScanFault.{ScanFault}
use Rattle.xa_scan.specs.declared.fault.ScanFault.TheVariants.{Memory, Write, Log, Damaged}
use Rattle.xa_scan.specs.declared.format.Format.{Format}
use Rattle.xa_scan.specs.Lines.{behind, lines_from, scan_text}

-- the lines of some first records
abbrev pub AreLines : Format → List (List ℕ) → List ℕ → Type 0
AreLines format bodies text =
    (printed : List (List ℕ)) × (others : List (List ℕ))
    × (bodies ≡ printed ++ others) × (text ≡ lines_from format FIRST_OFFSET printed)

-- By the end, what was printed of a log that has these bodies: all; the lines of some records, where memory ran out;
-- some first bytes, where they couldn't be written.
abbrev pub PrintsLines : {X : Type 0} → Format → Result X ScanFault → List (List ℕ) → List ℕ → Type 0
PrintsLines format (Ok x) bodies text = text ≡ scan_text format bodies
PrintsLines format (Err Memory) bodies text = AreLines format bodies text
PrintsLines format (Err Write) bodies text = IsFront text (scan_text format bodies)
PrintsLines format (Err (Log fault)) bodies text = ⊥
PrintsLines format (Err (Damaged number at)) bodies text = ⊥

-- the same, or nothing, where there is no log; all, where it is damaged after them
abbrev pub Prints : {X : Type 0} → Format → Result X ScanFault → List (List ℕ) → List ℕ → Type 0
Prints format (Err (Log fault)) bodies text = text ≡ []
Prints format (Err (Damaged number at)) bodies text = text ≡ scan_text format bodies
Prints format end bodies text = PrintsLines format end bodies text

-- By the end, what was printed of one line: all; nothing, where memory ran out; a part, where it couldn't be written.
abbrev pub PrintsLine : {X : Type 0} → Result X ScanFault → List ℕ → List ℕ → Type 0
PrintsLine (Ok x) line text = text ≡ line
PrintsLine (Err Memory) line text = text ≡ []
PrintsLine (Err Write) line text = IsPart text line
PrintsLine (Err (Log fault)) line text = ⊥
PrintsLine (Err (Damaged number at)) line text = ⊥

-- what was added to an output is what was printed of the lines of a log, or of one line
abbrev pub AddsLines : {X : Type 0} → Format → Result X ScanFault → List (List ℕ) → Option (List ℕ) → Option (List ℕ) → Type 0
AddsLines format end bodies output output' =
    (text : List ℕ) × Appends output output' text × PrintsLines format end bodies text

abbrev pub AddsLine : {X : Type 0} → Result X ScanFault → List ℕ → Option (List ℕ) → Option (List ℕ) → Type 0
AddsLine end line output output' = (text : List ℕ) × Appends output output' text × PrintsLine end line text

-- the file is a log of these bodies
abbrev pub IsLogOf : List (List ℕ) → List ℕ → Type 0
IsLogOf bodies file = (fault_of MOST_LOG file ≡ None) × (logged file ≡ bodies)

-- By the end, what the file is: a log that isn't damaged, where its lines were printed; one that is, after its last
-- record, where that is told; a log, where they couldn't be written; none, for the reason that is told.
abbrev pub IsFound : {X : Type 0} → Result X ScanFault → List ℕ → List (List ℕ) → Type 0
IsFound (Ok x) file bodies = IsLogOf bodies file × (is_damaged file ≡ false)
IsFound (Err Memory) file bodies = (bodies ≡ []) ⊎ IsLogOf bodies file
IsFound (Err Write) file bodies = IsLogOf bodies file
IsFound (Err (Log fault)) file bodies = Explains fault (fault_of MOST_LOG file)
IsFound (Err (Damaged number at)) file bodies =
    IsLogOf bodies file × (is_damaged file ≡ true)
    × (number ≡ length bodies + 1) × (at ≡ behind FIRST_OFFSET bodies)

-- A printing: the bodies that were read, which are the file's where the disk is honest, and the text that was written.
pub record Scans {X : Type 0} (format : Format) (honest : Type 0) (end : Result X ScanFault) (file : List ℕ)
    (output output' : Option (List ℕ)) : Type 0 where
  pub bodies : List (List ℕ)
  pub text : List ℕ
  pub found : honest → IsFound end file bodies
  pub written : Appends output output' text
  pub printed : Prints format end bodies text

-- A disk was looked at: what a read gives of it stays, nothing was written, and it was synced once at most.
pub record OnlyLooks {D : Type 0} (disks : Ghosts D) (old new : D) : Type 0 where
  pub same : disks.honest → disks.seen new ≡ disks.seen old
  pub writes : (disks.counts new).writes ≡ (disks.counts old).writes
  pub syncs : ((disks.counts new).syncs ≡ (disks.counts old).syncs)
      ⊎ ((disks.counts new).syncs ≡ plus (disks.counts old).syncs 1)
