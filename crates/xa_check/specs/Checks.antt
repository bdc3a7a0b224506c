-- What is printed of two files, by how that ended.
use Rattle.std.specs.Prelude.{ℕ, ◌≡◌, Bool, List, [], Option, Result, Ok, Err}
use Rattle.std.specs.Io.KnownBytes.{Appends}
use Rattle.xa_check.specs.Fit.{is_whole}
use Rattle.xa_check.specs.Lines.{check_text}
use Rattle.xa_check.specs.Told.{told_in}
use Rattle.xa_check.specs.declared.fault.CheckFault.{CheckFault}
use Rattle.xa_check.specs.declared.fault.CheckFault.TheVariants.{Memory, Write, Device}
use Rattle.xa_check.specs.declared.told.Told.{Told}
use Rattle.xa_log.specs.declared.fault.OpenFault.{OpenFault}
use Rattle.xa_log.specs.declared.fault.OpenFault.TheVariants as log
use Rattle.xa_output.specs.Output.{IsFront}

abbrev pub fault_of : OpenFault → CheckFault
fault_of log.Memory = Memory
fault_of _ = Device

-- By the end, what was printed of a text: all; nothing, if it couldn't be made; some first bytes, if not all could be
-- written.
abbrev pub PrintsText : {X : Type 0} → Result X CheckFault → List ℕ → List ℕ → Type 0
PrintsText (Ok x) all text = text ≡ all
PrintsText (Err Memory) all text = text ≡ []
PrintsText (Err Device) all text = text ≡ []
PrintsText (Err Write) all text = IsFront text all

abbrev pub AddsText : {X : Type 0} → Result X CheckFault → List ℕ → Option (List ℕ) → Option (List ℕ) → Type 0
AddsText end all output output' = (text : List ℕ) × Appends output output' text × PrintsText end all text

-- the answer of two files that are told like this
abbrev pub Answers : Result Bool CheckFault → Told → Told → Type 0
Answers (Ok whole) first second = whole ≡ is_whole first second
Answers (Err fault) first second = Unit {0}

-- A check of two files: what is told of them, which is what they are if their disks are honest, is written, and decides
-- the answer.
pub record Checks (honest : Type 0) (end : Result Bool CheckFault) (path : List ℕ) (most : ℕ) (file other : List ℕ)
    (output output' : Option (List ℕ)) : Type 0 where
  pub first : Told
  pub second : Told
  pub told : honest → first ≡ told_in most file
  pub told_second : honest → second ≡ told_in most other
  pub written : AddsText end (check_text path first second) output output'
  pub answer : Answers end first second
