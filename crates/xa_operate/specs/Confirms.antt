-- A task that can't be taken back is asked of a server only once who is asked has said yes.
use Rattle.std.specs.Io.BufRead.{strip_last}
use Rattle.std.specs.Io.KnownBytes.{Appends, IsAtEnd, Keeps}
use Rattle.std.specs.Prelude.{ℕ, ◌≡◌, ◌⊎◌, Bool, true, false, List, Option, Result, Ok, Err, IsErrOf}
use Rattle.xa_output.specs.Output.{IsFront}
use Rattle.xa_talk.specs.Talks.{ReadsLine, ReadsPart}
use Rattle.xa_talk.specs.declared.fault.TalkFault.TheVariants.{Memory, Read, Write}
use Rattle.xa_operate.specs.Courses.{Operates}
use Rattle.xa_operate.specs.Previews.{is_yes, preview_of, question_text}
use Rattle.xa_operate.specs.declared.fault.OperateFault.{OperateFault}
use Rattle.xa_operate.specs.declared.fault.OperateFault.TheVariants.{Declined, Talk}
use Rattle.xa_operate.specs.declared.format.Format.{Format}
use Rattle.xa_operate.specs.declared.format.Format.TheVariants.{Text}
use Rattle.xa_operate.specs.declared.task.Task.{Task}

-- the next line of the input is read, and says so
pub record Says (yes : Bool) (input input' : Option (List ℕ)) : Type 0 where
  pub line : List ℕ
  pub read : ReadsLine input line input'
  pub said : is_yes (strip_last 10 line) ≡ yes

-- why it isn't known: the question couldn't be written, the answer couldn't be read, or memory ran out
abbrev pub IsUntold : OperateFault → Type 0
IsUntold (Talk Memory) = Unit {0}
IsUntold (Talk Write) = Unit {0}
IsUntold (Talk Read) = Unit {0}
IsUntold _ = ⊥

-- By what became of the question: it was answered by yes, or otherwise, or by the end of the input; or that isn't known.
abbrev pub Told : Task → Result Bool OperateFault → Option (List ℕ) → Option (List ℕ) → Option (List ℕ) → Option (List ℕ)
    → Type 0
Told task (Ok true) input input' errors errors' = Appends errors errors' (question_text task) × Says true input input'
Told task (Ok false) input input' errors errors' =
    Appends errors errors' (question_text task) × (Says false input input' ⊎ (IsAtEnd input × Keeps input input'))
Told task (Err fault) input input' errors errors' =
    IsUntold fault × ((part : List ℕ) × IsFront part (question_text task) × Appends errors errors' part)
    × ReadsPart input input'

-- of a task in a format, over connections, with what was sent over one, and what can still be read from it
module _ {C : Type 0} (format : Format) (task : Task) (sent left : C → Option (List ℕ)) where
  -- what follows: only after a yes the task is asked of the server
  abbrev pub Goes : {X : Type 0} → List ℕ → Result Bool OperateFault → Result X OperateFault → Option (List ℕ)
      → Option (List ℕ) → Type 0
  Goes name (Ok true) end output output' = Operates format task sent left name end output output'
  Goes name (Ok false) end output output' = IsErrOf end Declined × (output' ≡ output)
  Goes name (Err fault) end output output' = IsErrOf end fault × (output' ≡ output)

  -- What it is about couldn't be shown, and that is all; or it was, and the question was asked.
  abbrev pub Confirms : {X : Type 0} → List ℕ → Result X OperateFault → Option (List ℕ) → Option (List ℕ) → Option (List ℕ)
      → Option (List ℕ) → Option (List ℕ) → Option (List ℕ) → Type 0
  Confirms name end input input' errors errors' output output' =
      ((fault : OperateFault) × IsErrOf end fault
      × Operates Text (preview_of task) sent left {X = Unit {0}} name (Err fault) errors errors' × (input' ≡ input)
      × (output' ≡ output))
      ⊎ ((shown : Option (List ℕ)) × (told : Result Bool OperateFault)
      × Operates Text (preview_of task) sent left {X = Unit {0}} name (Ok tt) errors shown
      × Told task told input input' shown errors' × Goes name told end output output')
