-- What the reading of a record returns.
use Rattle.std.specs.Prelude.{◌≡◌, Option, Some, None, Result, Ok, Err, IsSome}
use Rattle.xa_record.specs.declared.fault.RecordFault.{RecordFault}
use Rattle.xa_record.specs.declared.fault.RecordFault.TheVariants.{Malformed, Memory}

-- the value that is read; Malformed exactly if none is, and lack of memory only if one is
abbrev pub Answers : {A : Type 0} → Result A RecordFault → Option A → Type 0
Answers (Ok x) read = read ≡ Some x
Answers (Err Malformed) read = read ≡ None
Answers (Err Memory) read = IsSome read

-- this value, or lack of memory
abbrev pub Gives : {A : Type 0} → Result A RecordFault → A → Type 0
Gives (Ok x) y = x ≡ y
Gives (Err e) y = e ≡ Memory
