-- What a reading answers.
use Rattle.std.specs.Prelude.{◌≡◌, ◌⊎◌, Bool, true, false, Option, Some, None, Result, Ok, Err, IsOk}
use Rattle.xa_frame.specs.declared.fault.FrameFault.{FrameFault}
use Rattle.xa_frame.specs.declared.fault.FrameFault.TheVariants.{Memory}
use Rattle.xa_frame.specs.declared.request.Request.{Request}
use Rattle.xa_frame.specs.declared.request.Request.TheVariants.{Open, Put}

-- what a function returned is what the definition reads, unless memory ran out for a value that is there
abbrev pub Answers : {A : Type 0} → Result A FrameFault → Result A FrameFault → Type 0
Answers (Ok x) read = read ≡ Ok x
Answers (Err e) read = (read ≡ Err e) ⊎ ((e ≡ Memory) × IsOk read)

-- this value, or lack of memory
abbrev pub IsOrWants : {A : Type 0} → Result A FrameFault → A → Type 0
IsOrWants (Ok x) y = x ≡ y
IsOrWants (Err e) y = e ≡ Memory

-- a fault is the one of the rule, or lack of memory if the rule has none
abbrev pub IsFault : Option FrameFault → FrameFault → Type 0
IsFault fault e = (fault ≡ Some e) ⊎ ((e ≡ Memory) × (fault ≡ None))

-- an info or a value, which takes memory
abbrev pub brings_bytes : Request → Bool
brings_bytes (Open flags info) = true
brings_bytes (Put key value) = true
brings_bytes _ = false
