-- What a fault of a log is to its printing, and how a printing ends.
use Rattle.std.specs.Prelude.{ℕ, ◌+◌, Bool, true, false, Option, Some, None, Result, Ok, Err}
use Rattle.xa_log.specs.declared.fault.OpenFault.{OpenFault}
use Rattle.xa_log.specs.declared.fault.OpenFault.TheVariants as preamble
use Rattle.xa_scan.specs.declared.fault.ScanFault.{ScanFault}
use Rattle.xa_scan.specs.declared.fault.ScanFault.TheVariants.{Memory, Write, Log, Damaged}

abbrev pub fault_of : OpenFault → ScanFault
fault_of preamble.Memory = Memory
fault_of fault = Log fault

-- what is told of a log of this many bodies and this end, by whether it is damaged
abbrev pub damage_behind : Bool → ℕ → ℕ → Option ScanFault
damage_behind true count end = Some (Damaged (count + 1) end)
damage_behind false count end = None

-- A printing whose lines failed ends so, whatever the flush after them was answered, and where the flush failed, so.
-- Else the log's damage is told, if it has one.
abbrev pub ended : {X E : Type 0} → Result X ScanFault → Result X E → Option ScanFault → Result X ScanFault
ended (Err fault) flushed damage = Err fault
ended (Ok x) (Err error) damage = Err Write
ended (Ok x) (Ok y) None = Ok x
ended (Ok x) (Ok y) (Some fault) = Err fault
