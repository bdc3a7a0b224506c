-- What a manager's fault is to a script that is played, and how a play ends.
use Rattle.std.specs.Prelude.{Result, Ok, Err}
use Rattle.xa_manager.specs.declared.fault.ManagerFault.{ManagerFault}
use Rattle.xa_manager.specs.declared.fault.ManagerFault.TheVariants as manager
use Rattle.xa_play.specs.declared.fault.PlayFault.{PlayFault}
use Rattle.xa_play.specs.declared.fault.PlayFault.TheVariants.{Memory, Setting, Write, Manager}

abbrev pub fault_of : ManagerFault → PlayFault
fault_of manager.Memory = Memory
fault_of manager.Setting = Setting
fault_of fault = Manager fault

-- A play whose lines failed ends so, whatever the flush after them was answered. Else the flush decides.
abbrev pub end_of : {X E : Type 0} → Result X PlayFault → Result X E → Result X PlayFault
end_of (Err fault) flushed = Err fault
end_of (Ok x) (Ok y) = Ok x
end_of (Ok x) (Err error) = Err Write
