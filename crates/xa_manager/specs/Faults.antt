-- How faults pass on.
use Rattle.xa_recovery.specs.declared.log_fault.LogFault.{LogFault}
use Rattle.xa_recovery.specs.declared.log_fault.LogFault.TheVariants as rebuilt
use Rattle.xa_manager.specs.declared.fault.ManagerFault.{ManagerFault}
use Rattle.xa_manager.specs.declared.fault.ManagerFault.TheVariants as fault

-- why records gave no manager
abbrev pub fault_of : LogFault → ManagerFault
fault_of rebuilt.Memory = fault.Memory
fault_of (rebuilt.Malformed i) = fault.Malformed i
fault_of (rebuilt.Order i) = fault.Order i
