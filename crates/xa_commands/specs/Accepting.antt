-- As which fault a damaged log that isn't made ready is told.
use Rattle.xa_commands.specs.declared.accepting_fault.AcceptingFault.{AcceptingFault}
use Rattle.xa_commands.specs.declared.accepting_fault.AcceptingFault.TheVariants as accepting
use Rattle.xa_log.specs.declared.fault.OpenFault.{OpenFault}
use Rattle.xa_log.specs.declared.fault.OpenFault.TheVariants.{Memory}

abbrev pub open_fault : OpenFault → AcceptingFault
open_fault Memory = accepting.Memory
open_fault fault = accepting.Log fault
