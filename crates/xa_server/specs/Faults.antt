-- As which fault of a server others are told.
use Rattle.xa_disk.specs.declared.file_fault.FileFault.{FileFault}
use Rattle.xa_disk.specs.declared.file_fault.FileFault.TheVariants as file
use Rattle.xa_manager.specs.declared.fault.ManagerFault.{ManagerFault}
use Rattle.xa_manager.specs.declared.fault.ManagerFault.TheVariants as opening
use Rattle.xa_reactor.specs.declared.loops.LoopFault.{LoopFault}
use Rattle.xa_reactor.specs.declared.loops.LoopFault.TheVariants as loop
use Rattle.xa_server.specs.declared.fault.ServerFault.{ServerFault}
use Rattle.xa_server.specs.declared.fault.ServerFault.TheVariants as serving
use Rattle.xa_server.specs.declared.log_file.LogFile.{LogFile}
use Rattle.xa_server.specs.declared.serve_fault.ServeFault.{ServeFault}
use Rattle.xa_server.specs.declared.serve_fault.ServeFault.TheVariants.{Memory, Write, Start, Wait, Random, InUse, Absent, File, Manager}

-- why a file of the log wasn't opened
abbrev pub file_fault : LogFile → FileFault → ServeFault
file_fault log_file file.Memory = Memory
file_fault log_file file.InUse = InUse
file_fault log_file file.Absent = Absent log_file
file_fault log_file fault = File log_file fault

-- why a manager couldn't be opened
abbrev pub opening_fault : ManagerFault → ServeFault
opening_fault opening.Memory = Memory
opening_fault fault = Manager fault

-- why its sessions weren't served
abbrev pub serving_fault : ServerFault → ServeFault
serving_fault serving.Memory = Memory
serving_fault (serving.Loops n) = Start
serving_fault serving.Wait = Wait
serving_fault serving.Write = Write
serving_fault serving.Random = Random

-- why loops didn't run
abbrev pub loop_fault : LoopFault → ServerFault
loop_fault loop.Memory = serving.Memory
loop_fault loop.Wait = serving.Wait
loop_fault loop.Write = serving.Write
loop_fault loop.Random = serving.Random
