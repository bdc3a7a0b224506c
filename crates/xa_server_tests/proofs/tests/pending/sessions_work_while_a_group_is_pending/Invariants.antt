use Rattle.xa_disk.specs.contracts.memory.MemDiskDisk.TheImpl.{ghosts as mem_disks}
use Rattle.xa_sequencer.specs.Believed.GroupManager.{alone, manages_of}
use Rattle.xa_server_tests.proofs.tests.pending.sessions_work_while_a_group_is_pending.Given as goal

-- every state that the manager stands for
abbrev pub ghosts-works_meanwhile : goal.ghosts-works_meanwhile
ghosts-works_meanwhile g a = record { start = (manages_of mem_disks).stands (alone a.manager); base = (manages_of mem_disks).failures (alone a.manager) }
