use Rattle.xa_disk.specs.contracts.memory.MemDiskDisk.TheImpl.{ghosts as mem_disks}
use Rattle.xa_sequencer.specs.Believed.GroupManager.{alone, manages_of}
use Rattle.xa_server_tests.proofs.tests.rooms.a_room_keeps_a_group.Given as goal

-- every state that the manager stands for
abbrev pub ghosts-keeps_a_group : goal.ghosts-keeps_a_group
ghosts-keeps_a_group g a = record { start = (manages_of mem_disks).stands (alone a.manager); base = (manages_of mem_disks).failures (alone a.manager) }
