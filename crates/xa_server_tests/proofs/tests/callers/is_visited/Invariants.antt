use Rattle.xa_disk.specs.contracts.memory.MemDiskDisk.TheImpl.{ghosts as mem_disks}
use Rattle.xa_sequencer.specs.Believed.GroupManager.{alone, manages_of}
use Rattle.xa_server_tests.proofs.tests.callers.is_visited.Given as goal

-- every state that the manager stands for
abbrev pub ghosts-visited_by-S-Start : goal.ghosts-visited_by-S-Start
ghosts-visited_by-S-Start g a = record { start = (manages_of mem_disks).stands (alone a.manager); base = (manages_of mem_disks).failures (alone a.manager) }

abbrev pub ghosts-visited_by-B-Book : goal.ghosts-visited_by-B-Book
ghosts-visited_by-B-Book g a = record { table = a.history }
