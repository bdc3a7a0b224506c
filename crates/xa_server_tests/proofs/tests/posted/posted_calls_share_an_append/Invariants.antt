use Rattle.xa_disk.specs.contracts.memory.MemDiskDisk.TheImpl.{ghosts as mem_disks}
use Rattle.xa_sequencer.specs.Believed.GroupManager.{alone, manages_of}
use Rattle.xa_server_tests.proofs.tests.posted.posted_calls_share_an_append.Given as goal

-- every state that the manager stands for
abbrev pub ghosts-shares_both-S-Start : goal.ghosts-shares_both-S-Start
ghosts-shares_both-S-Start g a = record { start = (manages_of mem_disks).stands (alone a.manager); base = (manages_of mem_disks).failures (alone a.manager) }

abbrev pub ghosts-shares_both-B-Book : goal.ghosts-shares_both-B-Book
ghosts-shares_both-B-Book g a = record { table = a.history }
