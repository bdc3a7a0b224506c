use Rattle.xa_sequencer.specs.Believed.GroupManager.{alone}
use Rattle.xa_server.proofs.workers.run_workers.Given as goal

-- every state that the manager stands for, and what its devices have counted
abbrev pub ghosts-work_by-S-Start : goal.ghosts-work_by-S-Start
ghosts-work_by-S-Start g a = record { start = g.M.Manages.manages.stands (alone a.manager); base = g.M.Manages.manages.failures (alone a.manager) }

-- the table that was opened
abbrev pub ghosts-work_by-B-Book : goal.ghosts-work_by-B-Book
ghosts-work_by-B-Book g a = record { table = a.opened }
