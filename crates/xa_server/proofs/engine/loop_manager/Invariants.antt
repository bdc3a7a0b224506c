use Rattle.xa_sequencer.specs.Believed.GroupManager.{alone}
use Rattle.xa_server.proofs.engine.loop_manager.Given as goal

-- every state that the manager stands for, and what its devices have counted
abbrev pub ghosts-loop_by-S-Start : goal.ghosts-loop_by-S-Start
ghosts-loop_by-S-Start g a = record { start = g.M.Manages.manages.stands (alone a.manager); base = g.M.Manages.manages.failures (alone a.manager) }

-- the table that was opened
abbrev pub ghosts-loop_by-B-Book : goal.ghosts-loop_by-B-Book
ghosts-loop_by-B-Book g a = record { table = a.opened }
