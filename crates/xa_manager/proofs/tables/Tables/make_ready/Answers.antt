use Rattle.xa_manager.proofs.tables.Tables.make_ready.Goals as goal

pub returns-in-Prepare-clause-ok : goal.returns-in-Prepare-clause-ok
returns-in-Prepare-clause-ok c = rw c.in-Prepare.is c.make_room.ensures.ok

pub returns-in-CommitOnePhase-clause-ok : goal.returns-in-CommitOnePhase-clause-ok
returns-in-CommitOnePhase-clause-ok c = rw c.in-CommitOnePhase.is (λ s st. st)
