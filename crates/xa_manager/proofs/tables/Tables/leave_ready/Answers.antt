use Rattle.xa_manager.proofs.tables.Tables.leave_ready.Goals as goal

pub returns-in-Prepare-clause-given : goal.returns-in-Prepare-clause-given
returns-in-Prepare-clause-given c = rw c.in-Prepare.is c.give_room_back.ensures.given

pub returns-in-CommitOnePhase-clause-given : goal.returns-in-CommitOnePhase-clause-given
returns-in-CommitOnePhase-clause-given c = rw c.in-CommitOnePhase.is (λ s st. st)
