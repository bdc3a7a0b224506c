use Rattle.xa_manager.proofs.Plans.{answers_committed, answers_prepared}
use Rattle.xa_manager.proofs.TookAnswers.{first_by}
use Rattle.xa_manager.proofs.tables.Tables.take_written.Goals as goal

pub returns-in-Prepare-clause-takes : goal.returns-in-Prepare-clause-takes
returns-in-Prepare-clause-takes c =
    rw c.in-Prepare.is (answers_prepared c.args.self.now c.take_prepared.new.self c.args.xid.now c.args.answer c.take_prepared.ensures.kept c.take_prepared.ensures.left)

pub returns-in-CommitOnePhase-clause-takes : goal.returns-in-CommitOnePhase-clause-takes
returns-in-CommitOnePhase-clause-takes c =
    rw c.in-CommitOnePhase.is
    (answers_committed c.args.self.now c.take_committed.new.self c.args.xid.now c.args.answer c.take_committed.ensures.kept c.take_committed.ensures.refused c.take_committed.ensures.lost)

pub returns-in-Prepare-clause-first : goal.returns-in-Prepare-clause-first
returns-in-Prepare-clause-first c =
    rw c.in-Prepare.is (first_by c.args.self.now c.take_prepared.new.self c.args.xid.now c.args.answer c.take_prepared.ensures.first_kept c.take_prepared.ensures.first_left)
