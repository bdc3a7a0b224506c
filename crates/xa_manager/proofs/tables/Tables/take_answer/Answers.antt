use Rattle.std.proofs.Common.{◌+◌, ap}
use Rattle.xa_codes.specs.declared.codes.TheConstants.{XA_RETRY, XAER_RMERR}
use Rattle.xa_codes.specs.declared.direction.Direction.TheVariants as direction
use Rattle.xa_record.specs.declared.record.Record.TheVariants as logged
use Rattle.xa_model.specs.Phases.{decided_by}
use Rattle.xa_model.specs.Fold.{size_of}
use Rattle.xa_manager.specs.View.{view_of}
use Rattle.xa_manager.proofs.Completing.{takes_small}
use Rattle.xa_manager.proofs.Finishing.{doubtful_known}
use Rattle.xa_manager.proofs.tables.Tables.take_answer.Goals as goal

pub returns-in-Writes-clause-takes : goal.returns-in-Writes-clause-takes
returns-in-Writes-clause-takes c = rw c.in-Writes.is c.take_written.ensures.takes

pub returns-in-CommitTwoPhase-clause-takes : goal.returns-in-CommitTwoPhase-clause-takes
returns-in-CommitTwoPhase-clause-takes c =
    rw c.in-CommitTwoPhase.is (λ s st doubt recoverable.
    let r = logged.Completed c.args.xid.now direction.Commit in
    takes_small (view_of c.args.self.now) (view_of c.take_completed.new.self) s r XA_RETRY c.args.answer st
    (λ e found. c.take_completed.ensures.kept e s (s.end + size_of r) st (doubtful_known s c.args.xid.now doubt) found) (λ e. ap view_of (c.take_completed.ensures.left e)) recoverable)

pub returns-in-Rollback-clause-takes : goal.returns-in-Rollback-clause-takes
returns-in-Rollback-clause-takes c =
    rw c.in-Rollback.is (λ s st doubt recoverable.
    let r = logged.Completed c.args.xid.now direction.Rollback in
    takes_small (view_of c.args.self.now) (view_of c.take_completed-in-Rollback.new.self) s r XAER_RMERR c.args.answer st
    (λ e found. c.take_completed-in-Rollback.ensures.kept e s (s.end + size_of r) st (doubtful_known s c.args.xid.now doubt) found) (λ e. ap view_of (c.take_completed-in-Rollback.ensures.left e)) recoverable)

pub returns-in-Decide-clause-takes : goal.returns-in-Decide-clause-takes
returns-in-Decide-clause-takes c =
    rw c.in-Decide.is (λ s st doubt recoverable.
    let r = logged.Decided c.args.xid.now c.in-Decide.direction in
    takes_small (view_of c.args.self.now) (view_of c.take_decided.new.self) s r XAER_RMERR c.args.answer st
    (λ e found. c.take_decided.ensures.kept e s ((decided_by s c.in-Decide.direction c.args.xid.now).end + size_of r) st doubt found) (λ e. ap view_of (c.take_decided.ensures.left e)) recoverable)

pub returns-in-Forget-clause-takes : goal.returns-in-Forget-clause-takes
returns-in-Forget-clause-takes c =
    rw c.in-Forget.is (λ s st done recoverable.
    let r = logged.Forgotten c.args.xid.now in
    takes_small (view_of c.args.self.now) (view_of c.take_forgotten.new.self) s r XAER_RMERR c.args.answer st
    (λ e found. c.take_forgotten.ensures.kept e s (s.end + size_of r) st done found) (λ e. ap view_of (c.take_forgotten.ensures.left e)) recoverable)
