use Rattle.std.proofs.Common.{◌≡◌, false, subst}
use Rattle.xa_manager.specs.Rows.{takes_memory}
use Rattle.xa_manager.specs.declared.row.Row.{Row}
use Rattle.xa_manager.proofs.Plans.{without_none}
use Rattle.xa_manager.proofs.manager.Manager.plan.Goals as goal

pub returns-in-Writes-clause-ok : goal.returns-in-Writes-clause-ok
returns-in-Writes-clause-ok g c = rw c.in-Writes.is c.plan_written.ensures

pub returns-in-Writes-clause-memory : goal.returns-in-Writes-clause-memory
returns-in-Writes-clause-memory g c = λ e. absurd (without_none c.in-Writes.writing (subst (λ (r : Row). takes_memory r ≡ false) c.in-Writes.is e))

pub returns-in-CommitTwoPhase-clause-ok : goal.returns-in-CommitTwoPhase-clause-ok
returns-in-CommitTwoPhase-clause-ok g c = rw c.in-CommitTwoPhase.is c.plan_commit.ensures

pub returns-in-Rollback-clause-ok : goal.returns-in-Rollback-clause-ok
returns-in-Rollback-clause-ok g c = rw c.in-Rollback.is c.plan_rollback.ensures

pub returns-in-Decide-clause-ok : goal.returns-in-Decide-clause-ok
returns-in-Decide-clause-ok g c = rw c.in-Decide.is c.plan_decision.ensures

pub returns-in-Forget-clause-ok : goal.returns-in-Forget-clause-ok
returns-in-Forget-clause-ok g c = rw c.in-Forget.is c.plan_forgetting.ensures
