-- What kinds of tasks there are.
use Rattle.std.specs.Prelude.{Bool, true, false}
use Rattle.xa_operate.specs.declared.task.Task.{Task}
use Rattle.xa_operate.specs.declared.task.Task.TheVariants.{Status, Metrics, AtWork, Branches, Branch, Abandoned, Recover, RollbackMarked, Commit, Rollback, Forget, Trim}

-- a transaction manager's calls are asked in a session that is opened
abbrev pub opens_session : Task → Bool
opens_session Recover = true
opens_session RollbackMarked = true
opens_session (Commit xid) = true
opens_session (Rollback xid) = true
opens_session (Forget xid) = true
opens_session _ = false

-- it can't be taken back
abbrev pub decides : Task → Bool
decides Status = false
decides Metrics = false
decides AtWork = false
decides Branches = false
decides (Branch xid) = false
decides Abandoned = false
decides Recover = false
decides Trim = false
decides _ = true
