-- Which calls may move the log's end.
use Rattle.std.specs.Prelude.{Bool, true, false}
use Rattle.xa_frame.specs.declared.request.Request.{Request}
use Rattle.xa_frame.specs.declared.request.Request.TheVariants.{Prepare, Commit, Rollback, Forget, Decide, Restart, Trim}

-- those that append a record
abbrev pub appends : Request → Bool
appends (Prepare flags xid) = true
appends (Commit flags xid) = true
appends (Rollback flags xid) = true
appends (Forget flags xid) = true
appends (Decide direction xid) = true
appends _ = false

-- and those that begin the log anew
abbrev pub may_log : Request → Bool
may_log Restart = true
may_log Trim = true
may_log request = appends request
