-- How a server is doing, as Prometheus reads it: its text format of version 0.0.4.
use Rattle.std.specs.Fmt.{decimal}
use Rattle.std.specs.Prelude.{ℕ, List, [], ◌∷◌, ◌++◌, codes}
use Rattle.xa_frame.specs.declared.status.Status.{Status}

-- a line of three or four words, of which the last may have blanks
abbrev pub worded : List ℕ → List ℕ → List ℕ → List ℕ
worded front name behind = front ++ name ++ 32 ∷ (behind ++ 10 ∷ [])

-- what stands before the samples of a metric: what it is, and of which type
abbrev pub heading : List ℕ → List ℕ → List ℕ → List ℕ
heading name type help = worded (codes "# HELP ") name help ++ worded (codes "# TYPE ") name type

-- a metric: what it is, of which type, and its number
unfoldable pub metric : List ℕ → List ℕ → List ℕ → ℕ → List ℕ
metric name type help n =
    worded (codes "# HELP ") name help ++ worded (codes "# TYPE ") name type ++ worded [] name (decimal n)

abbrev pub gauge : List ℕ → List ℕ → ℕ → List ℕ
gauge name help n = metric name (codes "gauge") help n

-- what may only grow while the server is up, and begins anew with it
abbrev pub counter : List ℕ → List ℕ → ℕ → List ℕ
counter name help n = metric name (codes "counter") help n

abbrev pub log_metrics : Status → List ℕ
log_metrics s =
    gauge (codes "xarm_boots") (codes "Openings, Restarts and Trims of this log so far.") s.boot
    ++ gauge (codes "xarm_log_bytes") (codes "Where the log ends.") s.end
    ++ gauge (codes "xarm_log_limit_bytes") (codes "Where the log would be full.") s.bytes

abbrev pub branch_metrics : Status → List ℕ
branch_metrics s =
    gauge (codes "xarm_branches") (codes "Branches that are working, prepared, or completed by the operator.") s.branches
    ++ gauge (codes "xarm_prepared_branches") (codes "Branches in doubt.") s.prepared
    ++ gauge (codes "xarm_completed_branches") (codes "Branches that the operator completed.") s.completed

abbrev pub server_metrics : Status → List ℕ
server_metrics s =
    gauge (codes "xarm_sessions") (codes "Connections, including the one that asks.") s.sessions
    ++ gauge (codes "xarm_versions") (codes "Versions of all keys.") s.versions
    ++ counter (codes "xarm_calls_total") (codes "Connects, calls and hang-ups since the server started.") s.calls
    ++ gauge (codes "xarm_uptime_seconds") (codes "Seconds since the server started.") s.seconds

abbrev pub metrics_text : Status → List ℕ
metrics_text s = log_metrics s ++ branch_metrics s ++ server_metrics s
