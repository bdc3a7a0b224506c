-- What contracts see of a manager.
use Rattle.std.specs.Prelude.{ℕ, Bool, Option, List, option_map, option_and_then}
use Rattle.mv_rules.specs.declared.records.Records.{Records}
use Rattle.xa_xid.specs.Triple.{Triple}
use Rattle.xa_model.specs.Early.{Context}
use Rattle.xa_assoc.specs.declared.sessions.Sessions.{Sessions}
use Rattle.xa_assoc.specs.Seats.{active_at, opened_at}
use Rattle.xa_branch.specs.declared.branches.Branches.{Branches}
use Rattle.xa_branch.specs.declared.working.Working.{Working}
use Rattle.xa_branch.specs.Branches.{moment_of, working_at}
use Rattle.xa_manager.specs.declared.tables.Tables.{Tables}

-- its settings, the tables of sessions and of branches, and the versions of all keys
pub record View : Type 0 where
  pub name : List ℕ
  pub log_bytes : ℕ
  pub sessions : Sessions
  pub branches : Branches
  pub records : Records

abbrev pub view_of : Tables → View
view_of t =
    record { name = t.name; log_bytes = t.log_bytes; sessions = t.sessions; branches = t.branches; records = t.records }

-- what the refusals before a session's row look at, of a manager that is up or isn't
abbrev pub context_at : Bool → View → ℕ → Context
context_at up m n =
    record { up = up; name = m.name; session = opened_at m.sessions n; moment = moment_of m.branches }

-- the branch that a session is at work for
abbrev pub with_working : View → Triple → Option (Triple × Working)
with_working m xid = option_map (λ w. (xid, w)) (working_at m.branches xid)

abbrev pub own_at : View → ℕ → Option (Triple × Working)
own_at m n = option_and_then (with_working m) (active_at m.sessions n)
