-- What a manager has.
use Rattle.std.specs.Prelude.{Bool, Option}
use Rattle.mv_rules.specs.declared.records.Records.{Records}
use Rattle.xa_assoc.specs.declared.sessions.Sessions.{Sessions}
use Rattle.xa_branch.specs.declared.branches.Branches.{Branches}
use Rattle.xa_log.specs.Believed.LogView.{LogView}
use Rattle.xa_model.specs.declared.outcome.Outcome.{Outcome}
use Rattle.xa_manager.specs.declared.doubt.Doubt.{Doubt}
use Rattle.xa_manager.specs.declared.manager.Manager.{Manager}
use Rattle.xa_manager.specs.declared.tables.Tables.{Tables}

-- its log, on the two disks, as contracts see it
abbrev pub log_of : {D : Type 0} → Manager D → LogView D
log_of m = m.log

-- the manager as it would be over this log
abbrev pub with_log : {D : Type 0} → LogView D → Manager D → Manager D
with_log log m = record m { log = log }

-- whether anything is answered but Open, Close, Restart, connects and hang-ups
abbrev pub is_up : {D : Type 0} → Manager D → Bool
is_up m = m.up

-- what the device did in the last event
abbrev pub outcome_of : {D : Type 0} → Manager D → Outcome
outcome_of m = m.outcome

-- the records whose fates are unknown, if there are such
abbrev pub doubt_of : {D : Type 0} → Manager D → Option Doubt
doubt_of m = m.doubt

-- its settings, sessions, branches and records
abbrev pub tables_of : {D : Type 0} → Manager D → Tables
tables_of m = m.tables

abbrev pub sessions_of : {D : Type 0} → Manager D → Sessions
sessions_of m = m.tables.sessions

abbrev pub branches_of : {D : Type 0} → Manager D → Branches
branches_of m = m.tables.branches

-- the versions of all keys
abbrev pub records_of : {D : Type 0} → Manager D → Records
records_of m = m.tables.records
