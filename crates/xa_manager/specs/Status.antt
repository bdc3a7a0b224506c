-- How a manager is doing.
use Rattle.std.specs.Prelude.{ℕ, length}
use Rattle.mv_rules.specs.Records.{versions_in}
use Rattle.xa_assoc.specs.Seats.{connected_in}
use Rattle.xa_frame.specs.declared.status.Status.{Status}
use Rattle.xa_manager.specs.declared.manager.Manager.{Manager}
use Rattle.xa_manager.specs.Believed.Parts.{records_of}
use Rattle.xa_manager.specs.View.{View}
use Rattle.xa_model.specs.Logging.{prepared_count}
use Rattle.xa_model.specs.State.{State, Standing, Up, Down, Ended, known_in}

-- what is known while the manager is up, otherwise 0
abbrev pub while_up : Standing → ℕ → ℕ
while_up Up n = n
while_up Down n = 0
while_up Ended n = 0

-- By the state that it stands for, and the versions that it keeps. A manager has no history, and no clock.
abbrev pub status_of : State → ℕ → Status
status_of s versions = record {
  boot = while_up s.standing s.boot;
  end = while_up s.standing s.end;
  bytes = s.log_bytes;
  branches = while_up s.standing (known_in s);
  prepared = while_up s.standing (prepared_count s);
  completed = while_up s.standing (length s.decided);
  sessions = length s.sessions;
  versions = versions;
  calls = 0;
  seconds = 0;
}

-- the same with this many calls in its history
abbrev pub status_behind : State → ℕ → ℕ → Status
status_behind s versions calls = record (status_of s versions) { calls = calls }

-- how many versions of all keys it keeps
abbrev pub versions_of : {D : Type 0} → Manager D → ℕ
versions_of m = versions_in (records_of m)

-- what the tables tell of a manager that is down
abbrev pub status_down : View → Status
status_down m = record {
  boot = 0;
  end = 0;
  bytes = m.log_bytes;
  branches = 0;
  prepared = 0;
  completed = 0;
  sessions = connected_in m.sessions;
  versions = versions_in m.records;
  calls = 0;
  seconds = 0;
}
