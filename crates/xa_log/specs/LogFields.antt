-- How a log's fields are what its contracts speak of.
use Rattle.std.specs.Prelude.{◌+◌, ◌≤◌, length}
use Rattle.xa_limits.specs.declared.TheConstants.{AROUND_CLOSED, MOST_BODY}
use Rattle.xa_log.specs.Believed.LogView.{LogView}
use Rattle.xa_log.specs.declared.ahead.TheConstants.{READY_BYTES}
use Rattle.xa_log.specs.declared.log.Log.TheInside.{Inside}
use Rattle.xa_log.specs.declared.window.TheConstants.{WINDOW}

abbrev pub shown : {D : Type 0} → Inside D → LogView D
shown log = record {
  disk = log.disk;
  other = log.other;
  on_first = log.on_first;
  format = log.format;
  log_bytes = log.log_bytes;
  end = log.end;
  digest = log.digest;
  generation = log.generation;
  known = log.known;
  other_known = log.other_known;
  room = length log.buffer.items;
  lost = log.lost;
}

-- The end is within the limit. The buffer has a window at least, and the longest record, with the zeros after it, at most.
pub record IsSized {D : Type 0} (log : Inside D) : Type 0 where
  pub within : log.end ≤ log.log_bytes
  pub room : WINDOW ≤ length log.buffer.items
  pub bounded : length log.buffer.items ≤ AROUND_CLOSED + MOST_BODY + READY_BYTES
