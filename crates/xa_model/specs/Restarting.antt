-- Restarts and openings: what the records whose fates were unknown come to, and the new boot.
use Rattle.std.specs.Prelude.{ℕ, zero, suc, ◌+◌, nat_lt, Bool, not, Option, Some, None, List, [], ◌∷◌, ◌++◌, map}
use Rattle.std.specs.Prelude.{filter, length, option_map, ◌&&◌, if◌then◌else◌}
use Rattle.xa_codes.specs.declared.codes.TheConstants.{XAER_RMFAIL}
use Rattle.xa_codes.specs.declared.detail.Detail.TheVariants as detail
use Rattle.xa_codes.specs.declared.write.Write.{Write}
use Rattle.xa_record.specs.declared.record.Record.{Record}
use Rattle.xa_record.specs.declared.record.Record.TheVariants as logged
use Rattle.xa_limits.specs.declared.TheConstants.{FIRST_OFFSET, MOST_BOOTS}
use Rattle.xa_model.specs.declared.outcome.Appending.{Appending}
use Rattle.xa_model.specs.declared.outcome.Appending.TheVariants.{Kept, Refused, Lost}
use Rattle.xa_model.specs.State.{State, Session, Branch, Operation, Wrote, Prepared, Committed, Up, Ended, is_working}
use Rattle.xa_model.specs.Answer.{Answer, detailed, answer, ok}
use Rattle.xa_model.specs.Durable.{Durable, CommittedBranch, PreparedBranch, durable, insert}
use Rattle.xa_model.specs.Fold.{snapshot, sizes}
use Rattle.xa_model.specs.Turn.{Turn, Rereads, Rereading, Stops, Opens}
use Rattle.xa_model.specs.Logging.{applied, snapshot_end, log_room, prepared_count, append_became, down}

-- What a crash may leave of a state: of the records whose append was lost none stands in the log, or the first, or the
-- first two, and so on to all of them

abbrev pub fates_with : State → List Record → List Durable
fates_with s [] = durable s ∷ []
fates_with s (r ∷ rs) = durable s ∷ fates_with (applied r s) rs

abbrev pub fates : State → List Durable
fates s = fates_with s s.open_records

-- the state with the first k of these, if there are that many
abbrev pub with_first : ℕ → List Record → State → Option State
with_first zero rs s = Some s
with_first (suc k) [] s = None
with_first (suc k) (r ∷ rs) s = with_first k rs (applied r s)

-- the log was read, and the first k stand there
abbrev pub looked : State → State
looked s = record s { open_records = [] }

abbrev pub survived : State → ℕ → Option State
survived s k = option_map looked (with_first k s.open_records s)

-- The new boot

abbrev pub without_scan : Session → Session
without_scan x = record x { scan = None }

abbrev pub lasts : Branch → Bool
lasts b = not (is_working b.phase)

-- Branches at work, associations, scans and reads are gone. Sessions stay connected, opened as they were, and with
-- their time limits. The moment stays.
abbrev pub restarted : State → ℕ → State
restarted s boot = record s {
  boot = boot;
  given = 0;
  logged_boot = boot;
  sessions = map without_scan s.sessions;
  associations = [];
  branches = filter lasts s.branches;
  reads = [];
  standing = Up;
  end = snapshot_end s boot;
}

-- Restart: whatever it meets after the look at the log leaves what was settled there

abbrev pub boot_became : State → ℕ → Appending → Answer
boot_became s boot Kept = ok (restarted s boot)
boot_became s boot other = append_became s (logged.Opened boot) XAER_RMFAIL (down s) other

abbrev pub restarting : State → Rereading
restarting s =
    if nat_lt s.logged_boot MOST_BOOTS
    then Opens (logged.Opened (s.logged_boot + 1)) (boot_became s (s.logged_boot + 1))
    else Stops (answer (detailed XAER_RMFAIL detail.Limit) (down s))

abbrev pub restart_turn : State → Turn
restart_turn s =
    Rereads (answer (detailed XAER_RMFAIL detail.Device) (down s)) (λ k. option_map restarting (survived s k))

-- An opening that was refused or stopped leaves the state as it was, with the settings handed in and without sessions,
-- and only an opening may follow it.
abbrev pub refused_opening : State → List ℕ → ℕ → State
refused_opening s name log_bytes =
    record s { name = name; log_bytes = log_bytes; sessions = []; associations = []; standing = Ended }

-- Opened again: as a restart, without sessions, with the settings handed in, and at moment 0. A log that leaves no room
-- for its snapshot isn't opened.

abbrev pub reopened : State → List ℕ → ℕ → ℕ → State
reopened s name log_bytes boot =
    record (restarted s boot) { name = name; log_bytes = log_bytes; sessions = []; moment = 0 }

abbrev pub reopen_became : State → List ℕ → ℕ → ℕ → Appending → Answer
reopen_became s name log_bytes boot Kept = ok (reopened s name log_bytes boot)
reopen_became s name log_bytes boot Refused = ok (refused_opening s name log_bytes)
reopen_became s name log_bytes boot Lost =
    ok (record (refused_opening s name log_bytes) { open_records = logged.Opened boot ∷ [] })

abbrev pub can_open : State → ℕ → ℕ → Bool
can_open s log_bytes boot = log_room log_bytes (snapshot_end s boot) (prepared_count s) (length s.decided)

abbrev pub reopening : List ℕ → ℕ → State → Rereading
reopening name log_bytes s =
    if nat_lt s.logged_boot MOST_BOOTS && can_open s log_bytes (s.logged_boot + 1)
    then Opens (logged.Opened (s.logged_boot + 1)) (reopen_became s name log_bytes (s.logged_boot + 1))
    else Stops (ok (refused_opening s name log_bytes))

abbrev pub reopen_turn : State → List ℕ → ℕ → Turn
reopen_turn s name log_bytes =
    Rereads (ok (refused_opening s name log_bytes)) (λ k. option_map (reopening name log_bytes) (survived s k))

-- The state of a manager that was opened on a log, and asked nothing. Of a branch only its writes are known.

abbrev pub wrote : Write → Operation
wrote w = Wrote w.key w.value

abbrev pub committed_branch : CommittedBranch → Branch
committed_branch b = record { timestamp = b.timestamp; operations = map wrote b.writes; phase = Committed }

abbrev pub prepared_branch : PreparedBranch → Branch
prepared_branch p = record { timestamp = p.timestamp; operations = map wrote p.writes; phase = Prepared p.xid }

abbrev pub later_first : Branch → Branch → Bool
later_first a b = nat_lt b.timestamp a.timestamp

abbrev pub by_time : List Branch → List Branch
by_time [] = []
by_time (b ∷ bs) = insert later_first b (by_time bs)

abbrev pub opening : Durable → List ℕ → ℕ → ℕ → State
opening d name log_bytes boot = record {
  name = name;
  log_bytes = log_bytes;
  boot = boot;
  given = 0;
  logged_boot = boot;
  sessions = [];
  associations = [];
  branches = by_time (map committed_branch d.committed ++ map prepared_branch d.prepared);
  decided = d.decided;
  reads = [];
  standing = Up;
  end = FIRST_OFFSET + sizes (snapshot d boot);
  open_records = [];
  moment = 0;
}
