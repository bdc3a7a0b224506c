-- What the calls that log append, how much room the log keeps, and what becomes of an append.
use Rattle.std.specs.Prelude.{ℕ, ◌+◌, ◌*◌, ℤ, Bool, true, false, not, nat_le, Option, Some, None, List, [], ◌∷◌}
use Rattle.std.specs.Prelude.{◌++◌, length}
use Rattle.xa_codes.specs.declared.codes.TheConstants.{XAER_RMFAIL, XA_RBOTHER}
use Rattle.xa_codes.specs.declared.detail.Detail.TheVariants as detail
use Rattle.xa_codes.specs.declared.write.Write.{Write}
use Rattle.xa_xid.specs.Triple.{Triple}
use Rattle.xa_record.specs.declared.record.Record.{Record}
use Rattle.xa_record.specs.declared.record.Record.TheVariants as logged
use Rattle.xa_limits.specs.declared.TheConstants.{DECIDED_ROOM, FIRST_OFFSET, LENGTH_BYTES, PREPARED_ROOM}
use Rattle.xa_model.specs.declared.outcome.Appending.{Appending}
use Rattle.xa_model.specs.declared.outcome.Appending.TheVariants.{Kept, Refused, Lost}
use Rattle.xa_model.specs.State.{State, Branch, Phase, Working, Prepared, Committed, Up, Down, count, known_of}
use Rattle.xa_model.specs.Answer.{Answer, detailed, answer, ok}
use Rattle.xa_model.specs.Phases.{prepared, committed, completed, decided_by, forgotten, rolled_back}
use Rattle.xa_model.specs.Durable.{durable, writes_of}
use Rattle.xa_model.specs.Fold.{snapshot, size_of, sizes}
use Rattle.xa_model.specs.Turn.{Turn, Appends}

-- Room: what is prepared can always be completed and forgotten, and what the operator completed be forgotten

-- whether a log of this size that ends there keeps the room of this many prepared branches and completed XIDs
abbrev pub log_room : ℕ → ℕ → ℕ → ℕ → Bool
log_room log_bytes end prepared decided =
    nat_le (end + LENGTH_BYTES + PREPARED_ROOM * prepared + DECIDED_ROOM * decided) log_bytes

abbrev pub is_in_doubt : Phase → Bool
is_in_doubt (Working xid work) = false
is_in_doubt (Prepared xid) = true
is_in_doubt Committed = false

abbrev pub prepared_count : State → ℕ
prepared_count s = count (λ b. is_in_doubt b.phase) s.branches

-- whether the record, with this many more prepared branches, leaves that room
abbrev pub has_room : State → Record → ℕ → Bool
has_room s r more = log_room s.log_bytes (s.end + size_of r) (prepared_count s + more) (length s.decided)

-- a branch that would leave too little is rolled back, and gone
abbrev pub log_full : State → Triple → Answer
log_full s xid = answer (detailed XA_RBOTHER detail.LogFull) (rolled_back s xid)

-- What a record does to a state

-- where the log ends that begins with the snapshot of what lasts, after its format's name
abbrev pub snapshot_end : State → ℕ → ℕ
snapshot_end s boot = FIRST_OFFSET + sizes (snapshot (durable s) boot)

-- the record stands at the log's end
abbrev pub appended : Record → State → State
appended r s = record s { end = s.end + size_of r }

-- An opened record stands first in a snapshot. No other record of a snapshot is appended alone.
abbrev pub applied : Record → State → State
applied (logged.Opened boot) s = record s { logged_boot = boot; end = snapshot_end s boot }
applied (logged.Prepared xid t ws) s = appended (logged.Prepared xid t ws) (prepared s xid)
applied (logged.Committed xid t ws) s = appended (logged.Committed xid t ws) (committed s xid)
applied (logged.Completed xid direction) s = appended (logged.Completed xid direction) (completed s direction xid)
applied (logged.Decided xid direction) s = appended (logged.Decided xid direction) (decided_by s direction xid)
applied (logged.Forgotten xid) s = appended (logged.Forgotten xid) (forgotten s xid)
applied _ s = s

-- the records do what they say, one after another
abbrev pub applied_all : List Record → State → State
applied_all [] s = s
applied_all (r ∷ rs) s = applied_all rs (applied r s)

-- What becomes of an append

-- nobody is answered until a restart has settled the record
abbrev pub down : State → State
down s = record s { standing = Down }

abbrev pub lost : State → Record → Answer
lost s r = answer (detailed XAER_RMFAIL detail.Device) (record (down s) { open_records = r ∷ [] })

-- a record that was refused is answered with this code, and leaves this state
abbrev pub append_became : State → Record → ℤ → State → Appending → Answer
append_became s r code left Kept = ok (applied r s)
append_became s r code left Refused = answer (detailed code detail.Device) left
append_became s r code left Lost = lost s r

-- A group that is lost

-- what the state would have come to, had all records whose fates are unknown been kept
abbrev pub supposed : State → State
supposed s = record (applied_all s.open_records s) { standing = Up; open_records = [] }

-- one more record is lost with those before it
abbrev pub lost_too : State → Record → Answer
lost_too s r = answer (detailed XAER_RMFAIL detail.Device) (record s { open_records = s.open_records ++ r ∷ [] })

-- a boot's record is lost alone
abbrev pub is_boot : Record → Bool
is_boot (logged.Opened boot) = true
is_boot _ = false

-- whether the last of a record and of these is no boot's
abbrev pub ends_in_group : Record → List Record → Bool
ends_in_group r [] = not (is_boot r)
ends_in_group r (q ∷ rs) = ends_in_group q rs

-- whether one more may be lost with these
abbrev pub takes_more : List Record → Bool
takes_more [] = false
takes_more (r ∷ rs) = ends_in_group r rs

abbrev pub logs : State → Record → ℤ → State → Turn
logs s r code left = Appends r (append_became s r code left)

-- what the branch with this XID wrote
abbrev pub writes_by : Option Branch → List Write
writes_by (Some b) = writes_of b.operations
writes_by None = []

abbrev pub writes_in : State → Triple → List Write
writes_in s xid = writes_by (known_of s.branches xid)
