-- The rows that log: the turn of each, the record that it appends, and what becomes of the append.
use Rattle.std.specs.Prelude.{ℕ, ℤ, Bool, true, false, Option, Some, None, List, if◌then◌else◌}
use Rattle.xa_codes.specs.Flags.{has}
use Rattle.xa_codes.specs.declared.codes.TheConstants.{XA_OK, XA_RDONLY, XA_RETRY, XAER_RMERR}
use Rattle.xa_codes.specs.declared.direction.Direction.TheVariants as direction
use Rattle.xa_codes.specs.declared.flags.TheConstants.{TMONEPHASE}
use Rattle.xa_codes.specs.declared.write.Write.{Write}
use Rattle.xa_frame.specs.declared.request.Request.{Request}
use Rattle.xa_frame.specs.declared.request.Request.TheVariants as request
use Rattle.xa_xid.specs.Triple.{Triple}
use Rattle.xa_record.specs.declared.record.Record.{Record}
use Rattle.xa_record.specs.declared.record.Record.TheVariants as logged
use Rattle.xa_model.specs.declared.outcome.Appending.{Appending}
use Rattle.xa_model.specs.State.{State}
use Rattle.xa_model.specs.Answer.{Answer}
use Rattle.xa_model.specs.Associations.{timestamp_in}
use Rattle.xa_model.specs.Phases.{rolled_back}
use Rattle.xa_model.specs.Completions.{prepare_turn, commit_one_phase_turn, commit_two_phase_turn, rollback_turn}
use Rattle.xa_model.specs.Completions.{decide_turn, forget_turn}
use Rattle.xa_model.specs.Logging.{append_became, writes_in}
use Rattle.xa_model.specs.Turn.{Turn}
use Rattle.xa_manager.specs.declared.row.Row.{Row}
use Rattle.xa_manager.specs.declared.row.Row.TheVariants.{Writes, CommitTwoPhase, Rollback, Decide, Forget}
use Rattle.xa_manager.specs.declared.row.Writing.{Writing}
use Rattle.xa_manager.specs.declared.row.Writing.TheVariants.{Prepare, CommitOnePhase}

abbrev pub commit_row : ℕ → Row
commit_row flags = if has flags TMONEPHASE then Writes CommitOnePhase else CommitTwoPhase

-- the row of a request that logs, with its XID
abbrev pub asked_row : Request → Option (Row × Triple)
asked_row (request.Prepare flags xid) = Some (Writes Prepare, xid)
asked_row (request.Commit flags xid) = Some (commit_row flags, xid)
asked_row (request.Rollback flags xid) = Some (Rollback, xid)
asked_row (request.Forget flags xid) = Some (Forget, xid)
asked_row (request.Decide direction xid) = Some (Decide direction, xid)
asked_row _ = None

-- the turn of the model's row
abbrev pub row_turn : Row → Triple → State → Turn
row_turn (Writes Prepare) xid s = prepare_turn s xid
row_turn (Writes CommitOnePhase) xid s = commit_one_phase_turn s xid
row_turn CommitTwoPhase xid s = commit_two_phase_turn s xid
row_turn Rollback xid s = rollback_turn s xid
row_turn (Decide direction) xid s = decide_turn s direction xid
row_turn Forget xid s = forget_turn s xid

-- which rows may need memory: those whose record has writes
abbrev pub takes_memory : Row → Bool
takes_memory (Writes writing) = true
takes_memory _ = false

-- The record that a row appends

abbrev pub written_record : Writing → Triple → ℕ → List Write → Record
written_record Prepare xid t ws = logged.Prepared xid t ws
written_record CommitOnePhase xid t ws = logged.Committed xid t ws

abbrev pub record_of : Row → Triple → State → Record
record_of (Writes writing) xid s = written_record writing xid (timestamp_in s xid) (writes_in s xid)
record_of CommitTwoPhase xid s = logged.Completed xid direction.Commit
record_of Rollback xid s = logged.Completed xid direction.Rollback
record_of (Decide direction) xid s = logged.Decided xid direction
record_of Forget xid s = logged.Forgotten xid

-- how many more branches are prepared once it is kept
abbrev pub more_of : Writing → ℕ
more_of Prepare = 1
more_of CommitOnePhase = 0

-- what is answered for a branch that has written nothing, for which nothing is logged
abbrev pub unwritten_code : Writing → ℤ
unwritten_code Prepare = XA_RDONLY
unwritten_code CommitOnePhase = XA_OK

-- What becomes of the append: a record that is refused is answered with this code, and leaves this state

abbrev pub refused_code : Row → ℤ
refused_code CommitTwoPhase = XA_RETRY
refused_code _ = XAER_RMERR

abbrev pub written_left : Writing → Triple → State → State
written_left Prepare xid s = s
written_left CommitOnePhase xid s = rolled_back s xid

abbrev pub left_by : Row → Triple → State → State
left_by (Writes writing) xid s = written_left writing xid s
left_by _ xid s = s

abbrev pub became : Row → Triple → State → Appending → Answer
became row xid s answer = append_became s (record_of row xid s) (refused_code row) (left_by row xid s) answer
