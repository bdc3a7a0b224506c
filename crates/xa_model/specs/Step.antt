-- One step of the sequential resource manager: its turn, and the outcome of what the device did.
use Rattle.std.specs.Prelude.{ℕ, Bool, true, false, ◌&&◌, Option, Some, None, option_map, if◌then◌else◌}
use Rattle.xa_codes.specs.Flags.{has}
use Rattle.xa_codes.specs.declared.flags.TheConstants.{TMONEPHASE}
use Rattle.xa_frame.specs.declared.request.Request.{Request}
use Rattle.xa_frame.specs.declared.request.Request.TheVariants.{Open, Close, Start, End, Prepare, Commit, Rollback}
use Rattle.xa_frame.specs.declared.request.Request.TheVariants.{Forget, Recover, Get, Put, Delete, Decide, Doom}
use Rattle.xa_frame.specs.declared.request.Request.TheVariants.{Restart, Timeout, Tick, Trim, Branches}
use Rattle.xa_record.specs.declared.record.Record.{Record}
use Rattle.xa_xid.specs.Triple.{Triple}
use Rattle.xa_model.specs.declared.event.Event.{Event}
use Rattle.xa_model.specs.declared.event.Event.TheVariants as event
use Rattle.xa_model.specs.declared.outcome.Outcome.{Outcome}
use Rattle.xa_model.specs.State.{State, Standing, Up, Down, Ended, own_branch, session_of}
use Rattle.xa_model.specs.Answer.{Answer}
use Rattle.xa_model.specs.Turn.{Happening, Asked, Reopened, Turn, Nobody, Now, Appends, Joins, taken, unless_now}
use Rattle.xa_model.specs.Logging.{supposed, lost_too, takes_more}
use Rattle.xa_model.specs.Early.{Context, early_refusal}
use Rattle.xa_model.specs.Associations.{connect_by, open_by, close_by, hang_up_by, start_by, end_by}
use Rattle.xa_model.specs.Phases.{doom_by}
use Rattle.xa_model.specs.Completions.{prepare_turn, commit_one_phase_turn, commit_two_phase_turn, rollback_turn}
use Rattle.xa_model.specs.Completions.{decide_turn, forget_turn}
use Rattle.xa_model.specs.Data.{get_by, put_by}
use Rattle.xa_model.specs.Recovering.{recover_by}
use Rattle.xa_model.specs.Restarting.{restart_turn, reopen_turn}
use Rattle.xa_model.specs.Trimming.{trim_turn}
use Rattle.xa_model.specs.TimeLimits.{timeout_by, tick_by}
use Rattle.xa_model.specs.KnownBranches.{branches_by}

abbrev pub commit_turn : State → ℕ → Triple → Turn
commit_turn s flags xid = if has flags TMONEPHASE then commit_one_phase_turn s xid else commit_two_phase_turn s xid

-- the row of a call
abbrev pub row : State → ℕ → Request → Turn
row s n (Open flags info) = Now (open_by s n)
row s n (Close flags) = Now (close_by s n)
row s n (Start flags xid) = Now (start_by s n flags xid)
row s n (End flags xid) = Now (end_by s n flags xid)
row s n (Prepare flags xid) = prepare_turn s xid
row s n (Commit flags xid) = commit_turn s flags xid
row s n (Rollback flags xid) = rollback_turn s xid
row s n (Forget flags xid) = forget_turn s xid
row s n (Recover flags count) = Now (recover_by s n flags count)
row s n (Get key) = Now (get_by s key (own_branch s n))
row s n (Put key value) = Now (put_by s key (Some value) (own_branch s n))
row s n (Delete key) = Now (put_by s key None (own_branch s n))
row s n (Decide direction xid) = decide_turn s direction xid
row s n (Doom xid) = Now (doom_by s xid)
row s n Restart = restart_turn s
row s n (Timeout seconds) = Now (timeout_by s n seconds)
row s n (Tick moment) = Now (tick_by s moment)
row s n Trim = trim_turn s
row s n (Branches count after) = Now (branches_by s count after)

-- whether the session is opened, if it is connected
abbrev pub opened_of : State → ℕ → Option Bool
opened_of s n = option_map (λ x. x.opened) (session_of s.sessions n)

abbrev pub is_up : Standing → Bool
is_up Up = true
is_up Down = false
is_up Ended = false

abbrev pub context_of : State → ℕ → Context
context_of s n = record { up = is_up s.standing; name = s.name; moment = s.moment; session = opened_of s n }

abbrev pub respond : State → Event → Turn
respond s event.Connect = Now (connect_by s)
respond s (event.Hangup n) = Now (hang_up_by s n)
respond s (event.Call n request) = unless_now (early_refusal (context_of s n) request) s (row s n request)

abbrev pub asked : Standing → Turn → Turn
asked Up turn = turn
asked Down turn = turn
asked Ended turn = Nobody

-- A group that is lost: a call that was asked with it

abbrev pub is_down : Standing → Bool
is_down Up = false
is_down Down = true
is_down Ended = false

abbrev pub record_in : Turn → Option Record
record_in (Appends r after) = Some r
record_in _ = None

-- The record that the call would append after those whose fates are unknown. None if it would append none, and if
-- none may be lost with them.
abbrev pub further_record : State → Event → Option Record
further_record s event =
    if is_down s.standing && takes_more s.open_records then record_in (respond (supposed s) event) else None

abbrev pub or_joins : State → Option Record → Turn → Turn
or_joins s (Some r) (Now refused) = Joins refused r (lost_too s r)
or_joins s _ turn = turn

abbrev pub turn : State → Happening → Turn
turn s (Asked event) = or_joins s (further_record s event) (asked s.standing (respond s event))
turn s (Reopened name log_bytes) = reopen_turn s name log_bytes

abbrev pub step : State → Happening → Outcome → Option Answer
step s happening outcome = taken (turn s happening) outcome
