-- The script of `xarm talk` that asks what a task asks.
use Rattle.std.specs.Fmt.{decimal}
use Rattle.std.specs.Prelude.{ℕ, ◌≡◌, ◌≤◌, ◌<◌, ◌^◌, List, [], ◌∷◌, ◌++◌, Option, codes, if◌then◌else◌}
use Rattle.xa_codes.specs.declared.direction.Direction.{Direction}
use Rattle.xa_codes.specs.declared.direction.Direction.TheVariants as direction
use Rattle.xa_codes.specs.declared.flags.TheConstants.{TMNOFLAGS}
use Rattle.xa_control.specs.declared.control.Control.TheVariants as control
use Rattle.xa_frame.specs.declared.question.Question.TheVariants as question
use Rattle.xa_frame.specs.declared.request.Request.TheVariants.{Open}
use Rattle.xa_script.specs.Lines.{line_of}
use Rattle.xa_script.specs.declared.line.Line.{Line}
use Rattle.xa_script.specs.declared.line.Line.TheVariants as line
use Rattle.xa_operate.specs.Agendas.{question_of}
use Rattle.xa_operate.specs.Askings.{called}
use Rattle.xa_operate.specs.Tasks.{opens_session}
use Rattle.xa_operate.specs.declared.asking.Asking.{Asking}
use Rattle.xa_operate.specs.declared.asking.Asking.TheVariants as asking
use Rattle.xa_operate.specs.declared.task.Task.{Task}
use Rattle.xa_operate.specs.declared.task.Task.TheVariants.{Status, Metrics, AtWork, Branches, Branch, Abandoned, Recover, RollbackMarked, Commit, Rollback, Forget, Decide, Doom, Disconnect, Trim, Restart}
use Rattle.xa_xid.specs.Spelling.{text_of}
use Rattle.xa_xid.specs.Triple.{IsWithinLimits, Triple}

abbrev pub direction_text : Direction → List ℕ
direction_text direction.Commit = codes "commit"
direction_text direction.Rollback = codes "rollback"

-- what session 1 asks
abbrev pub call_text : Task → List ℕ
call_text Status = codes "1 status"
call_text Metrics = codes "1 status"
call_text AtWork = codes "1 status"
call_text Branches = codes "1 branches 256"
call_text (Branch xid) = codes "1 branches 256"
call_text Abandoned = codes "1 branches 256"
call_text RollbackMarked = codes "1 branches 256"
call_text Recover = codes "1 recover TMSTARTRSCAN 256"
call_text (Commit xid) = codes "1 commit TMNOFLAGS " ++ text_of xid
call_text (Rollback xid) = codes "1 rollback TMNOFLAGS " ++ text_of xid
call_text (Forget xid) = codes "1 forget TMNOFLAGS " ++ text_of xid
call_text (Decide direction xid) = codes "1 decide " ++ direction_text direction ++ codes " " ++ text_of xid
call_text (Doom xid) = codes "1 doom " ++ text_of xid
call_text (Disconnect session) = codes "1 disconnect " ++ decimal session
call_text Trim = codes "1 trim"
call_text Restart = codes "1 restart"

abbrev pub ended : List ℕ → List ℕ
ended line = line ++ 10 ∷ []

-- what a full page leads to, as a comment
abbrev pub more_branches : List ℕ
more_branches = codes "# while 256 are listed: 1 branches 256 X, above the last X"

-- the sessions of the branches that are listed
abbrev pub listed_comments : List ℕ
listed_comments = ended (codes "# each X with active or suspended associations: 1 sessions X") ++ ended more_branches

abbrev pub marked_comments : List ℕ
marked_comments =
    ended (codes "# each X that is working, marked, and without associations: 1 rollback TMNOFLAGS X") ++ ended more_branches

-- what a status for Prometheus goes on to ask
abbrev pub metrics_line : List ℕ
metrics_line = codes "1 metrics"

-- what the answers lead to: a line where that is known, else comments
abbrev pub further_text : Task → List ℕ
further_text Metrics = ended metrics_line
further_text Branches = listed_comments
further_text (Branch xid) = listed_comments
further_text Abandoned = ended more_branches
further_text RollbackMarked = marked_comments
further_text Recover = ended (codes "# while 256 are listed: 1 recover TMNOFLAGS 256")
further_text _ = []

-- session 1 opens the resource manager by its name, where that is needed
abbrev pub open_line : List ℕ → List ℕ
open_line name = codes "1 open TMNOFLAGS " ++ name

abbrev pub open_text : List ℕ → Task → List ℕ
open_text name task = if opens_session task then ended (open_line name) else []

abbrev pub script_of : List ℕ → Task → List ℕ
script_of name task =
    ended (codes "connect") ++ open_text name task ++ ended (call_text task) ++ further_text task
    ++ ended (codes "1 hangup")

-- the line of a script in which session 1 asks this
abbrev pub said : Asking → Line
said (asking.Question (question.Call request)) = line.Call 1 request
said (asking.Question question.Status) = line.Status 1
said (asking.Disconnect session) = line.Control 1 (control.Disconnect session)
said (asking.Sessions branch others) = line.Control 1 (control.Sessions branch.xid)
said asking.Metrics = line.Control 1 control.Metrics

-- `xarm talk` reads the lines of a task's script as what the task asks first.
pub record TalkReads (xid_of : List ℕ → Option Triple) (name : List ℕ) (task : Task) : Type 0 where
  pub connects : line_of xid_of (codes "connect") ≡ line.Connect
  pub opens : line_of xid_of (open_line name) ≡ said (called (Open TMNOFLAGS name))
  pub asks : line_of xid_of (call_text task) ≡ said (question_of task)
  pub goes_on : line_of xid_of metrics_line ≡ said asking.Metrics
  pub hangs_up : line_of xid_of (codes "1 hangup") ≡ line.Hangup 1

-- the XID that a task names is one, and so is the number of a session
abbrev pub NamesWell : Task → Type 0
NamesWell (Commit xid) = IsWithinLimits xid
NamesWell (Rollback xid) = IsWithinLimits xid
NamesWell (Forget xid) = IsWithinLimits xid
NamesWell (Decide direction xid) = IsWithinLimits xid
NamesWell (Doom xid) = IsWithinLimits xid
NamesWell (Disconnect session) = (1 ≤ session) × (session < 2 ^ 64)
NamesWell _ = Unit {0}
