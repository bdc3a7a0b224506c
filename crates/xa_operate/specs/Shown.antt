-- What is printed of an answer.
use Rattle.std.specs.Prelude.{ℕ, List, [], ◌++◌, Option, Some, None, if◌then◌else◌, flat_map}
use Rattle.xa_control.specs.declared.answer.Answer.{Answer}
use Rattle.xa_control.specs.declared.answer.Answer.TheVariants as own
use Rattle.xa_frame.specs.declared.body.Body.{Body}
use Rattle.xa_frame.specs.declared.body.Body.TheVariants as body
use Rattle.xa_frame.specs.declared.known_branch.KnownBranch.{KnownBranch}
use Rattle.xa_frame.specs.declared.question.Question.{Question}
use Rattle.xa_frame.specs.declared.question.Question.TheVariants as question
use Rattle.xa_frame.specs.declared.reply.Reply.{Reply}
use Rattle.xa_frame.specs.declared.request.Request.{Request}
use Rattle.xa_frame.specs.declared.request.Request.TheVariants as request
use Rattle.xa_frame.specs.declared.status.Status.{Status}
use Rattle.xa_operate.specs.Agendas.{before_asked, shows}
use Rattle.xa_operate.specs.Answers.{passes_over}
use Rattle.xa_operate.specs.Counted.{counted_text}
use Rattle.xa_operate.specs.Lines.{at_work_text, branch_line, end_text, rolled_line, status_text, xid_lines}
use Rattle.xa_operate.specs.Metrics.{metrics_text}
use Rattle.xa_operate.specs.declared.asking.Asking.{Asking}
use Rattle.xa_operate.specs.declared.asking.Asking.TheVariants as asking
use Rattle.xa_operate.specs.declared.format.Format.{Format}
use Rattle.xa_operate.specs.declared.task.Task.{Task}
use Rattle.xa_operate.specs.declared.task.Task.TheVariants.{AtWork, Metrics, RollbackMarked}
use Rattle.xa_talk.specs.declared.answered.Answered.{Answered}
use Rattle.xa_talk.specs.declared.answered.Answered.TheVariants as answered

-- a branch that no session is at work for
abbrev pub shown_line : Format → Task → KnownBranch → List ℕ
shown_line format task branch = if shows task branch then branch_line format branch (Some []) else []

abbrev pub shown_lines : Format → Task → List KnownBranch → List ℕ
shown_lines format task branches = flat_map (shown_line format task) branches

-- what of a server's numbers is shown
abbrev pub shown_status : Format → Task → Status → List ℕ
shown_status format AtWork status = at_work_text format status
shown_status format Metrics status = metrics_text status
shown_status format task status = status_text format status

-- what a reply carries
abbrev pub shown_body : Format → Task → Body → List ℕ
shown_body format task (body.Xids xids) = xid_lines format xids
shown_body format task (body.Branches branches) = shown_lines format task (before_asked task branches)
shown_body format task (body.Status status) = shown_status format task status
shown_body format task (body.Number n) = end_text format n
shown_body format task _ = []

-- the branch that was rolled back, unless it was passed over
abbrev pub shown_rollback : Format → Request → Reply → List ℕ
shown_rollback format (request.Rollback flags xid) reply =
    if passes_over RollbackMarked reply.code then [] else rolled_line format xid reply.code
shown_rollback format _ reply = []

abbrev pub shown_marked : Format → Question → Reply → List ℕ
shown_marked format (question.Call request) reply = shown_rollback format request reply
shown_marked format _ reply = []

-- Where marked branches are rolled back, those are shown, and else what a reply carries.
abbrev pub shown_reply : Format → Task → Question → Reply → List ℕ
shown_reply format RollbackMarked question reply = shown_marked format question reply
shown_reply format task question reply = shown_body format task reply.body

-- the sessions that a server tells, if it does
abbrev pub sessions_in : Answer → Option (List ℕ)
sessions_in (own.Sessions sessions) = Some sessions
sessions_in _ = None

-- what it has counted
abbrev pub shown_counts : Answer → List ℕ
shown_counts (own.Metrics numbers) = counted_text numbers
shown_counts _ = []

-- a branch with its sessions, and those listed after it
abbrev pub shown_listed : Format → Task → KnownBranch → List KnownBranch → Answer → List ℕ
shown_listed format task branch others answer =
    branch_line format branch (sessions_in answer) ++ shown_lines format task others

-- what a server itself answers
abbrev pub shown_own : Format → Task → Asking → Answer → List ℕ
shown_own format task (asking.Sessions branch others) answer = shown_listed format task branch others answer
shown_own format task asking.Metrics answer = shown_counts answer
shown_own format task _ answer = []

-- what its manager answers
abbrev pub shown_asked : Format → Task → Asking → Reply → List ℕ
shown_asked format task (asking.Question question) reply = shown_reply format task question reply
shown_asked format task _ reply = []

abbrev pub shown : Format → Task → Asking → Answered → List ℕ
shown format task asking (answered.Reply reply) = shown_asked format task asking reply
shown format task asking (answered.Control answer) = shown_own format task asking answer
