-- Which reply says that what was asked is done. Any other is a refusal.
use Rattle.std.specs.Prelude.{ℤ, Bool, true, false, ◌&&◌, ◌||◌}
use Rattle.std.specs.Ordering.{int_eq}
use Rattle.xa_codes.specs.declared.codes.TheConstants.{XA_OK, XA_RBROLLBACK, XA_RBCOMMFAIL, XA_RBDEADLOCK, XA_RBINTEGRITY, XA_RBOTHER, XA_RBPROTO, XA_RBTIMEOUT, XA_RBTRANSIENT, XAER_NOTA}
use Rattle.xa_control.specs.declared.answer.Answer.{Answer}
use Rattle.xa_control.specs.declared.answer.Answer.TheVariants as own
use Rattle.xa_frame.specs.declared.body.Body.{Body}
use Rattle.xa_frame.specs.declared.body.Body.TheVariants as body
use Rattle.xa_frame.specs.declared.question.Question.{Question}
use Rattle.xa_frame.specs.declared.question.Question.TheVariants as question
use Rattle.xa_frame.specs.declared.reply.Reply.{Reply}
use Rattle.xa_frame.specs.declared.request.Request.{Request}
use Rattle.xa_frame.specs.declared.request.Request.TheVariants.{Recover, Branches, Trim, Rollback}
use Rattle.xa_operate.specs.declared.asking.Asking.{Asking}
use Rattle.xa_operate.specs.declared.asking.Asking.TheVariants as asking
use Rattle.xa_operate.specs.declared.fault.OperateFault.{OperateFault}
use Rattle.xa_operate.specs.declared.fault.OperateFault.TheVariants.{Refused}
use Rattle.xa_operate.specs.declared.task.Task.{Task}
use Rattle.xa_operate.specs.declared.task.Task.TheVariants.{RollbackMarked}
use Rattle.xa_script.specs.Answers.{code_of, detail_of}
use Rattle.xa_talk.specs.declared.answered.Answered.{Answered}
use Rattle.xa_talk.specs.declared.answered.Answered.TheVariants as answered

abbrev pub is_status : Body → Bool
is_status (body.Status status) = true
is_status _ = false

abbrev pub is_branches : Body → Bool
is_branches (body.Branches branches) = true
is_branches _ = false

abbrev pub is_xids : Body → Bool
is_xids (body.Xids xids) = true
is_xids _ = false

abbrev pub is_number : Body → Bool
is_number (body.Number n) = true
is_number _ = false

abbrev pub is_first_mark : ℤ → Bool
is_first_mark code =
    int_eq code XA_RBROLLBACK || int_eq code XA_RBCOMMFAIL || int_eq code XA_RBDEADLOCK || int_eq code XA_RBINTEGRITY

abbrev pub is_last_mark : ℤ → Bool
is_last_mark code =
    int_eq code XA_RBOTHER || int_eq code XA_RBPROTO || int_eq code XA_RBTIMEOUT || int_eq code XA_RBTRANSIENT

-- a mark, for which a branch can only be rolled back
abbrev pub is_mark : ℤ → Bool
is_mark code = is_first_mark code || is_last_mark code

-- of the marked branches one that is no longer known is passed over: somebody else rolled it back
abbrev pub passes_over : Task → ℤ → Bool
passes_over RollbackMarked code = int_eq code XAER_NOTA
passes_over _ code = false

-- a branch that is rolled back is answered its mark, if it has one
abbrev pub answers_rollback : Task → ℤ → Bool
answers_rollback task code = int_eq code XA_OK || is_mark code || passes_over task code

abbrev pub answers_call : Task → Request → Reply → Bool
answers_call task (Branches count after) reply = int_eq reply.code XA_OK && is_branches reply.body
answers_call task (Recover flags count) reply = is_xids reply.body
answers_call task Trim reply = int_eq reply.code XA_OK && is_number reply.body
answers_call task (Rollback flags xid) reply = answers_rollback task reply.code
answers_call task _ reply = int_eq reply.code XA_OK

abbrev pub answers_question : Task → Question → Reply → Bool
answers_question task question.Status reply = int_eq reply.code XA_OK && is_status reply.body
answers_question task (question.Call request) reply = answers_call task request reply

abbrev pub is_done : Answer → Bool
is_done own.Done = true
is_done _ = false

-- the sessions; or a refusal: an older server doesn't tell them, or one with workers
abbrev pub may_tell_sessions : Answer → Bool
may_tell_sessions (own.Sessions sessions) = true
may_tell_sessions (own.Refused code detail) = true
may_tell_sessions _ = false

-- the same of what was counted
abbrev pub may_tell_counts : Answer → Bool
may_tell_counts (own.Metrics numbers) = true
may_tell_counts (own.Refused code detail) = true
may_tell_counts _ = false

-- of what a server itself is asked
abbrev pub answers_own : Asking → Answer → Bool
answers_own (asking.Disconnect session) answer = is_done answer
answers_own (asking.Sessions branch others) answer = may_tell_sessions answer
answers_own asking.Metrics answer = may_tell_counts answer
answers_own (asking.Question question) answer = false

-- of what a server's manager is asked
abbrev pub answers_asked : Task → Asking → Reply → Bool
answers_asked task (asking.Question question) reply = answers_question task question reply
answers_asked task _ reply = false

abbrev pub answers : Task → Asking → Answered → Bool
answers task asking (answered.Reply reply) = answers_asked task asking reply
answers task asking (answered.Control answer) = answers_own asking answer

-- what is told of an answer that refuses
abbrev pub refusal : Answered → OperateFault
refusal (answered.Reply reply) = Refused reply.code reply.detail
refusal (answered.Control answer) = Refused (code_of answer) (detail_of answer)
