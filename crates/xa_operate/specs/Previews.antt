-- What is shown before it is asked whether a task is to be done, and the question.
use Rattle.std.specs.Fmt.{decimal}
use Rattle.std.specs.Prelude.{ℕ, Bool, ◌||◌, List, ◌++◌, codes, bytes_eq}
use Rattle.xa_frame.specs.declared.question.Question.TheVariants as question
use Rattle.xa_frame.specs.declared.request.Request.{Request}
use Rattle.xa_frame.specs.declared.request.Request.TheVariants as request
use Rattle.xa_operate.specs.Scripts.{direction_text}
use Rattle.xa_operate.specs.declared.asking.Asking.{Asking}
use Rattle.xa_operate.specs.declared.asking.Asking.TheVariants as asking
use Rattle.xa_operate.specs.declared.task.Task.{Task}
use Rattle.xa_operate.specs.declared.task.Task.TheVariants.{Abandoned, AtWork, Branch, RollbackMarked, Commit, Rollback, Forget, Decide, Doom, Disconnect, Restart}
use Rattle.xa_xid.specs.Spelling.{text_of}

-- the branch that it names; those that it rolls back; or how many are at work, whose work a restart ends, or a disconnect
abbrev pub preview_of : Task → Task
preview_of (Commit xid) = Branch xid
preview_of (Rollback xid) = Branch xid
preview_of (Forget xid) = Branch xid
preview_of (Decide direction xid) = Branch xid
preview_of (Doom xid) = Branch xid
preview_of RollbackMarked = Abandoned
preview_of _ = AtWork

-- a task's words, as the command line has them
abbrev pub order_text : Task → List ℕ
order_text (Commit xid) = codes "commit " ++ text_of xid
order_text (Rollback xid) = codes "rollback " ++ text_of xid
order_text (Forget xid) = codes "forget " ++ text_of xid
order_text (Decide direction xid) = (codes "decide " ++ direction_text direction ++ codes " ") ++ text_of xid
order_text (Doom xid) = codes "doom " ++ text_of xid
order_text (Disconnect session) = codes "disconnect " ++ decimal session
order_text RollbackMarked = codes "rollback-marked"
order_text Restart = codes "restart"
order_text _ = codes "go on"

abbrev pub question_text : Task → List ℕ
question_text task = order_text task ++ codes "? [y/N] "

-- the answer that has it done
abbrev pub is_yes : List ℕ → Bool
is_yes line = bytes_eq line (codes "y") || bytes_eq line (codes "yes")

-- a request that only lists branches
abbrev pub Lists : Request → Type 0
Lists (request.Branches count after) = Unit {0}
Lists _ = ⊥

-- a question that changes nothing: which branches there are, who is at work for them, or how the server is doing
abbrev pub LooksOnly : Asking → Type 0
LooksOnly (asking.Question question.Status) = Unit {0}
LooksOnly (asking.Question (question.Call request)) = Lists request
LooksOnly (asking.Disconnect session) = ⊥
LooksOnly (asking.Sessions branch others) = Unit {0}
LooksOnly asking.Metrics = Unit {0}
