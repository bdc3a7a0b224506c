-- What is asked of a server, and what comes back.
use Rattle.std.specs.Prelude.{ℕ, ◌≡◌, List, Option, Result, Ok, Err}
use Rattle.xa_control.specs.declared.answer.Answer.{Answer}
use Rattle.xa_control.specs.declared.control.Control.TheVariants as control
use Rattle.xa_frame.specs.Questions.{IsQuestion}
use Rattle.xa_frame.specs.declared.question.Question.TheVariants.{Call}
use Rattle.xa_frame.specs.declared.reply.Reply.{Reply}
use Rattle.xa_frame.specs.declared.request.Request.{Request}
use Rattle.xa_operate.specs.declared.asking.Asking.{Asking}
use Rattle.xa_operate.specs.declared.asking.Asking.TheVariants.{Disconnect, Metrics, Question, Sessions}
use Rattle.xa_talk.specs.Exchanges.{Exchanged, Tells}
use Rattle.xa_talk.specs.declared.answered.Answered.{Answered}
use Rattle.xa_talk.specs.declared.answered.Answered.TheVariants as answered
use Rattle.xa_talk.specs.declared.fault.TalkFault.{TalkFault}

abbrev pub IsAsking : Asking → Type 0
IsAsking (Question question) = IsQuestion question
IsAsking _ = Unit {0}

abbrev pub replied : Result Reply TalkFault → Result Answered TalkFault
replied (Ok reply) = Ok (answered.Reply reply)
replied (Err fault) = Err fault

abbrev pub controlled : Result Answer TalkFault → Result Answered TalkFault
controlled (Ok answer) = Ok (answered.Control answer)
controlled (Err fault) = Err fault

-- a question goes over a connection, and its reply comes back; or what asks the server itself, and its answer
abbrev pub Brings : Asking → Result Answered TalkFault → Option (List ℕ) → Option (List ℕ) → Option (List ℕ)
    → Option (List ℕ) → Type 0
Brings (Question question) answer output output' input input' =
    (reply : Result Reply TalkFault) × (answer ≡ replied reply) × Exchanged question reply output output' input input'
Brings (Disconnect session) answer output output' input input' =
    (own : Result Answer TalkFault) × (answer ≡ controlled own)
    × Tells (control.Disconnect session) own output output' input input'
Brings (Sessions branch others) answer output output' input input' =
    (own : Result Answer TalkFault) × (answer ≡ controlled own)
    × Tells (control.Sessions branch.xid) own output output' input input'
Brings Metrics answer output output' input input' =
    (own : Result Answer TalkFault) × (answer ≡ controlled own) × Tells control.Metrics own output output' input input'

abbrev pub called : Request → Asking
called request = Question (Call request)
