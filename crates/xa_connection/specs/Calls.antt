-- What each call does to a connection.
use Rattle.std.specs.Prelude.{ℕ, Bool, true, ◌≡◌, ◌≢◌, ◌⊎◌, ◌+◌, ◌-◌, List, [], ◌∷◌, ◌++◌, length, take, drop, min, Option, Some, None, IsSome}
use Rattle.xa_control.specs.declared.answer.Answer.{Answer}
use Rattle.xa_control.specs.declared.control.Control.{Control}
use Rattle.xa_control.specs.Answers.{bytes_of_answer}
use Rattle.xa_control.specs.Controls.{IsNoControl, SpellsControl}
use Rattle.xa_frame.specs.declared.question.Question.{Question}
use Rattle.xa_frame.specs.declared.question.Question.TheVariants as question
use Rattle.xa_frame.specs.declared.status.Status.{Status}
use Rattle.xa_frame.specs.declared.reply.Reply.{Reply}
use Rattle.xa_frame.specs.declared.fault.FrameFault.{FrameFault}
use Rattle.xa_frame.specs.declared.fault.FrameFault.TheVariants as faults
use Rattle.xa_frame.specs.Made.{bad_frame, doing}
use Rattle.xa_frame.specs.Limits.{IsReply}
use Rattle.xa_frame.specs.Questions.{IsQuestion, SpellsQuestion, fault_of_question}
use Rattle.xa_desk.specs.declared.served.Served.{Served}
use Rattle.xa_desk.specs.declared.served.Served.TheVariants as served
use Rattle.xa_desk.specs.Believed.Frames.{frame, reply_frame, without_memory}
use Rattle.xa_desk.specs.Believed.Serving.{IsShort, IsCut}
use Rattle.xa_roles.specs.declared.role.Role.{Role}
use Rattle.xa_roles.specs.Believed.Roles.{may_ask, may_order}
use Rattle.xa_connection.specs.Believed.Access.{AnswersTo, IsDenied, no_access}
use Rattle.xa_connection.specs.declared.answering.Answering.{Answering}
use Rattle.xa_connection.specs.declared.answering.Answering.TheVariants.{Idle, Answered, Memory}
use Rattle.xa_connection.specs.declared.connection.Connection.{Connection}
use Rattle.xa_connection.specs.declared.connection.TheConstants.{MOST_INPUT}
use Rattle.xa_connection.specs.declared.asked.Asked.{Asked}
use Rattle.xa_connection.specs.declared.asked.Asked.TheVariants as asked
use Rattle.xa_connection.specs.declared.asked.Asked.TheVariants.{One, Refused, Control as Controls}
use Rattle.xa_connection.specs.declared.front.Front.{Front}
use Rattle.xa_connection.specs.declared.front.Front.TheVariants as front
use Rattle.xa_connection.specs.declared.front.Front.TheVariants.{Whole, Cut}
use Rattle.xa_connection.specs.Fronts.{BeginsTooLong, BeginsWhole}

-- nothing came in, and nothing has to be sent
abbrev pub new_connection : Connection
new_connection = record { input = []; output = []; end = None }

-- by its end, what has to be sent and what came in: how many bytes it takes
abbrev pub room_in : Option Served → List ℕ → List ℕ → ℕ
room_in None [] input = MOST_INPUT - length input
room_in None (b ∷ output) input = 0
room_in (Some end) output input = 0

abbrev pub room_of : Connection → ℕ
room_of c = room_in c.end c.output c.input

-- it took the first of these bytes, as many as it has room for
abbrev pub Feeds : Connection → List ℕ → ℕ → Connection → Type 0
Feeds c bytes count c' =
    (count ≡ min (room_of c) (length bytes)) × (c' ≡ record c { input = c.input ++ take count bytes })

-- it goes on, and nothing has to be sent
abbrev pub IsReady : Connection → Type 0
IsReady c = (c.end ≡ None) × (c.output ≡ [])

-- it has nothing to answer: it has to end, a reply has to be sent first, or no whole frame came in
abbrev pub IsIdle : Connection → Type 0
IsIdle c = IsSome c.end ⊎ ((c.output ≢ []) ⊎ IsCut c.input)

-- the frame at the front, whose content has this many bytes, asks this of the server itself
abbrev pub AsksServer : List ℕ → ℕ → Control → Type 0
AsksServer input count control = BeginsWhole input count × SpellsControl (take count (drop 4 input)) control

-- it asks something of the server itself, which may be asked by who has shown this
abbrev pub IsForServer : Option Role → List ℕ → Type 0
IsForServer standing input =
    (count : ℕ) × (control : Control) × AsksServer input count control × (may_order standing control ≡ true)

-- what is at the front is owed this reply: a content, which is taken with its length; or a length that is too great,
-- which stays, and after whose reply it has to end
abbrev pub AnswersFront : {D : Type 0} → Option Role → (D → Question → Reply → D → Type 0) → Connection → D → Reply → Option Served → List ℕ → D → Type 0
AnswersFront standing called c d reply end input e =
    ((content : List ℕ) × IsShort content × (c.input ≡ frame content ++ input) × AnswersTo standing called d content reply e
    × (end ≡ None))
    ⊎ (BeginsTooLong c.input × (input ≡ c.input) × (e ≡ d) × (reply ≡ bad_frame) × (end ≡ Some served.TooLong))

-- an answer: one reply was owed, and has to be sent, or found no memory; none is owed if
-- the server itself is asked
abbrev pub Turns : {D : Type 0} → Option Role → (D → Question → Reply → D → Type 0) → Connection → D → Answering → Connection → D → Type 0
Turns standing called c d Idle c' e = (IsIdle c ⊎ IsForServer standing c.input) × (c' ≡ c) × (e ≡ d)
Turns standing called c d Answered c' e =
    IsReady c × (reply : Reply) × AnswersFront standing called c d reply c'.end c'.input e × (c'.output ≡ reply_frame reply)
Turns standing called c d Memory c' e =
    IsReady c × (reply : Reply) × (end : Option Served) × AnswersFront standing called c d reply end c'.input e × (c'.output ≡ [])
    × (c'.end ≡ Some served.Memory)

-- a content that reaches no door, and the reply that it is owed: it has a fault, or decoding it found no memory
abbrev pub IsRefused : List ℕ → Reply → Type 0
IsRefused content reply =
    ((f : FrameFault) × (f ≢ faults.Memory) × (fault_of_question content ≡ Some f) × (reply ≡ bad_frame))
    ⊎ ((fault_of_question content ≡ None) × (reply ≡ without_memory))

-- a content that reaches no door, and the reply that it is owed: it asks for nothing, or for what may not be asked
abbrev pub IsOwed : Option Role → List ℕ → Reply → Type 0
IsOwed standing content reply =
    (IsRefused content reply × IsNoControl content) ⊎ (IsDenied standing content × (reply ≡ no_access))

-- what a content asks for, of this many bytes, where who asks has shown this: something of the server itself, the question
-- that it spells, or nothing for a door
abbrev pub AsksBy : Option Role → ℕ → List ℕ → Asked → Type 0
AsksBy standing count content (One n q) = (n ≡ count) × SpellsQuestion content q × (may_ask standing q ≡ true)
AsksBy standing count content (Refused (Whole n) reply) = (n ≡ count) × IsOwed standing content reply
AsksBy standing count content (Controls n control) = (n ≡ count) × SpellsControl content control × (may_order standing control ≡ true)
AsksBy standing count content _ = ⊥

-- what the front asks for: what the content of a frame does, or nothing for a door
abbrev pub Asks : Option Role → Connection → Asked → Type 0
Asks standing c asked.Idle = IsIdle c
Asks standing c (One count q) =
    IsReady c × BeginsWhole c.input count × SpellsQuestion (take count (drop 4 c.input)) q × (may_ask standing q ≡ true)
Asks standing c (Refused (Whole count) reply) =
    IsReady c × BeginsWhole c.input count × IsOwed standing (take count (drop 4 c.input)) reply
Asks standing c (Refused front.TooLong reply) = IsReady c × BeginsTooLong c.input × (reply ≡ bad_frame)
Asks standing c (Refused Cut reply) = ⊥
Asks standing c (Controls count control) = IsReady c × AsksServer c.input count control × (may_order standing control ≡ true)

-- what is asked is within the limits
abbrev pub IsAsked : Asked → Type 0
IsAsked asked.Idle = Unit {0}
IsAsked (One count q) = IsQuestion q
IsAsked (Refused front reply) = IsReply reply
IsAsked (Controls count control) = Unit {0}

-- the door answered a question: if asked how it is doing, it told that, and stayed as it was
abbrev pub IsPut : {D : Type 0} → (D → Question → Reply → D → Type 0) → D → Question → Reply → D → Type 0
IsPut called d (question.Call q) reply e = called d (question.Call q) reply e
IsPut called d question.Status reply e =
    (s : Status) × (e ≡ d) × (reply ≡ doing s) × called d question.Status (doing s) d

-- a reply has to be sent, or found no memory
abbrev pub Holds : Connection → Reply → Answering → Connection → Type 0
Holds c reply Idle c' = ⊥
Holds c reply Answered c' = c' ≡ record c { output = reply_frame reply }
Holds c reply Memory c' = c' ≡ record c { output = []; end = Some served.Memory }

-- a reply to what is at the front: a frame is taken; after a length that is too great, which stays, it has to end
abbrev pub Replies : Connection → Front → Reply → Answering → Connection → Type 0
Replies c (Whole count) reply answering c' = Holds (record c { input = drop (4 + count) c.input }) reply answering c'
Replies c front.TooLong reply answering c' = Holds (record c { end = Some served.TooLong }) reply answering c'
Replies c Cut reply answering c' = (answering ≡ Idle) × (c' ≡ c)

-- the frame of an answer of the server's
abbrev pub answer_frame : Answer → List ℕ
answer_frame answer = frame (bytes_of_answer answer)

-- such an answer has to be sent, or found no memory
abbrev pub HoldsAnswer : Connection → Answer → Answering → Connection → Type 0
HoldsAnswer c answer Idle c' = ⊥
HoldsAnswer c answer Answered c' = c' ≡ record c { output = answer_frame answer }
HoldsAnswer c answer Memory c' = c' ≡ record c { output = []; end = Some served.Memory }

-- the server answered what it was asked at the front, whose frame is taken
abbrev pub AnswersServer : Connection → Control → Answer → Answering → Connection → Type 0
AnswersServer c control answer answering c' =
    IsReady c × (count : ℕ) × AsksServer c.input count control
    × HoldsAnswer (record c { input = drop (4 + count) c.input }) answer answering c'
