-- A frame over a connection, and its reply.
use Rattle.std.specs.Int.{to_be_bytes, w32}
use Rattle.std.specs.Prelude.{ℕ, ◌≡◌, ◌<◌, ◌⊎◌, List, [], Option, Some, None, Result, Ok, Err}
use Rattle.std.specs.Io.KnownBytes.{Appends, Consumes, IsAtEnd}
use Rattle.xa_control.specs.Answers.{SpellsAnswer}
use Rattle.xa_control.specs.Controls.{bytes_of_control}
use Rattle.xa_control.specs.Shutdown.{shutdown_content}
use Rattle.xa_control.specs.declared.answer.Answer.{Answer}
use Rattle.xa_control.specs.declared.control.Control.{Control}
use Rattle.xa_desk.specs.Believed.Frames.{frame}
use Rattle.xa_frame.specs.declared.question.Question.{Question}
use Rattle.xa_frame.specs.declared.reply.Reply.{Reply}
use Rattle.xa_frame.specs.Questions.{bytes_of_question}
use Rattle.xa_limits.specs.declared.TheConstants.{MOST_CONTENT}
use Rattle.xa_frame.specs.Spelling.{SpellsReply}
use Rattle.xa_output.specs.Output.{IsFront}
use Rattle.xa_talk.specs.declared.fault.TalkFault.{TalkFault}
use Rattle.xa_talk.specs.declared.fault.TalkFault.TheVariants.{Broken, Memory, NoReply}

abbrev pub question_frame : Question → List ℕ
question_frame question = frame (bytes_of_question question)

-- what asks a server to end
abbrev pub shutdown_frame : List ℕ
shutdown_frame = frame shutdown_content

-- what asks a server something
abbrev pub control_frame : Control → List ℕ
control_frame control = frame (bytes_of_control control)

-- some first bytes of a frame are sent, or all
abbrev pub SendsPart : List ℕ → Option (List ℕ) → Option (List ℕ) → Type 0
SendsPart text output output' = (sent : List ℕ) × IsFront sent text × Appends output output' sent

-- the connection ended or failed, or memory ran out
abbrev pub IsBroken : TalkFault → Type 0
IsBroken Broken = Unit {0}
IsBroken Memory = Unit {0}
IsBroken _ = ⊥

-- all of a frame is sent, or some first bytes
abbrev pub Sends : {X : Type 0} → List ℕ → Result X TalkFault → Option (List ℕ) → Option (List ℕ) → Type 0
Sends text (Ok x) output output' = Appends output output' text
Sends text (Err fault) output output' = IsBroken fault × SendsPart text output output'

-- the connection ended, with no byte left to read
abbrev pub Closes : Option (List ℕ) → Option (List ℕ) → Type 0
Closes input input' = Consumes input input' [] × IsAtEnd input'

-- the length of a frame is read, or the connection ended before its first byte
abbrev pub ReadsLength : Result (Option ℕ) TalkFault → Option (List ℕ) → Option (List ℕ) → Type 0
ReadsLength (Ok None) input input' = Closes input input'
ReadsLength (Ok (Some n)) input input' = Consumes input input' (to_be_bytes w32 n)
ReadsLength (Err fault) input input' = fault ≡ Broken

-- no content of this length is read: no frame has one, and nothing was taken; or the connection broke or memory ran out
abbrev pub LacksContent : ℕ → TalkFault → Option (List ℕ) → Option (List ℕ) → Type 0
LacksContent n NoReply input input' = (MOST_CONTENT < n) × (input' ≡ input)
LacksContent n fault input input' = IsBroken fault

-- no frame is read: its length is none's, or the connection ended or failed, or memory ran out
abbrev pub LacksFrame : TalkFault → Option (List ℕ) → Option (List ℕ) → Type 0
LacksFrame NoReply input input' = (n : ℕ) × (MOST_CONTENT < n) × Consumes input input' (to_be_bytes w32 n)
LacksFrame fault input input' = IsBroken fault

-- of answers that are spelled so
module _ {A : Type 0} (Spelled : List ℕ → A → Type 0) where
  -- a length that no frame has, or a frame that spells no answer
  abbrev pub IsNone : List ℕ → Type 0
  IsNone read =
      ((n : ℕ) × (MOST_CONTENT < n) × (read ≡ to_be_bytes w32 n))
      ⊎ ((content : List ℕ) × (read ≡ frame content) × ((answer : A) → Spelled content answer → ⊥))

  -- the frame of this answer is read, or what is none; or the connection ended before its first byte
  abbrev pub ReceivesBy : Result (Option A) TalkFault → Option (List ℕ) → Option (List ℕ) → Type 0
  ReceivesBy (Ok None) input input' = Closes input input'
  ReceivesBy (Ok (Some answer)) input input' =
      (content : List ℕ) × Spelled content answer × Consumes input input' (frame content)
  ReceivesBy (Err NoReply) input input' = (read : List ℕ) × IsNone read × Consumes input input' read
  ReceivesBy (Err fault) input input' = IsBroken fault

  -- A frame is sent, and then the frame of this answer is read, or what is none, or the connection ended before that.
  -- Where it broke or memory ran out, some first bytes were sent, or all.
  abbrev pub AskedBy : List ℕ → Result (Option A) TalkFault → Option (List ℕ) → Option (List ℕ) → Option (List ℕ)
      → Option (List ℕ) → Type 0
  AskedBy text (Ok answer) output output' input input' =
      Appends output output' text × ReceivesBy (Ok answer) input input'
  AskedBy text (Err NoReply) output output' input input' =
      Appends output output' text × ReceivesBy (Err NoReply) input input'
  AskedBy text (Err fault) output output' input input' = IsBroken fault × SendsPart text output output'

  -- the same where an answer is to come: a connection that ended before it broke
  abbrev pub BroughtBy : List ℕ → Result A TalkFault → Option (List ℕ) → Option (List ℕ) → Option (List ℕ)
      → Option (List ℕ) → Type 0
  BroughtBy text (Ok answer) output output' input input' = AskedBy text (Ok (Some answer)) output output' input input'
  BroughtBy text (Err fault) output output' input input' = AskedBy text (Err fault) output output' input input'

-- a frame is sent, and a reply awaited: one is read, or what is none, or the connection ended before that
abbrev pub Receives : Result (Option Reply) TalkFault → Option (List ℕ) → Option (List ℕ) → Type 0
Receives = ReceivesBy SpellsReply

abbrev pub Asked : List ℕ → Result (Option Reply) TalkFault → Option (List ℕ) → Option (List ℕ) → Option (List ℕ)
    → Option (List ℕ) → Type 0
Asked = AskedBy SpellsReply

-- the same of a frame whose reply is to come
abbrev pub Brought : List ℕ → Result Reply TalkFault → Option (List ℕ) → Option (List ℕ) → Option (List ℕ)
    → Option (List ℕ) → Type 0
Brought = BroughtBy SpellsReply

-- of a question
abbrev pub Exchanged : Question → Result Reply TalkFault → Option (List ℕ) → Option (List ℕ) → Option (List ℕ)
    → Option (List ℕ) → Type 0
Exchanged question = Brought (question_frame question)

-- of what a server is asked, whose own answer is to come
abbrev pub Tells : Control → Result Answer TalkFault → Option (List ℕ) → Option (List ℕ) → Option (List ℕ)
    → Option (List ℕ) → Type 0
Tells control = BroughtBy SpellsAnswer (control_frame control)
