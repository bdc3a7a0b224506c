-- What one line is answered, and what it leaves of the script's connections.
use Rattle.std.specs.Prelude.{ℕ, ◌≡◌, ◌⊎◌, ◌+◌, pos, List, nat_lt, Option, Some, None, Result, Ok, Err, MatchBool, MatchOption, MatchResult}
use Rattle.xa_codes.specs.declared.codes.TheConstants.{XAER_PROTO, XAER_RMERR}
use Rattle.xa_codes.specs.declared.detail.Detail.TheVariants as detail
use Rattle.xa_control.specs.declared.answer.Answer.{Answer}
use Rattle.xa_control.specs.declared.answer.Answer.TheVariants.{Refused}
use Rattle.xa_control.specs.declared.control.Control.{Control as Asking}
use Rattle.xa_control.specs.declared.control.Control.TheVariants.{Shutdown}
use Rattle.xa_frame.specs.Made.{plain, detailed, carrying, bad_frame}
use Rattle.xa_frame.specs.declared.body.Body.TheVariants as body
use Rattle.xa_frame.specs.declared.question.Question.{Question}
use Rattle.xa_frame.specs.declared.question.Question.TheVariants as question
use Rattle.xa_frame.specs.declared.reply.Reply.{Reply}
use Rattle.xa_script.specs.declared.line.Line.{Line}
use Rattle.xa_script.specs.declared.line.Line.TheVariants.{Silent, Connect, Hangup, Call, Status, Control}
use Rattle.xa_talk.specs.declared.answer.TheConstants.{MOST_CONNECTIONS}
use Rattle.xa_talk.specs.declared.answered.Answered.{Answered}
use Rattle.xa_talk.specs.declared.answered.Answered.TheVariants as answered
use Rattle.xa_talk.specs.declared.fault.TalkFault.{TalkFault}
use Rattle.xa_talk.specs.declared.fault.TalkFault.TheVariants as faults
use Rattle.xa_talk.specs.Exchanges.{Asked, Exchanged, Tells, shutdown_frame}
use Rattle.xa_talk.specs.Numbers.{connection_at, free_index, index_of, with_at, with_new}

-- a reply is shown, a fault isn't
abbrev pub shown : Result Reply TalkFault → Result (Option Answered) TalkFault
shown (Ok reply) = Ok (Some (answered.Reply reply))
shown (Err fault) = Err fault

-- the same of a server's own answer
abbrev pub told : Result Answer TalkFault → Result (Option Answered) TalkFault
told (Ok answer) = Ok (Some (answered.Control answer))
told (Err fault) = Err fault

-- the reply to what asked the server to end: 0 where it closed the connection
abbrev pub end_reply : Result (Option Reply) TalkFault → Result Reply TalkFault
end_reply (Ok None) = Ok (plain (pos 0))
end_reply (Ok (Some reply)) = Ok reply
end_reply (Err fault) = Err fault

-- the connection stays, unless it was closed
abbrev pub left_open : {C : Type 0} → Result (Option Reply) TalkFault → C → Option C
left_open (Ok None) c = None
left_open _ c = Some c

-- over connections, with what was sent over one, and what can still be read from it
module _ {C : Type 0} (sent left : C → Option (List ℕ)) where
  -- What a number that has no connection asks is answered at once, as a session that isn't connected is. Else it goes over
  -- that connection, and this is what comes back.
  abbrev pub AnsweredOver : {A : Type 0}
      → (Result A TalkFault → Option (List ℕ) → Option (List ℕ) → Option (List ℕ) → Option (List ℕ) → Type 0) → A → ℕ
      → Result A TalkFault → List (Option C) → List (Option C) → Type 0
  AnsweredOver Brings unconnected n answer numbered numbered' =
      MatchOption (connection_at n numbered)
      ((answer ≡ Ok unconnected) × (numbered' ≡ numbered))
      (λ c. (c' : C) × (numbered' ≡ with_at (index_of n) (Some c') numbered)
      × Brings answer (sent c) (sent c') (left c) (left c'))

  abbrev pub CallAnswered : ℕ → Question → Result Reply TalkFault → List (Option C) → List (Option C) → Type 0
  CallAnswered n asked answer numbered numbered' =
      AnsweredOver (Exchanged asked) (plain XAER_PROTO) n answer numbered numbered'

  abbrev pub AskAnswered : ℕ → Asking → Result Answer TalkFault → List (Option C) → List (Option C) → Type 0
  AskAnswered n asked answer numbered numbered' =
      AnsweredOver (Tells asked) (Refused XAER_PROTO detail.Nothing) n answer numbered numbered'

  -- What asks the server to end goes over a connection, if there is one, which is gone if the server closes it.
  abbrev pub EndAsked : Option C → Result Reply TalkFault → Option C → Type 0
  EndAsked connection answer connection' =
      MatchOption connection
      ((answer ≡ Ok (plain XAER_PROTO)) × (connection' ≡ None))
      (λ c. (c' : C) × (asked : Result (Option Reply) TalkFault) × (answer ≡ end_reply asked)
      × (connection' ≡ left_open asked c') × Asked shutdown_frame asked (sent c) (sent c') (left c) (left c'))

  -- the same of the connection of a number
  abbrev pub EndAnswered : ℕ → Result Reply TalkFault → List (Option C) → List (Option C) → Type 0
  EndAnswered n answer numbered numbered' =
      MatchOption (connection_at n numbered)
      ((answer ≡ Ok (plain XAER_PROTO)) × (numbered' ≡ numbered))
      (λ c. (c' : C) × (asked : Result (Option Reply) TalkFault) × (answer ≡ end_reply asked)
      × (numbered' ≡ with_at (index_of n) (left_open asked c') numbered)
      × Asked shutdown_frame asked (sent c) (sent c') (left c) (left c'))

  -- a connection more, which has the least free number; or none could be opened
  abbrev pub ConnectAnswered : Result Reply TalkFault → List (Option C) → List (Option C) → Type 0
  ConnectAnswered answer numbered numbered' =
      MatchBool (nat_lt (free_index numbered) MOST_CONNECTIONS)
      (MatchResult answer
      (λ reply. (c : C) × (reply ≡ carrying (body.Number (free_index numbered + 1)))
      × (numbered' ≡ with_new c numbered))
      (λ fault. (fault ≡ faults.Connect) ⊎ (fault ≡ faults.Memory)))
      ((answer ≡ Ok (detailed XAER_RMERR detail.Limit)) × (numbered' ≡ numbered))

  -- what a server is asked, by whether that is to end
  abbrev pub ControlAnswered : ℕ → Asking → Result (Option Answered) TalkFault → List (Option C) → List (Option C) → Type 0
  ControlAnswered n Shutdown answer numbered numbered' =
      (reply : Result Reply TalkFault) × (answer ≡ shown reply) × EndAnswered n reply numbered numbered'
  ControlAnswered n asked answer numbered numbered' =
      (own : Result Answer TalkFault) × (answer ≡ told own) × AskAnswered n asked own numbered numbered'

  -- What a line is answered, if it is answered anything. Where it fails that is a fault of the connection or of memory.
  abbrev pub LineAnswered : Line → Result (Option Answered) TalkFault → List (Option C) → List (Option C) → Type 0
  LineAnswered Silent answer numbered numbered' = (answer ≡ Ok None) × (numbered' ≡ numbered)
  LineAnswered Connect answer numbered numbered' =
      (reply : Result Reply TalkFault) × (answer ≡ shown reply) × ConnectAnswered reply numbered numbered'
  LineAnswered (Hangup n) answer numbered numbered' =
      (answer ≡ Ok (Some (answered.Reply (plain (pos 0))))) × (numbered' ≡ with_at (index_of n) None numbered)
  LineAnswered (Call n request) answer numbered numbered' =
      (reply : Result Reply TalkFault) × (answer ≡ shown reply) × CallAnswered n (question.Call request) reply numbered numbered'
  LineAnswered (Status n) answer numbered numbered' =
      (reply : Result Reply TalkFault) × (answer ≡ shown reply) × CallAnswered n question.Status reply numbered numbered'
  LineAnswered (Control n asked) answer numbered numbered' = ControlAnswered n asked answer numbered numbered'
  -- it isn't in the grammar, or speaks of what only disks in memory have
  LineAnswered said answer numbered numbered' = (answer ≡ Ok (Some (answered.Reply bad_frame))) × (numbered' ≡ numbered)
