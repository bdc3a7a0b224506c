-- What is written of one line, and of a script.
use Rattle.std.specs.Io.{StopsAt}
use Rattle.std.specs.Io.BufRead.{strip_last, take_through}
use Rattle.std.specs.Io.KnownBytes.{Appends, Consumes, IsAtEnd, Keeps}
use Rattle.std.specs.Ordering.{int_eq}
use Rattle.std.specs.Prelude.{ℕ, ◌≡◌, ◌<◌, ◌⊎◌, pos, Bool, true, false, not, ◌&&◌, List, [], ◌∷◌, ◌++◌, length, Option, Some, None, IfSome, Result, Ok, Err, IsErrOf, MatchBool}
use Rattle.xa_codes.specs.declared.codes.TheConstants.{XA_RDONLY}
use Rattle.xa_control.specs.declared.answer.Answer.{Answer}
use Rattle.xa_control.specs.declared.answer.Answer.TheVariants as own
use Rattle.xa_frame.specs.declared.body.Body.{Body}
use Rattle.xa_frame.specs.declared.body.Body.TheVariants.{Xids}
use Rattle.xa_frame.specs.declared.reply.Reply.{Reply}
use Rattle.xa_output.specs.Output.{IsFront}
use Rattle.xa_script.specs.Answers.{answer_line}
use Rattle.xa_script.specs.Lines as lines
use Rattle.xa_script.specs.Replies as replies
use Rattle.xa_script.specs.Requests.{ReadsTexts}
use Rattle.xa_script.specs.declared.style.Style.{Style}
use Rattle.xa_xid.specs.Triple.{Triple}
use Rattle.xa_talk.specs.declared.answered.Answered.{Answered}
use Rattle.xa_talk.specs.declared.answered.Answered.TheVariants as answered
use Rattle.xa_talk.specs.declared.fault.TalkFault.{TalkFault}
use Rattle.xa_talk.specs.declared.fault.TalkFault.TheVariants.{Memory, Read, Refused, Write}
use Rattle.xa_talk.specs.declared.manner.Manner.{Manner}
use Rattle.xa_talk.specs.Answers.{LineAnswered}
use Rattle.xa_talk.specs.Help.{asks_help, help_text}

abbrev pub is_listing : Body → Bool
is_listing (Xids xids) = true
is_listing _ = false

-- A reply is an error: its code is neither 0 nor that of a branch that has nothing to commit, nor how many XIDs are listed.
abbrev pub refuses : Reply → Bool
refuses reply = (not (int_eq reply.code (pos 0)) && not (int_eq reply.code XA_RDONLY)) && not (is_listing reply.body)

abbrev pub is_refusal : Answer → Bool
is_refusal (own.Refused code detail) = true
is_refusal _ = false

-- what a line is answered is an error
abbrev pub is_error : Answered → Bool
is_error (answered.Reply reply) = refuses reply
is_error (answered.Control answer) = is_refusal answer

-- a script that is talked strictly ends at an error
abbrev pub ends_at : Bool → Answered → Bool
ends_at strict answer = strict && is_error answer

-- the line that shows it in a style
abbrev pub answered_line : Style → Answered → List ℕ
answered_line style (answered.Reply reply) = replies.line_in style reply
answered_line style (answered.Control answer) = answer_line style.has_names answer

-- The line of an answer is written, and the script ends there if it is an error and the script is talked strictly. Where it
-- failed, nothing, without memory, or some first bytes.
abbrev pub Shows : {X : Type 0} → Manner → Answered → Result X TalkFault → List ℕ → Type 0
Shows manner answer (Ok x) text =
    (text ≡ answered_line manner.style answer) × (ends_at manner.is_strict answer ≡ false)
Shows manner answer (Err Refused) text =
    (text ≡ answered_line manner.style answer) × (ends_at manner.is_strict answer ≡ true)
Shows manner answer (Err Memory) text = text ≡ []
Shows manner answer (Err Write) text = IsFront text (answered_line manner.style answer)
Shows manner answer (Err fault) text = ⊥

-- what is written after an answer: nothing where there is none, and a fault is told on
abbrev pub ShowsAnswer : {X : Type 0} → Manner → Result (Option Answered) TalkFault → Result X TalkFault → List ℕ → Type 0
ShowsAnswer manner (Ok None) (Ok x) text = text ≡ []
ShowsAnswer manner (Ok None) (Err fault) text = ⊥
ShowsAnswer manner (Ok (Some answer)) end text = Shows manner answer end text
ShowsAnswer manner (Err fault) (Ok x) text = ⊥
ShowsAnswer manner (Err fault) (Err told) text = (told ≡ fault) × (text ≡ [])

-- the calls are written whole, or some first bytes
abbrev pub Helps : {X : Type 0} → Result X TalkFault → List ℕ → Type 0
Helps (Ok x) text = text ≡ help_text
Helps (Err Write) text = IsFront text help_text
Helps (Err fault) text = ⊥

-- A line is answered as its definition says, and the answer is shown; or there was no memory to read it.
abbrev pub LineAsked : {C X : Type 0} → Manner → (C → Option (List ℕ)) → (C → Option (List ℕ)) → List ℕ → Result X TalkFault
    → List ℕ → List (Option C) → List (Option C) → Type 0
LineAsked manner sent left line end text numbered numbered' =
    (IsErrOf end Memory × (text ≡ []) × (numbered' ≡ numbered))
    ⊎ ((answer : Result (Option Answered) TalkFault) × ShowsAnswer manner answer end text
    × ((xid_of : List ℕ → Option Triple) → ReadsTexts xid_of
    → LineAnswered sent left (lines.line_of xid_of line) answer numbered numbered'))

-- the same, but that who types a script is shown its calls
abbrev pub LineTalked : {C X : Type 0} → Manner → (C → Option (List ℕ)) → (C → Option (List ℕ)) → List ℕ → Result X TalkFault
    → List ℕ → List (Option C) → List (Option C) → Type 0
LineTalked manner sent left line end text numbered numbered' =
    MatchBool (asks_help manner.is_typed line) (Helps end text × (numbered' ≡ numbered))
    (LineAsked manner sent left line end text numbered numbered')

-- The next line is read, with the line feed that ends it, which the last one may lack. What is known of the input
-- begins so.
pub record ReadsLine (input : Option (List ℕ)) (line : List ℕ) (input' : Option (List ℕ)) : Type 0 where
  pub some : 0 < length line
  pub stops : StopsAt line 10
  pub first : IfSome input (λ bytes. line ≡ take_through 10 bytes)
  pub taken : Consumes input input' line

-- the faults of a reading: it failed, or it found no memory
abbrev pub IsReadFault : TalkFault → Type 0
IsReadFault Read = Unit {0}
IsReadFault Memory = Unit {0}
IsReadFault _ = ⊥

-- what was read by a reading that failed
abbrev pub ReadsPart : Option (List ℕ) → Option (List ℕ) → Type 0
ReadsPart input input' = (part : List ℕ) × Consumes input input' part

-- by the end of a reading: a line, or there was none, or it failed
abbrev pub NextRead : Result Bool TalkFault → Option (List ℕ) → List ℕ → Option (List ℕ) → Type 0
NextRead (Ok true) input line input' = ReadsLine input line input'
NextRead (Ok false) input line input' = IsAtEnd input × Keeps input input'
NextRead (Err fault) input line input' = IsReadFault fault × ReadsPart input input'

-- in a manner, over connections, with what was sent over one, and what can still be read from it
module _ {C : Type 0} (manner : Manner) (sent left : C → Option (List ℕ)) where
  -- Lines are read and talked, one after the other: each is talked to its end before the next one is read.
  abbrev pub LinesTalked : Option (List ℕ) → List (Option C) → List (List ℕ) → List ℕ → Option (List ℕ)
      → List (Option C) → Type 0
  LinesTalked input numbered [] text input' numbered' = (text ≡ []) × (input' ≡ input) × (numbered' ≡ numbered)
  LinesTalked input numbered (line ∷ lines) text input' numbered' =
      (behind : Option (List ℕ)) × (first : List ℕ) × (others : List ℕ) × (next : List (Option C))
      × ReadsLine input line behind
      × LineTalked {X = Unit {0}} manner sent left (strip_last 10 line) (Ok tt) first numbered next
      × (text ≡ first ++ others) × LinesTalked behind next lines others input' numbered'

  -- By the end of a script, what became of the next line. Ok: there is none. A fault: it couldn't be read, or it was
  -- read, and its talk ended so.
  abbrev pub NextEnds : {X : Type 0} → Result X TalkFault → Option (List ℕ) → List (Option C) → List ℕ
      → Option (List ℕ) → Type 0
  NextEnds (Ok x) input numbered text input' = (text ≡ []) × IsAtEnd input × Keeps input input'
  NextEnds (Err fault) input numbered text input' =
      ((text ≡ []) × IsReadFault fault × ReadsPart input input')
      ⊎ ((line : List ℕ) × (numbered' : List (Option C)) × ReadsLine input line input'
      × LineTalked {X = Unit {0}} manner sent left (strip_last 10 line) (Err fault) text numbered numbered')

  -- A script is talked, from no connections on: this many lines to their ends, and then the next one as the end says.
  -- What is written is the text of each, in their order.
  pub record Talks {X : Type 0} (end : Result X TalkFault) (input input' output output' : Option (List ℕ))
      : Type 0 where
    pub lines : List (List ℕ)
    pub text : List ℕ
    pub behind : Option (List ℕ)
    pub numbered : List (Option C)
    pub talked : LinesTalked input [] lines text behind numbered
    pub last : List ℕ
    pub ended : NextEnds end behind numbered last input'
    pub written : Appends output output' (text ++ last)
