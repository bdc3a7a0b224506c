-- A task is asked of a server over one connection.
use Rattle.std.specs.Io.KnownBytes.{Appends, Keeps}
use Rattle.std.specs.Prelude.{ℕ, ◌≡◌, ◌⊎◌, ◌-◌, ◌^◌, true, false, List, [], ◌∷◌, ◌++◌, length, Option, Result, Ok, Err, IsErrOf}
use Rattle.xa_output.specs.Output.{IsFront}
use Rattle.xa_talk.specs.declared.answered.Answered.{Answered}
use Rattle.xa_talk.specs.declared.fault.TalkFault.{TalkFault}
use Rattle.xa_talk.specs.declared.fault.TalkFault.TheVariants.{Connect, Memory, Write}
use Rattle.xa_operate.specs.Agendas.{asked_first, behind}
use Rattle.xa_operate.specs.Askings.{Brings}
use Rattle.xa_operate.specs.Answers.{answers, refusal}
use Rattle.xa_operate.specs.Shown.{shown}
use Rattle.xa_operate.specs.declared.asking.Asking.{Asking}
use Rattle.xa_operate.specs.declared.fault.OperateFault.{OperateFault}
use Rattle.xa_operate.specs.declared.fault.OperateFault.TheVariants.{Declined, Refused, Talk}
use Rattle.xa_operate.specs.declared.format.Format.{Format}
use Rattle.xa_operate.specs.declared.task.Task.{Task}

-- the program's status: 0 where a task is done, 1 where the server refused it or it wasn't asked for, 3 where that isn't known
abbrev pub status_of : {X : Type 0} → Result X OperateFault → ℕ
status_of (Ok x) = 0
status_of (Err (Refused code detail)) = 1
status_of (Err Declined) = 1
status_of (Err (Talk fault)) = 3

-- a text is printed whole, or some first bytes of it
abbrev pub Prints : {X : Type 0} → Result X OperateFault → List ℕ → Option (List ℕ) → Option (List ℕ) → Type 0
Prints (Ok x) text output output' = Appends output output' text
Prints (Err fault) text output output' =
    (fault ≡ Talk Write) × ((part : List ℕ) × IsFront part text × Appends output output' part)

-- of a task in a format, over connections, with what was sent over one, and what can still be read from it
module _ {C : Type 0} (format : Format) (task : Task) (sent left : C → Option (List ℕ)) where
  -- A question went over the connection, and the reply that came back says that it is done.
  pub record IsDone (question : Asking) (reply : Answered) (c c' : C) : Type 0 where
    pub exchanged : Brings question (Ok reply) (sent c) (sent c') (left c) (left c')
    pub done : answers task question reply ≡ true

  -- So many questions were done, one after the other, by their replies: the first of those that were to be asked, then those
  -- that the answers led to. What is printed is the text of each answer.
  abbrev pub AreDone : List Asking → List Answered → List Asking → List ℕ → C → C → Type 0
  AreDone agenda [] agenda' text c c' = (agenda' ≡ agenda) × (text ≡ []) × (c' ≡ c)
  AreDone [] (reply ∷ replies) agenda' text c c' = ⊥
  AreDone (question ∷ agenda) (reply ∷ replies) agenda' text c c' =
      (over : C) × (others : List ℕ) × IsDone question reply c over
      × (text ≡ shown format task question reply ++ others)
      × AreDone (agenda ++ behind task reply) replies agenda' others over c'

  -- why a question that was asked isn't done: the server refused it so
  pub record IsRefused (question : Asking) (end : OperateFault) (c c' : C) : Type 0 where
    pub reply : Answered
    pub exchanged : Brings question (Ok reply) (sent c) (sent c') (left c) (left c')
    pub refused : answers task question reply ≡ false
    pub told : end ≡ refusal reply

  -- the connection didn't bring its reply
  pub record IsUnanswered (question : Asking) (end : OperateFault) (c c' : C) : Type 0 where
    pub fault : TalkFault
    pub exchanged : Brings question (Err fault) (sent c) (sent c') (left c) (left c')
    pub told : end ≡ Talk fault

  -- it is done, but its answer couldn't be printed whole, or what it led to couldn't be kept
  pub record IsUnprinted (question : Asking) (end : OperateFault) (text : List ℕ) (c c' : C) : Type 0 where
    pub reply : Answered
    pub done : IsDone question reply c c'
    pub part : IsFront text (shown format task question reply)
    pub told : (end ≡ Talk Write) ⊎ (end ≡ Talk Memory)

  -- by the end of a question: it is done and printed, and what it led to is to be asked; or it failed
  abbrev pub QuestionEnds : {X : Type 0} → Asking → Result X OperateFault → List Asking → List Asking → List ℕ → C → C
      → Type 0
  QuestionEnds question (Ok x) agenda agenda' text c c' =
      (reply : Answered) × IsDone question reply c c' × (text ≡ shown format task question reply)
      × (agenda' ≡ agenda ++ behind task reply)
  QuestionEnds question (Err fault) agenda agenda' text c c' =
      ((text ≡ []) × IsRefused question fault c c')
      ⊎ (((text ≡ []) × IsUnanswered question fault c c') ⊎ IsUnprinted question fault text c c')

  -- By the end of a task, after this many questions that are done. Ok: none is left. A fault: the next one failed so, or no
  -- more can be counted.
  abbrev pub TaskEnds : {X : Type 0} → Result X OperateFault → List Asking → ℕ → List ℕ → C → C → Type 0
  TaskEnds (Ok x) agenda n text c c' = (agenda ≡ []) × (text ≡ []) × (c' ≡ c)
  TaskEnds (Err fault) [] n text c c' = (n ≡ 2 ^ 64 - 1) × (text ≡ [])
  TaskEnds (Err fault) (question ∷ agenda) n text c c' =
      ((n ≡ 2 ^ 64 - 1) × (text ≡ []))
      ⊎ QuestionEnds {X = Unit {0}} question (Err fault) agenda agenda text c c'

  -- A task's questions go over a connection, up to its end, and what is printed is the text of their answers.
  pub record AskedOver {X : Type 0} (name : List ℕ) (end : Result X OperateFault) (output output' : Option (List ℕ))
      : Type 0 where
    pub replies : List Answered
    pub agenda : List Asking
    pub text : List ℕ
    pub last : List ℕ
    pub c : C
    pub behind : C
    pub c' : C
    pub done : AreDone (asked_first name task) replies agenda text c behind
    pub ended : TaskEnds end agenda (length replies) last behind c'
    pub written : Appends output output' (text ++ last)

  -- the same, or no connection could be opened, or there was no memory: then nothing is asked and nothing printed
  abbrev pub Operates : {X : Type 0} → List ℕ → Result X OperateFault → Option (List ℕ) → Option (List ℕ) → Type 0
  Operates name end output output' =
      ((IsErrOf end (Talk Connect) ⊎ IsErrOf end (Talk Memory)) × Keeps output output')
      ⊎ AskedOver name end output output'
