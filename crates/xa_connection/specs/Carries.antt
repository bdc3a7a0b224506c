-- What a connection has carried since it was new.
use Rattle.std.specs.Prelude.{ℕ, ◌≡◌, ◌⊎◌, ◌≤◌, List, [], ◌∷◌, ◌++◌, length, take, drop, All, Option, Some, None}
use Rattle.std.specs.List.{flat_map}
use Rattle.xa_control.specs.declared.answer.Answer.{Answer}
use Rattle.xa_control.specs.declared.control.Control.{Control}
use Rattle.xa_control.specs.Controls.{SpellsControl}
use Rattle.xa_frame.specs.declared.question.Question.{Question}
use Rattle.xa_frame.specs.declared.reply.Reply.{Reply}
use Rattle.xa_frame.specs.Made.{bad_frame}
use Rattle.xa_desk.specs.declared.served.Served.{Served}
use Rattle.xa_desk.specs.declared.served.Served.TheVariants.{TooLong, Memory}
use Rattle.xa_desk.specs.Believed.Frames.{frame, reply_frame}
use Rattle.xa_desk.specs.Believed.Serving.{IsShort, Owes, frames_of}
use Rattle.xa_roles.specs.declared.role.Role.{Role}
use Rattle.xa_connection.specs.Believed.Access.{AnswersAllTo}
use Rattle.xa_connection.specs.declared.answering.Answering.{Answering}
use Rattle.xa_connection.specs.declared.answering.Answering.TheVariants.{Idle, Answered, Memory as Wanted}
use Rattle.xa_connection.specs.declared.connection.Connection.{Connection}
use Rattle.xa_connection.specs.declared.connection.TheConstants.{MOST_INPUT}
use Rattle.xa_connection.specs.Fronts.{BeginsTooLong}
use Rattle.xa_connection.specs.Calls.{AnswersServer, Feeds, IsReady, Turns, answer_frame, new_connection}

-- what was sent and what has to be sent are the frames of these replies, in order, and at most the last of them is
-- under way
pub record Delivers (replies : List Reply) (sent unsent : List ℕ) : Type 0 where
  pub in_order : frames_of replies ≡ sent ++ unsent
  pub last : (unsent ≡ [])
      ⊎ ((before : List Reply) × (reply : Reply) × (part : List ℕ) × (replies ≡ before ++ reply ∷ [])
      × (sent ≡ frames_of before ++ part) × (reply_frame reply ≡ part ++ unsent))

-- by its end: the replies to the frames that were answered, and one to a length that is too great; of those that are
-- owed the last found no memory
abbrev pub Sends : Option Served → List Reply → List ℕ → List ℕ → List ℕ → Type 0
Sends None replies input sent unsent = Delivers replies sent unsent
Sends (Some TooLong) replies input sent unsent = BeginsTooLong input × Delivers (replies ++ bad_frame ∷ []) sent unsent
Sends (Some Memory) replies input sent unsent =
    (before : List Reply) × (reply : Reply) × (read : List ℕ) × (rest : List ℕ) × (input ≡ read ++ rest)
    × Owes replies read (before ++ reply ∷ []) × (sent ≡ frames_of before) × (unsent ≡ [])
Sends (Some end) replies input sent unsent = ⊥

-- the contents that were answered, with their replies, of all the bytes that it was fed and those that were sent
pub record Carries (contents : List (List ℕ)) (replies : List Reply) (fed sent : List ℕ) (c : Connection) : Type 0 where
  pub short : All IsShort contents
  -- the frames that were answered, and after them the one that is under way and the rest
  pub fed_is : fed ≡ flat_map frame contents ++ c.input
  pub sends : Sends c.end replies c.input sent c.output
  pub bounded : length c.input ≤ MOST_INPUT

-- by whether there was memory for its frame: the answer has to be sent, or it ends without it
abbrev pub Owed : Answering → Answer → Connection → Type 0
Owed Idle answer c = ⊥
Owed Answered answer c = (c.output ≡ answer_frame answer) × (c.end ≡ None)
Owed Wanted answer c = (c.output ≡ []) × (c.end ≡ Some Memory)

-- after contents and their replies, which were all sent, the server answered what it was asked itself
pub record CarriesControl (contents : List (List ℕ)) (replies : List Reply) (fed sent : List ℕ) (control : Control) (answer : Answer)
    (answering : Answering) (c : Connection) : Type 0 where
  pub short : All IsShort contents
  pub content : List ℕ
  pub asked : SpellsControl content control
  pub fed_is : fed ≡ flat_map frame (contents ++ content ∷ []) ++ c.input
  pub sent_is : sent ≡ frames_of replies
  pub owed : Owed answering answer c
  pub bounded : length c.input ≤ MOST_INPUT

-- so it begins, and stays with each call of who has shown this; an answer adds what the door was asked and has answered, if anything; an answer
-- of the server's own comes after all that was carried, and what is carried may be told anew from any moment at which
-- nothing has to be sent, as once that answer was
pub record CarriesLaw {D : Type 0} (standing : Option Role) (called : D → Question → Reply → D → Type 0) : Type 0 where
  pub begins : Carries [] [] [] [] new_connection
  pub fed : (contents : List (List ℕ)) (replies : List Reply) (fed sent bytes : List ℕ) (count : ℕ) (c c' : Connection)
      → Carries contents replies fed sent c → Feeds c bytes count c'
      → Carries contents replies (fed ++ take count bytes) sent c'
  pub answered : (contents : List (List ℕ)) (replies : List Reply) (fed sent : List ℕ) (answering : Answering)
      (c c' : Connection) (d e : D) → Carries contents replies fed sent c → Turns standing called c d answering c' e
      → (asked : List (List ℕ)) × (answered : List Reply) × AnswersAllTo standing called d asked answered e
      × Carries (contents ++ asked) (replies ++ answered) fed sent c'
  pub sent : (contents : List (List ℕ)) (replies : List Reply) (fed sent : List ℕ) (count : ℕ) (c : Connection)
      → Carries contents replies fed sent c
      → Carries contents replies fed (sent ++ take count c.output) (record c { output = drop count c.output })
  pub controlled : (contents : List (List ℕ)) (replies : List Reply) (fed sent : List ℕ) (control : Control) (answer : Answer)
      (answering : Answering) (c c' : Connection) → Carries contents replies fed sent c
      → AnswersServer c control answer answering c'
      → CarriesControl contents replies fed sent control answer answering c'
  pub anew : (c : Connection) → IsReady c → length c.input ≤ MOST_INPUT → Carries [] [] c.input [] c
