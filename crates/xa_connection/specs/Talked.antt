-- What a connection and a door of its own have done since it was new.
use Rattle.std.specs.Prelude.{ℕ, ◌≡◌, ◌≢◌, List, [], ◌++◌, take, drop, Option, Some, None}
use Rattle.xa_frame.specs.declared.question.Question.{Question}
use Rattle.xa_frame.specs.declared.reply.Reply.{Reply}
use Rattle.xa_desk.specs.declared.served.Served.{Served}
use Rattle.xa_desk.specs.declared.served.Served.TheVariants.{Ended, ReadFault, WriteFault, TooLong, Memory}
use Rattle.xa_desk.specs.Believed.Serving.{IsCut, Talks}
use Rattle.xa_roles.specs.declared.role.Role.{Role}
use Rattle.xa_roles.specs.declared.role.Role.TheVariants.{Operator}
use Rattle.xa_connection.specs.Believed.Access.{AnswersAllTo}
use Rattle.xa_connection.specs.declared.answering.Answering.{Answering}
use Rattle.xa_connection.specs.declared.connection.Connection.{Connection}
use Rattle.xa_connection.specs.Calls.{Feeds, Turns, new_connection}
use Rattle.xa_connection.specs.Carries.{Carries}

-- of all the bytes that it was fed by who has shown this, those that were sent, and the door from its first call on
pub record HasTalked {D : Type 0} (standing : Option Role) (called : D → Question → Reply → D → Type 0) (first : D) (fed sent : List ℕ) (c : Connection) (d : D) : Type 0 where
  pub contents : List (List ℕ)
  pub replies : List Reply
  pub answered : AnswersAllTo standing called first contents replies d
  pub carries : Carries contents replies fed sent c

-- its end: None if it goes on, otherwise by what its peer sent or took, or its own
abbrev pub HasEnded : Option Served → Connection → Type 0
HasEnded None c = (c.end ≡ None) × (c.output ≡ [])
HasEnded (Some Ended) c = (c.end ≡ None) × (c.output ≡ []) × (c.input ≡ [])
HasEnded (Some ReadFault) c = (c.end ≡ None) × (c.output ≡ []) × IsCut c.input
HasEnded (Some WriteFault) c = c.output ≢ []
HasEnded (Some TooLong) c = (c.end ≡ Some TooLong) × (c.output ≡ [])
HasEnded (Some Memory) c = c.end ≡ Some Memory

-- so it begins, and stays with each call; and with its end, where all may be asked, `serve` says the same of a reader
-- that had what was fed, of which it left the rest, and of a writer that took what was sent
pub record TalkedLaw {D : Type 0} (standing : Option Role) (called : D → Question → Reply → D → Type 0) : Type 0 where
  pub begins : (d : D) → HasTalked standing called d [] [] new_connection d
  pub fed : (first d : D) (fed sent bytes : List ℕ) (count : ℕ) (c c' : Connection) → HasTalked standing called first fed sent c d
      → Feeds c bytes count c' → HasTalked standing called first (fed ++ take count bytes) sent c' d
  pub answered : (first d e : D) (fed sent : List ℕ) (answering : Answering) (c c' : Connection)
      → HasTalked standing called first fed sent c d → Turns standing called c d answering c' e → HasTalked standing called first fed sent c' e
  pub sent : (first d : D) (fed sent : List ℕ) (count : ℕ) (c : Connection) → HasTalked standing called first fed sent c d
      → HasTalked standing called first fed (sent ++ take count c.output) (record c { output = drop count c.output }) d
  pub ended : (first d : D) (fed sent : List ℕ) (c : Connection) (end : Option Served) → HasTalked standing called first fed sent c d
      → HasEnded end c → standing ≡ Some Operator
      → (most : ℕ) × (rest : List ℕ) × Talks called most end (Some fed) (Some rest) (Some []) (Some sent) first d
