-- What a loop does at its door beside the connections.
use Rattle.std.specs.Prelude.{ℕ, ◌≡◌, ◌⊎◌, List, Result, Ok, Err}
use Rattle.xa_assoc.specs.declared.fault.ConnectFault.{ConnectFault}
use Rattle.xa_desk.specs.Believed.Serving.{Answers}
use Rattle.xa_frame.specs.declared.reply.Reply.{Reply}
use Rattle.xa_frame.specs.declared.question.Question.{Question}

-- by what a connect, a call of a session and its hang-up do at the door
module _ {D : Type 0} (connected : D → Result ℕ ConnectFault → D → Type 0)
    (called : ℕ → D → Question → Reply → D → Type 0) (left : ℕ → D → D → Type 0) where
  -- A session was connected, answered one content, and hung up.
  pub record Visits (content : List ℕ) (d : D) (reply : Reply) (e : D) : Type 0 where
    pub session : ℕ
    pub came : D
    pub asked : D
    pub connects : connected d (Ok session) came
    pub answers : Answers (called session) came content reply asked
    pub leaves : left session asked e

  -- so it was, or no session was connected
  abbrev pub HasVisited : List ℕ → D → Result Reply ConnectFault → D → Type 0
  HasVisited content d (Ok reply) e = Visits content d reply e
  HasVisited content d (Err fault) e = connected d (Err fault) e

  -- nothing, or one visit
  abbrev pub IsAside : List ℕ → D → D → Type 0
  IsAside content d e = (d ≡ e) ⊎ ((answered : Result Reply ConnectFault) × HasVisited content d answered e)
