-- What a door keeps.
use Rattle.std.specs.Prelude.{ℕ, Result}
use Rattle.xa_assoc.specs.declared.fault.ConnectFault.{ConnectFault}
use Rattle.xa_frame.specs.declared.question.Question.{Question}
use Rattle.xa_frame.specs.declared.reply.Reply.{Reply}

-- Where nothing that was posted was left to be answered, nothing is after a connect, after a call and after a hang-up.
pub record KeepsSettled {D : Type 0} (connected : D → Result ℕ ConnectFault → D → Type 0)
    (called : ℕ → D → Question → Reply → D → Type 0) (left : ℕ → D → D → Type 0) (is_settled : D → Type 0) : Type 0 where
  pub connect : (d e : D) (result : Result ℕ ConnectFault) → connected d result e → is_settled d → is_settled e
  pub call : (session : ℕ) (d e : D) (question : Question) (reply : Reply) → called session d question reply e
      → is_settled d → is_settled e
  pub hangup : (session : ℕ) (d e : D) → left session d e → is_settled d → is_settled e
