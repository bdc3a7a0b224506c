-- What is said of each reply of a manager, whatever it stands for.
use Rattle.std.specs.Prelude.{◌≡◌}
use Rattle.xa_frame.specs.Limits.{IsReply}
use Rattle.xa_frame.specs.declared.reply.Reply.{Reply}

-- it has no place in a history yet, and is within the limits of what frames spell
pub record IsFresh (reply : Reply) : Type 0 where
  pub place : reply.place ≡ 0
  pub limits : IsReply reply
