-- The messages of a login: few bytes, carried as they are.
use Rattle.std.specs.Prelude.{ℕ, ◌<◌, ◌≤◌, List, All, length}
use Rattle.xa_control.specs.declared.message.TheConstants.{MOST_MESSAGE}

pub record IsMessage (message : List ℕ) : Type 0 where
  pub few : length message ≤ MOST_MESSAGE
  pub bytes : All (λ b. b < 256) message
