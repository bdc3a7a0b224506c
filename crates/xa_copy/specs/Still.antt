-- A file that nobody writes to.
use Rattle.std.specs.Prelude.{List, ℕ}
use Rattle.xa_log.specs.Believed.Chain.{logged}
use Rattle.xa_log.specs.Believed.Generation.{generation}
use Rattle.xa_copy.specs.Moving.{State}

-- its generation is that of the log that it is
abbrev pub state_of : List ℕ → State
state_of file = record { life = generation (logged file); file = file }
