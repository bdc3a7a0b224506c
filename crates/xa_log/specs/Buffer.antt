-- What a log's buffer has room for.
use Rattle.std.specs.Prelude.{◌⊎◌, ℕ, ◌+◌, ◌≤◌, List, length}
use Rattle.std.specs.List.{AllByRecursion}
use Rattle.xa_limits.specs.declared.TheConstants.{AROUND_BODY, AROUND_CLOSED, MOST_BODY_OF_ONE}
use Rattle.xa_log.specs.declared.ahead.TheConstants.{READY_BYTES}
use Rattle.xa_log.specs.declared.checkpointing.TheConstants.{CLEARED_BYTES}
use Rattle.xa_log.specs.Believed.LogView.{LogView}

-- A record with a body of this many bytes, its closing length and the zeros that make a file ready: one that has no
-- more than a body of format 1 always.
abbrev pub Holds : {D : Type 0} → LogView D → ℕ → Type 0
Holds log n = (n ≤ MOST_BODY_OF_ONE) ⊎ (AROUND_CLOSED + n + READY_BYTES ≤ log.room)

-- each of these bodies' records
abbrev pub HoldsEach : {D : Type 0} → LogView D → List (List ℕ) → Type 0
HoldsEach log bodies = AllByRecursion (λ body. Holds log (length body)) bodies

-- what it had room for it still has room for
abbrev pub KeepsRoom : {D : Type 0} → LogView D → LogView D → Type 0
KeepsRoom old new = (n : ℕ) → Holds old n → Holds new n

-- records of these bodies, each with the zeros that a checkpoint's last one has, in a buffer of this many bytes
abbrev pub EachFits : ℕ → List (List ℕ) → Type 0
EachFits room bodies = AllByRecursion (λ body. AROUND_BODY + CLEARED_BYTES + length body ≤ room) bodies
