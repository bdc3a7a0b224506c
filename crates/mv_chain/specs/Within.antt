-- How long the values are that are kept.
use Rattle.std.specs.Prelude.{ℕ, ◌≤◌, List, length, Option, IfSome}
use Rattle.mv_chain.specs.declared.pool.Pool.{Pool}
use Rattle.mv_chain.specs.Pool.{version_at}

-- a value of at most n bytes, or none
abbrev pub IsShort : ℕ → Option (List ℕ) → Type 0
IsShort n value = IfSome value (λ v. length v ≤ n)

-- every value of every chain has at most n bytes
abbrev pub IsWithin : ℕ → Pool → Type 0
IsWithin n pool = (slot : ℕ) → IsShort n (version_at pool slot).value

-- whatever bound the values were within, they still are
abbrev pub KeepsWithin : Pool → Pool → Type 0
KeepsWithin old new = (n : ℕ) → IsWithin n old → IsWithin n new
