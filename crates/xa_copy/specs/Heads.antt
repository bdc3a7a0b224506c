-- The first record of a file, by which the current one of two is told.
use Rattle.std.specs.Prelude.{◌≡◌, ◌⊎◌, ℕ, false, true, nat_le, Bool, List, [], ◌∷◌, Option, Some, None}
use Rattle.xa_log.specs.Believed.Chain.{logged, text}
use Rattle.xa_log.specs.Believed.Pair.{has_log}
use Rattle.xa_log.specs.Believed.Generation.{number_in}
use Rattle.xa_copy.specs.declared.head.Head.{Head}
use Rattle.xa_copy.specs.Moving.{HasLog}

-- the file is a log with this first record; its bytes, with the format's name before it, and its number
pub record Heads (file : List ℕ) (head : Head) : Type 0 where
  pub body : List ℕ
  pub log : HasLog head.format (body ∷ []) file
  pub front : head.front.items ≡ text head.format (body ∷ [])
  pub number : head.generation ≡ number_in body

-- or it is no log with a record
abbrev pub IsHead : List ℕ → Option Head → Type 0
IsHead file None = (has_log file ≡ false) ⊎ (logged file ≡ [])
IsHead file (Some head) = Heads file head

-- of two files, of which one has a record at least, the first one is the current one
abbrev pub is_first : Option Head → Option Head → Bool
is_first None other = false
is_first (Some head) None = true
is_first (Some head) (Some other) = nat_le other.generation head.generation
