-- Replies to calls that were asked together, each with the place of its call among them.
use Rattle.std.specs.Prelude.{ℕ, ◌≢◌, List, [], ◌∷◌}
use Rattle.std.specs.List.{AllByRecursion}
use Rattle.xa_frame.specs.declared.reply.Reply.{Reply}

-- no call is replied twice
abbrev pub AreOnce : List (ℕ × Reply) → Type 0
AreOnce [] = Unit {0}
AreOnce (r ∷ rs) = AllByRecursion (λ q. q.0 ≢ r.0) rs × AreOnce rs
