-- Bytes that are read, one step after another.
use Rattle.std.proofs.Common.{ℕ, List, [], ◌++◌, Option, Some, None, refl, sym, ap, ◌∙◌, append_assoc}
use Rattle.std.specs.Io.KnownBytes.{Consumes}

pub consumes-none : (x : Option (List ℕ)) → Consumes x x []
consumes-none None = tt
consumes-none (Some xs) = refl

pub consumes-twice : (x y z : Option (List ℕ)) (bs cs : List ℕ) → Consumes x y bs → Consumes y z cs → Consumes x z (bs ++ cs)
consumes-twice None y z bs cs h k = tt
consumes-twice (Some xs) None z bs cs h k = absurd h
consumes-twice (Some xs) (Some ys) None bs cs h k = absurd k
consumes-twice (Some xs) (Some ys) (Some zs) bs cs h k = h ∙ ap (λ ws. bs ++ ws) k ∙ sym (append_assoc bs cs zs)
