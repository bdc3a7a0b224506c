-- Texts that are written one after the other.
use Rattle.std.proofs.Common.{◌≡◌, ◌++◌, ◌∙◌, ℕ, List, Result, Ok, Err, ap, append_assoc}
use Rattle.std.specs.Prelude.{OnOk}

-- one text more, after those that were written
pub further : (old mid new a b : List ℕ) → mid ≡ old ++ a → new ≡ mid ++ b → new ≡ old ++ (a ++ b)
further old mid new a b first second = second ∙ (ap (λ (l : List ℕ). l ++ b) first ∙ append_assoc old a b)

-- the last one, whose result is given on
pub behind : {X E : Type 0} (r : Result X E) (old mid new a b : List ℕ) → mid ≡ old ++ a → OnOk r (new ≡ mid ++ b) → OnOk r (new ≡ old ++ (a ++ b))
behind (Ok x) old mid new a b first second = further old mid new a b first second
behind (Err e) old mid new a b first second = tt
