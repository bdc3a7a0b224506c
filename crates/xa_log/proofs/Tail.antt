-- A record's bytes in the buffer, from one offset on.
use Rattle.std.proofs.Common.{◌≡◌, ℕ, ◌+◌, List, [], ◌∷◌, ◌++◌, length, take, drop, replicate, sym, ◌∙◌, ap, arith}
use Rattle.std.proofs.lemmas.List.{take-take, take_at, drop-take}
use Rattle.xa_log.specs.Believed.Chain.{record_of}
use Rattle.xa_log.specs.Believed.Checkpoint.{tailed}
use Rattle.xa_log.proofs.Records.{length-record_of}

-- with this many zeros over what stood after it
pub tail_slice : (prev body buffer cleared : List ℕ) (zeros skip m : ℕ) → take (40 + length body) buffer ≡ record_of prev body ++ 0 ∷ 0 ∷ 0 ∷ 0 ∷ []
    → take (36 + length body + zeros) cleared ≡ take (36 + length body) buffer ++ replicate zeros 0
    → skip + m ≡ 36 + length body + zeros → take m (drop skip cleared) ≡ drop skip (tailed prev body zeros)
tail_slice prev body buffer cleared zeros skip m front zeroed whole =
    let r : List ℕ = record_of prev body in
    let n : length (record_of prev body) ≡ 36 + length body = omega (arith, length-record_of prev body) in
    sym (drop-take skip m cleared)
    ∙ ap (λ (l : List ℕ). drop skip l)
    (ap (λ (k : ℕ). take k cleared) whole ∙ zeroed
    ∙ ap (λ (l : List ℕ). l ++ replicate zeros 0)
    (sym (take-take (36 + length body) (40 + length body) buffer (omega arith))
    ∙ ap (λ (l : List ℕ). take (36 + length body) l) front ∙ take_at r (0 ∷ 0 ∷ 0 ∷ 0 ∷ []) (36 + length body) n))
