-- What a client's last message is made of.
use Rattle.std.proofs.Common.{◌≡◌, ℕ, List, [], ◌∷◌, ◌++◌, ap, ◌∙◌, append_assoc}
use Rattle.xa_scram.specs.Believed.Messages.{base64}
use Rattle.xa_scram.proofs.Cuts.{after_so}

pub proof_part : (message items bare rest proof : List ℕ) → bare ≡ items → message ≡ bare ++ rest
    → message ≡ items ++ (44 ∷ 112 ∷ 61 ∷ []) ++ base64 proof → rest ≡ 44 ∷ 112 ∷ 61 ∷ base64 proof
proof_part message items bare rest proof same e f =
    after_so items message rest (44 ∷ 112 ∷ 61 ∷ base64 proof) (e ∙ ap (λ (x : List ℕ). x ++ rest) same)
    (f ∙ append_assoc items (44 ∷ 112 ∷ 61 ∷ []) (base64 proof))
