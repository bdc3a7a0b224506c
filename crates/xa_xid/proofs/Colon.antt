-- Where the first colon stands.
use Rattle.std.proofs.Common.{◌≡◌, ◌≢◌, ℕ, List, [], ◌∷◌, ◌++◌, All, refl}
use Rattle.std.proofs.lemmas.List.Elements.{All-head, All-tail}

pub one_cut : (a b s t : List ℕ) → All (λ c. c ≢ 58) a → All (λ c. c ≢ 58) b → a ++ (58 ∷ s) ≡ b ++ (58 ∷ t) → (a ≡ b) × (s ≡ t)
one_cut [] [] s t h k e = (refl, cc)
one_cut [] (y ∷ b) s t h k e = absurd (All-head (λ c. c ≢ 58) y b k cc)
one_cut (x ∷ a) [] s t h k e = absurd (All-head (λ c. c ≢ 58) x a h cc)
one_cut (x ∷ a) (y ∷ b) s t h k e =
    let others : a ++ (58 ∷ s) ≡ b ++ (58 ∷ t) = cc in
    let r = one_cut a b s t (All-tail (λ c. c ≢ 58) x a h) (All-tail (λ c. c ≢ 58) y b k) others in
    let heads : x ≡ y = cc in
    (cc (heads, r.0), r.1)

-- a text with a colon isn't one without
pub no_cut : (text a s : List ℕ) → All (λ c. c ≢ 58) text → text ≢ a ++ (58 ∷ s)
no_cut [] [] s h e = absurd cc
no_cut [] (y ∷ a) s h e = absurd cc
no_cut (x ∷ text) [] s h e = All-head (λ c. c ≢ 58) x text h cc
no_cut (x ∷ text) (y ∷ a) s h e = no_cut text a s (All-tail (λ c. c ≢ 58) x text h) cc
