-- There are no more replies than calls, where no call is replied twice.
use Rattle.std.proofs.Common.{◌≡◌, ℕ, ◌+◌, ◌≤◌, ◌<◌, suc, zero, Bool, true, false, cond, eqb, List, [], ◌∷◌, length, refl, subst, arith}
use Rattle.std.specs.List.{AllByRecursion}
use Rattle.std.proofs.lemmas.Bool.{eqb-true, eqb-false}
use Rattle.xa_frame.specs.declared.reply.Reply.{Reply}
use Rattle.xa_manager.specs.Once.{AreOnce}

-- those to other calls
abbrev without : ℕ → List (ℕ × Reply) → List (ℕ × Reply)
without n [] = []
without n (r ∷ rs) = cond (eqb r.0 n) (without n rs) (r ∷ without n rs)

all_kept : (P : ℕ × Reply → Type 0) (b : Bool) (r : ℕ × Reply) (rest : List (ℕ × Reply)) → P r → AllByRecursion P rest → AllByRecursion P (cond b rest (r ∷ rest))
all_kept P true r rest p h = h
all_kept P false r rest p h = (p, h)

all_without : (P : ℕ × Reply → Type 0) (n : ℕ) (rs : List (ℕ × Reply)) → AllByRecursion P rs → AllByRecursion P (without n rs)
all_without P n [] h = tt
all_without P n (r ∷ rs) h = all_kept P (eqb r.0 n) r (without n rs) h.0 (all_without P n rs h.1)

once_kept : (b : Bool) (r : ℕ × Reply) (rest : List (ℕ × Reply)) → AllByRecursion (λ q. q.0 ≡ r.0 → ⊥) rest → AreOnce rest → AreOnce (cond b rest (r ∷ rest))
once_kept true r rest apart h = h
once_kept false r rest apart h = (apart, h)

once_without : (n : ℕ) (rs : List (ℕ × Reply)) → AreOnce rs → AreOnce (without n rs)
once_without n [] h = tt
once_without n (r ∷ rs) h = once_kept (eqb r.0 n) r (without n rs) (all_without (λ q. q.0 ≡ r.0 → ⊥) n rs h.0) (once_without n rs h.1)

below_kept : (n : ℕ) (b : Bool) (r : ℕ × Reply) (rest : List (ℕ × Reply)) → eqb r.0 n ≡ b → r.0 < n + 1 → AllByRecursion (λ q. q.0 < n) rest
    → AllByRecursion (λ q. q.0 < n) (cond b rest (r ∷ rest))
below_kept n true r rest is lt h = h
below_kept n false r rest is lt h = let other : (r.0 ≡ n → ⊥) = eqb-false r.0 n is in (omega (arith, lt, other), h)

below_without : (n : ℕ) (rs : List (ℕ × Reply)) → AllByRecursion (λ q. q.0 < n + 1) rs → AllByRecursion (λ q. q.0 < n) (without n rs)
below_without n [] h = tt
below_without n (r ∷ rs) h = below_kept n (eqb r.0 n) r (without n rs) refl h.0 (below_without n rs h.1)

same_kept : (n : ℕ) (b : Bool) (r : ℕ × Reply) (rest : List (ℕ × Reply)) → eqb r.0 n ≡ b → (r.0 ≡ n → ⊥) → length (cond b rest (r ∷ rest)) ≡ 1 + length rest
same_kept n true r rest is other = absurd (other (eqb-true r.0 n is))
same_kept n false r rest is other = omega arith

same_without : (n : ℕ) (rs : List (ℕ × Reply)) → AllByRecursion (λ q. q.0 ≡ n → ⊥) rs → length (without n rs) ≡ length rs
same_without n [] h = refl
same_without n (r ∷ rs) h = omega (arith, same_kept n (eqb r.0 n) r (without n rs) refl h.0, same_without n rs h.1)

apart_as : (a n : ℕ) (rs : List (ℕ × Reply)) → a ≡ n → AllByRecursion (λ q. q.0 ≡ a → ⊥) rs → AllByRecursion (λ q. q.0 ≡ n → ⊥) rs
apart_as a n rs same h = subst (λ (x : ℕ). AllByRecursion (λ q. q.0 ≡ x → ⊥) rs) same h

one_less : (n : ℕ) (b : Bool) (r : ℕ × Reply) (rs : List (ℕ × Reply)) → eqb r.0 n ≡ b → AllByRecursion (λ q. q.0 ≡ r.0 → ⊥) rs
    → length rs ≤ length (without n rs) + 1 → length rs + 1 ≤ length (cond b (without n rs) (r ∷ without n rs)) + 1
one_less n true r rs is apart h = omega (arith, same_without n rs (apart_as r.0 n rs (eqb-true r.0 n is) apart))
one_less n false r rs is apart h = omega (arith, h)

less_without : (n : ℕ) (rs : List (ℕ × Reply)) → AreOnce rs → length rs ≤ length (without n rs) + 1
less_without n [] h = omega arith
less_without n (r ∷ rs) h = omega (arith, one_less n (eqb r.0 n) r rs refl h.0 (less_without n rs h.1))

pub few : (n : ℕ) (rs : List (ℕ × Reply)) → AreOnce rs → AllByRecursion (λ q. q.0 < n) rs → length rs ≤ n
few zero [] once below = omega arith
few zero (r ∷ rs) once below = absurd (omega (arith, below.0))
few (suc n) rs once below =
    let fewer = few n (without n rs) (once_without n rs once) (below_without n rs (subst (λ (k : ℕ). AllByRecursion (λ q. q.0 < k) rs) (omega arith) below)) in
    omega (arith, fewer, less_without n rs once)
