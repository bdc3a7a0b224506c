-- The least number that is free is no session's.
use Rattle.std.proofs.Common.{◌≡◌, ℕ, zero, suc, ◌+◌, ◌<◌, ◌≤◌, ◌==◌, nat_le, ◌&&◌, Bool, true, false, cond, List, [], ◌∷◌, length, Option, Some, None, refl, arith, inl, inr, ◌⊎◌, sym, subst}
use Rattle.std.specs.Prelude.{find, is_some}
use Rattle.std.proofs.lemmas.Bool.Decides.{nat_tests}
use Rattle.xa_model.specs.State.{Session, count, session_of, free_from, free_number}
use Rattle.xa_model.proofs.Counts.{found_none, one_at_most}

-- the session has one of the numbers from 1 to m
abbrev is_within : ℕ → Session → Bool
is_within m x = nat_le 1 x.number && nat_le x.number m

one_more : (n m : ℕ) → cond (nat_le 1 n && nat_le n (m + 1)) 1 0 ≡ cond (nat_le 1 n && nat_le n m) 1 0 + cond (n == m + 1) 1 0
one_more n m = grind (arith, nat_tests)

within_more : (m : ℕ) (xs : List Session) → count (is_within (m + 1)) xs ≡ count (is_within m) xs + count (λ x. x.number == m + 1) xs
within_more m [] = refl
within_more m (x ∷ xs) =
    let rest : count (is_within (m + 1)) xs ≡ count (is_within m) xs + count (λ y. y.number == m + 1) xs = within_more m xs in
    let here : cond (nat_le 1 x.number && nat_le x.number (m + 1)) 1 0 ≡ cond (nat_le 1 x.number && nat_le x.number m) 1 0 + cond (x.number == m + 1) 1 0 = one_more x.number m in omega arith

within_all : (m : ℕ) (xs : List Session) → count (is_within m) xs ≤ length xs
within_all m [] = omega arith
within_all m (x ∷ xs) =
    let rest : count (is_within m) xs ≤ length xs = within_all m xs in
    let here : cond (is_within m x) 1 0 ≤ 1 = one_at_most (is_within m x) in omega arith

taken_by : (p : Session → Bool) (xs : List Session) (o : Option Session) → find p xs ≡ o → is_some o ≡ true → (count p xs ≡ 0 → ⊥)
taken_by p xs None e is = absurd (cc is)
taken_by p xs (Some x) e is = λ zero_. let none : find p xs ≡ None = found_none p xs zero_ in absurd (cc (none, e))

taken_counts : (xs : List Session) (n : ℕ) → is_some (session_of xs n) ≡ true → 1 ≤ count (λ x. x.number == n) xs
taken_counts xs n is =
    let not_zero : count (λ x. x.number == n) xs ≡ 0 → ⊥ = taken_by (λ x. x.number == n) xs (session_of xs n) refl is in omega arith

-- where all numbers up to m are taken, there are m sessions with them
all_taken : (xs : List Session) (m : ℕ) → ((n : ℕ) → 1 ≤ n → n ≤ m → is_some (session_of xs n) ≡ true) → m ≤ count (is_within m) xs
all_taken xs zero h = omega arith
all_taken xs (suc m) h =
    let fewer : m ≤ count (is_within m) xs = all_taken xs m (λ n low high. h n low (omega arith)) in
    let here : 1 ≤ count (λ x. x.number == m + 1) xs = taken_counts xs (m + 1) (h (m + 1) (omega arith) (omega arith)) in
    let more : count (is_within (m + 1)) xs ≡ count (is_within m) xs + count (λ x. x.number == m + 1) xs = within_more m xs in
    let same : suc m ≡ m + 1 = omega arith in
    subst (λ (k : ℕ). k ≤ count (is_within k) xs) (sym same) (omega arith)

-- the number is free, or all that were tried are taken
tried_by : (xs : List Session) (tries n : ℕ) (c : Bool) → is_some (session_of xs n) ≡ c
    → (session_of xs (free_from xs tries (n + 1)) ≡ None) ⊎ ((free_from xs tries (n + 1) ≡ (n + 1) + tries) × ((k : ℕ) → n + 1 ≤ k → k < (n + 1) + tries → is_some (session_of xs k) ≡ true))
    → (session_of xs (cond c (free_from xs tries (n + 1)) n) ≡ None) ⊎ ((cond c (free_from xs tries (n + 1)) n ≡ n + suc tries) × ((k : ℕ) → n ≤ k → k < n + suc tries → is_some (session_of xs k) ≡ true))
tried_by xs tries n false e h = inl (none_is (session_of xs n) e)
  where
    none_is : (o : Option Session) → is_some o ≡ false → o ≡ None
    none_is None e = refl
    none_is (Some x) e = absurd (cc e)
tried_by xs tries n true e (inl h) = inl h
tried_by xs tries n true e (inr h) = inr (omega (arith, h.0), λ k low high. at_or_above k low high (k == n) refl)
  where
    at_or_above : (k : ℕ) → n ≤ k → k < n + suc tries → (d : Bool) → (k == n) ≡ d → is_some (session_of xs k) ≡ true
    at_or_above k low high true d = let same : n ≡ k = grind (arith, nat_tests) in subst (λ (m : ℕ). is_some (session_of xs m) ≡ true) same e
    at_or_above k low high false d = let above : n + 1 ≤ k = grind (arith, nat_tests) in h.1 k above (omega arith)

tried : (xs : List Session) (tries n : ℕ)
    → (session_of xs (free_from xs tries n) ≡ None) ⊎ ((free_from xs tries n ≡ n + tries) × ((k : ℕ) → n ≤ k → k < n + tries → is_some (session_of xs k) ≡ true))
tried xs zero n = inr (omega arith, λ k low high. absurd (omega arith))
tried xs (suc tries) n = tried_by xs tries n (is_some (session_of xs n)) refl (tried xs tries (n + 1))

free_by : (xs : List Session)
    → (session_of xs (free_number xs) ≡ None) ⊎ ((free_number xs ≡ 1 + length xs) × ((k : ℕ) → 1 ≤ k → k < 1 + length xs → is_some (session_of xs k) ≡ true))
    → session_of xs (free_number xs) ≡ None
free_by xs (inl h) = h
free_by xs (inr h) =
    let all : length xs ≤ count (is_within (length xs)) xs = all_taken xs (length xs) (λ n low high. h.1 n low (omega arith)) in
    let more = within_more (length xs) xs in
    let most = within_all (length xs + 1) xs in
    let none : count (λ x. x.number == length xs + 1) xs ≡ 0 = omega (arith, all, more, most) in
    let next : free_number xs ≡ length xs + 1 = omega (arith, h.0) in
    subst (λ (k : ℕ). session_of xs k ≡ None) (sym next) (found_none (λ x. x.number == length xs + 1) xs none)

pub free_number_free : (xs : List Session) → session_of xs (free_number xs) ≡ None
free_number_free xs = free_by xs (tried xs (length xs) 1)
