-- A text is cut at the first place of a separator.
use Rattle.std.proofs.Common.{◌≡◌, ℕ, ◌+◌, ◌≤◌, nat_lt, Bool, true, false, List, [], ◌∷◌, length, take, drop, Some, None, refl, subst, arith, position, cond}
use Rattle.std.specs.List.{slice_split, position_or_len}
use Rattle.std.proofs.lemmas.Bool.{ltb-true, ltb-false}
use Rattle.std.proofs.lemmas.List.Splits.{slice_split_first, slice_split_none}
use Rattle.std.proofs.lemmas.List.Sums.{fails_before_first}

cut_by : (p : ℕ → Bool) (xs : List ℕ) (end : ℕ) (b : Bool) → nat_lt (position_or_len p xs) (length xs) ≡ b →
    cond b (Some (position_or_len p xs)) None ≡ Some end → slice_split p xs ≡ take end xs ∷ slice_split p (drop (end + 1) xs)
cut_by p xs end true e h =
    let same : position_or_len p xs ≡ end = cc in
    subst (λ (k : ℕ). slice_split p xs ≡ take k xs ∷ slice_split p (drop (k + 1) xs)) same (slice_split_first p xs 0 (ltb-true _ _ e))
cut_by p xs end false e h = cc

pub cut_at : (p : ℕ → Bool) (xs : List ℕ) (end : ℕ) → position p xs ≡ Some end → slice_split p xs ≡ take end xs ∷ slice_split p (drop (end + 1) xs)
cut_at p xs end h = cut_by p xs end _ refl h

whole_by : (p : ℕ → Bool) (xs : List ℕ) (b : Bool) → nat_lt (position_or_len p xs) (length xs) ≡ b →
    cond b (Some (position_or_len p xs)) None ≡ None → slice_split p xs ≡ xs ∷ []
whole_by p xs true e h = cc
whole_by p xs false e h =
    let all : length xs ≤ position_or_len p xs = ltb-false _ _ e in
    slice_split_none p xs (λ k d below. fails_before_first p xs k d (omega arith))

pub whole : (p : ℕ → Bool) (xs : List ℕ) → position p xs ≡ None → slice_split p xs ≡ xs ∷ []
whole p xs h = whole_by p xs _ refl h
