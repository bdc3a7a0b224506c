-- Replies get the places after a count, one after another.
use Rattle.std.proofs.Common.{◌≡◌, ℕ, ◌+◌, ◌≤◌, ◌<◌, suc, zero, List, [], ◌∷◌, length, get_or, set, take, drop, ◌++◌, ◌∙◌, take_all, drop_of_length-le, append-nil, refl, ap, subst, arith}
use Rattle.xa_frame.specs.declared.reply.Reply.{Reply}
use Rattle.xa_history.specs.Believed.Book.{placed}
use Rattle.xa_sequencer.specs.Believed.Together.{placed_from}

-- the first n have theirs, and the rest are as they were
abbrev pub PlacedTo : ℕ → ℕ → List (ℕ × Reply) → List (ℕ × Reply) → Type 0
PlacedTo k zero xs ys = ys ≡ xs
PlacedTo k (suc i) [] ys = ⊥
PlacedTo k (suc i) (x ∷ xs) [] = ⊥
PlacedTo k (suc i) (x ∷ xs) (y ∷ ys) = (y ≡ (x.0, placed (k + 1) x.1)) × PlacedTo (k + 1) i xs ys

pub same_length : (k i : ℕ) (xs ys : List (ℕ × Reply)) → PlacedTo k i xs ys → length ys ≡ length xs
same_length k zero xs ys h = ap length h
same_length k (suc i) [] ys h = absurd h
same_length k (suc i) (x ∷ xs) [] h = absurd h
same_length k (suc i) (x ∷ xs) (y ∷ ys) h = omega (arith, same_length (k + 1) i xs ys h.1)

heads : (x y : ℕ × Reply) (xs ys : List (ℕ × Reply)) → x ∷ xs ≡ y ∷ ys → x ≡ y
heads x y xs ys is = cc is

tails : (x y : ℕ × Reply) (xs ys : List (ℕ × Reply)) → x ∷ xs ≡ y ∷ ys → xs ≡ ys
tails x y xs ys is = cc is

next_placed : (k i : ℕ) (xs ys : List (ℕ × Reply)) (d : ℕ × Reply) (n : ℕ) → PlacedTo k i xs ys → i < length ys → n ≡ k + i + 1
    → PlacedTo k (suc i) xs (set ys i ((get_or ys i d).0, placed n (get_or ys i d).1))
next_placed k zero xs [] d n h lt is = absurd (omega (arith, lt))
next_placed k zero [] (y ∷ ys) d n h lt is = absurd (cc h)
next_placed k zero (x ∷ xs) (y ∷ ys) d n h lt is =
    let at : n ≡ k + 1 = omega (arith, is) in
    let same : y ≡ x = heads y x ys xs h in
    ((λ i. ((same i).0, placed (at i) (same i).1)), tails y x ys xs h)
next_placed k (suc i) [] ys d n h lt is = absurd h
next_placed k (suc i) (x ∷ xs) [] d n h lt is = absurd h
next_placed k (suc i) (x ∷ xs) (y ∷ ys) d n h lt is =
    (h.0, next_placed (k + 1) i xs ys d n h.1 (omega (arith, lt)) (omega (arith, is)))

pub one_more : (k i : ℕ) (xs ys : List (ℕ × Reply)) (d : ℕ × Reply) (n : ℕ) → PlacedTo k i xs ys → i < length ys → n ≡ k + i + 1
    → PlacedTo k (i + 1) xs (set ys i ((get_or ys i d).0, placed n (get_or ys i d).1))
one_more k i xs ys d n h lt is =
    let more : suc i ≡ i + 1 = omega arith in
    subst (λ (j : ℕ). PlacedTo k j xs (set ys i ((get_or ys i d).0, placed n (get_or ys i d).1))) more (next_placed k i xs ys d n h lt is)

pub all_placed : (k i : ℕ) (xs ys : List (ℕ × Reply)) → PlacedTo k i xs ys → length ys ≤ i → ys ≡ placed_from k xs
all_placed k zero [] [] h le = refl
all_placed k zero (x ∷ xs) [] h le = absurd (cc h)
all_placed k zero xs (y ∷ ys) h le = absurd (omega (arith, le))
all_placed k (suc i) [] ys h le = absurd h
all_placed k (suc i) (x ∷ xs) [] h le = absurd h
all_placed k (suc i) (x ∷ xs) (y ∷ ys) h le = λ j. h.0 j ∷ all_placed (k + 1) i xs ys h.1 (omega (arith, le)) j

-- a vector whose items were all changed in place
pub whole : (n : ℕ) (xs ys : List (ℕ × Reply)) → length ys ≡ length xs → length xs ≤ n → take n (ys ++ drop (length ys) xs) ≡ ys
whole n xs ys same le =
    ap (λ (zs : List (ℕ × Reply)). take n (ys ++ zs)) (drop_of_length-le xs (omega (arith, same)))
    ∙ ap (take n) (append-nil ys) ∙ take_all n ys (omega (arith, same, le))
