-- Reading fields of one sort one after another, as a loop does.
use Rattle.std.proofs.Common.{◌≡◌, ℕ, suc, ◌-◌, ◌+◌, ◌≤◌, ◌<◌, List, [], ◌∷◌, ◌++◌, Result, Ok, Err, refl, sym, ap, ◌∙◌, append_assoc, arith}
use Rattle.std.proofs.lemmas.List.{append-nil}
use Rattle.xa_frame.specs.declared.fault.FrameFault.{FrameFault}
use Rattle.xa_fields.specs.Reading.{◌>>=◌}
use Rattle.xa_frame.specs.Reading.{Reads, made, rest_of, value_of_first, each_at}

-- what was read before, and what is still read
abbrev pub with_front : {A : Type 0} → List A → Result (List A × List ℕ) FrameFault → Result (List A × List ℕ) FrameFault
with_front front read = made (λ x. (front ++ x.0, x.1)) read

abbrev with_first : {A : Type 0} → A → Result (List A × List ℕ) FrameFault → Result (List A × List ℕ) FrameFault
with_first x read = read >>= λ others. Ok (x ∷ others.0, others.1)

one_more : {A : Type 0} (f : Reads A) (count i : ℕ) (bytes : List ℕ) (x : A) (after : List ℕ) → i < count → f bytes ≡ Ok (x, after)
    → each_at f (count - i) bytes ≡ with_first x (each_at f (count - (i + 1)) after)
unfolding each_at
one_more f count i bytes x after lt h =
    let k : count - i ≡ suc (count - (i + 1)) = omega arith in
    rw (k, h) refl

none_more : {A : Type 0} (f : Reads A) (count i : ℕ) (bytes : List ℕ) (e : FrameFault) → i < count → f bytes ≡ Err e → each_at f (count - i) bytes ≡ Err e
unfolding each_at
none_more f count i bytes e lt h =
    let k : count - i ≡ suc (count - (i + 1)) = omega arith in
    rw (k, h) refl

no_more : {A : Type 0} (f : Reads A) (count i : ℕ) (bytes : List ℕ) → count ≤ i → each_at f (count - i) bytes ≡ Ok ([], bytes)
unfolding each_at
no_more f count i bytes le =
    let k : count - i ≡ 0 = omega arith in
    rw k refl

rest-with_first : {A : Type 0} (x : A) (read : Result (List A × List ℕ) FrameFault) → rest_of (with_first x read) ≡ rest_of read
rest-with_first x (Ok y) = refl
rest-with_first x (Err e) = refl

-- ---- what stands after them

pub passed_one : {A : Type 0} (f : Reads A) (count i : ℕ) (bytes : List ℕ) (x : A) (after : List ℕ) (total : Result (List ℕ) FrameFault) → i < count → f bytes ≡ Ok (x, after)
    → rest_of (each_at f (count - i) bytes) ≡ total → rest_of (each_at f (count - (i + 1)) after) ≡ total
passed_one f count i bytes x after total lt h so_far =
    sym (ap rest_of (one_more f count i bytes x after lt h) ∙ rest-with_first x (each_at f (count - (i + 1)) after)) ∙ so_far

pub passed_none : {A : Type 0} (f : Reads A) (count i : ℕ) (bytes : List ℕ) (e : FrameFault) (total : Result (List ℕ) FrameFault) → i < count → f bytes ≡ Err e
    → rest_of (each_at f (count - i) bytes) ≡ total → total ≡ Err e
passed_none f count i bytes e total lt h so_far = sym so_far ∙ ap rest_of (none_more f count i bytes e lt h)

pub passed_all : {A : Type 0} (f : Reads A) (count i : ℕ) (bytes : List ℕ) (total : Result (List ℕ) FrameFault) → count ≤ i → rest_of (each_at f (count - i) bytes) ≡ total → total ≡ Ok bytes
passed_all f count i bytes total le so_far = sym so_far ∙ ap rest_of (no_more f count i bytes le)

-- ---- the list of them

moved : {A : Type 0} (front : List A) (x : A) (read : Result (List A × List ℕ) FrameFault) → with_front front (with_first x read) ≡ with_front (front ++ x ∷ []) read
moved {A} front x (Ok y) = ap (λ (xs : List A). Ok (xs, y.1)) (sym (append_assoc front (x ∷ []) y.0))
moved front x (Err e) = refl

pub read_one : {A : Type 0} (f : Reads A) (count i : ℕ) (bytes : List ℕ) (front next : List A) (x : A) (after : List ℕ) (total : Result (List A) FrameFault) → i < count → f bytes ≡ Ok (x, after)
    → next ≡ front ++ x ∷ [] → value_of_first (with_front front (each_at f (count - i) bytes)) ≡ total → value_of_first (with_front next (each_at f (count - (i + 1)) after)) ≡ total
read_one {A} f count i bytes front next x after total lt h e so_far =
    ap (λ (g : List A). value_of_first (with_front g (each_at f (count - (i + 1)) after))) e
    ∙ sym (ap (λ r. value_of_first (with_front front r)) (one_more f count i bytes x after lt h) ∙ ap value_of_first (moved front x (each_at f (count - (i + 1)) after)))
    ∙ so_far

pub read_none : {A : Type 0} (f : Reads A) (count i : ℕ) (bytes : List ℕ) (front : List A) (e : FrameFault) (total : Result (List A) FrameFault) → i < count → f bytes ≡ Err e
    → value_of_first (with_front front (each_at f (count - i) bytes)) ≡ total → total ≡ Err e
read_none f count i bytes front e total lt h so_far = sym so_far ∙ ap (λ r. value_of_first (with_front front r)) (none_more f count i bytes e lt h)

pub read_all : {A : Type 0} (f : Reads A) (count i : ℕ) (bytes : List ℕ) (front : List A) (total : Result (List A) FrameFault) → count ≤ i
    → value_of_first (with_front front (each_at f (count - i) bytes)) ≡ total → total ≡ Ok front
read_all {A} f count i bytes front total le so_far =
    sym so_far ∙ ap (λ r. value_of_first (with_front front r)) (no_more f count i bytes le) ∙ ap (λ (xs : List A). Ok xs) (append-nil front)
