-- The bytes of a list of values, one value more.
use Rattle.std.proofs.Common.{◌≡◌, ℕ, ◌+◌, ◌<◌, Result, Ok, Err, List, [], ◌∷◌, ◌++◌, length, get_or, take, sym, ap, ◌∙◌, append_assoc, append-nil, add-one}
use Rattle.std.specs.List.{flat_map}
use Rattle.std.specs.Prelude.{OnOk}
use Rattle.std.proofs.Math.Seq.{take-suc}
use Rattle.std.proofs.lemmas.List.Concat.{flat_map-append}

one_more : {A : Type 0} (spell : A → List ℕ) (xs : List A) (i : ℕ) (x : A) → i < length xs → x ≡ get_or xs i x → flat_map spell (take (i + 1) xs) ≡ flat_map spell (take i xs) ++ spell x
one_more {A} spell xs i x lt is =
    let more : take (i + 1) xs ≡ take i xs ++ x ∷ [] = rw add-one (take-suc xs i x lt ∙ ap (λ (y : A). take i xs ++ y ∷ []) (sym is)) in
    ap (flat_map spell) more ∙ flat_map-append spell (take i xs) (x ∷ []) ∙ ap (λ (s : List ℕ). flat_map spell (take i xs) ++ s) (append-nil (spell x))

-- after what was there before
pub put_more : {A : Type 0} (spell : A → List ℕ) (xs : List A) (i : ℕ) (x : A) (before out next : List ℕ) → i < length xs → x ≡ get_or xs i x
    → out ≡ before ++ flat_map spell (take i xs) → next ≡ out ++ spell x → next ≡ before ++ flat_map spell (take (i + 1) xs)
put_more spell xs i x before out next lt is so_far more =
    more ∙ ap (λ (s : List ℕ). s ++ spell x) so_far ∙ append_assoc before (flat_map spell (take i xs)) (spell x) ∙ ap (λ (s : List ℕ). before ++ s) (sym (one_more spell xs i x lt is))

-- where it went well the one holds, and so the other
pub on_ok : {X E : Type 0} (r : Result X E) (P Q : Type 0) → (P → Q) → OnOk r P → OnOk r Q
on_ok (Ok x) P Q f h = f h
on_ok (Err e) P Q f h = tt

-- five fields, one after another
pub put_five : (out one two three four five a b c d e : List ℕ) → one ≡ out ++ a → two ≡ one ++ b → three ≡ two ++ c → four ≡ three ++ d → five ≡ four ++ e
    → five ≡ out ++ (a ++ (b ++ (c ++ (d ++ e))))
put_five out one two three four five a b c d e h1 h2 h3 h4 h5 = rw (h5, h4, h3, h2, h1) (simp append_assoc)

-- ten
pub put_ten : (out five ten a b c d e f g h i j : List ℕ) → five ≡ out ++ (a ++ (b ++ (c ++ (d ++ e)))) → ten ≡ five ++ (f ++ (g ++ (h ++ (i ++ j))))
    → ten ≡ out ++ (a ++ (b ++ (c ++ (d ++ (e ++ (f ++ (g ++ (h ++ (i ++ j)))))))))
put_ten out five ten a b c d e f g h i j h1 h2 = rw (h2, h1) (simp append_assoc)
