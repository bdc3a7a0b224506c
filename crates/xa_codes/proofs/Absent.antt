-- A number that differs from each code of a table isn't found there.
use Rattle.std.proofs.Common.{◌≡◌, ◌≢◌, ℤ, ℕ, List, [], ◌∷◌, Bool, true, false, refl, sym, find, None}
use Rattle.std.specs.Ordering.{int_eq}
use Rattle.std.proofs.lemmas.Bool.Decides.{Decides-int_eq}

abbrev pub DiffersFromEach : ℤ → List (ℤ × List ℕ) → Type 0
DiffersFromEach code [] = Unit {0}
DiffersFromEach code (entry ∷ entries) = (code ≢ entry.0) × DiffersFromEach code entries

not_true : (b : Bool) → (b ≡ true → ⊥) → b ≡ false
not_true true h = absurd (h refl)
not_true false h = refl

differs : (x y : ℤ) → y ≢ x → int_eq x y ≡ false
differs x y h = not_true (int_eq x y) (λ e. h (sym ((Decides-int_eq x y).0 e)))

pub find_absent : (code : ℤ) (entries : List (ℤ × List ℕ)) → DiffersFromEach code entries → find (λ entry. int_eq entry.0 code) entries ≡ None
find_absent code [] h = refl
find_absent code (entry ∷ entries) h = rw (differs entry.0 code h.0) (find_absent code entries h.1)
