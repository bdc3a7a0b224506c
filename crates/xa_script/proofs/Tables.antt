-- What isn't found in a table of texts.
use Rattle.std.proofs.Common.{◌≡◌, ◌≢◌, ℕ, List, [], ◌∷◌, Bool, true, false, refl, subst, find, None}
use Rattle.std.specs.Prelude.{bytes_eq}
use Rattle.std.specs.Str.{IsUtf8}
use Rattle.std.proofs.lemmas.Slice.Eq.{bytes_eq-Decides}

-- the word differs from each text of a table
abbrev pub DiffersFromEach : {X : Type 0} → List ℕ → List (List ℕ × X) → Type 0
DiffersFromEach word [] = Unit {0}
DiffersFromEach word (entry ∷ entries) = (entry.0 ≢ word) × DiffersFromEach word entries

not_true : (b : Bool) → (b ≡ true → ⊥) → b ≡ false
not_true true h = absurd (h refl)
not_true false h = refl

pub differs : (x y : List ℕ) → x ≢ y → bytes_eq x y ≡ false
differs x y h = not_true (bytes_eq x y) (λ e. h ((bytes_eq-Decides x y).0 e))

pub find_absent : {X : Type 0} (word : List ℕ) (entries : List (List ℕ × X)) → DiffersFromEach word entries → find (λ entry. bytes_eq entry.0 word) entries ≡ None
find_absent word [] h = refl
find_absent word (entry ∷ entries) h = rw (differs entry.0 word h.0) (find_absent word entries h.1)

-- each text of a table is UTF-8
abbrev pub AllTexts : {X : Type 0} → List (List ℕ × X) → Type 0
AllTexts [] = Unit {0}
AllTexts (entry ∷ entries) = IsUtf8 entry.0 × AllTexts entries

pub no_text_differs : {X : Type 0} (word : List ℕ) (entries : List (List ℕ × X)) → (IsUtf8 word → ⊥) → AllTexts entries → DiffersFromEach word entries
no_text_differs word [] h t = tt
no_text_differs word (entry ∷ entries) h t = (λ e. h (subst IsUtf8 e t.0), no_text_differs word entries h t.1)
