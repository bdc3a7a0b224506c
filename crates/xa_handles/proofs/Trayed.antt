-- One of several trays is another one.
use Rattle.std.proofs.Common.{◌≡◌, ◌∙◌, ◌<◌, ℕ, suc, zero, List, [], ◌∷◌, ◌++◌, length, map, set, get_or, Option, Some, None, Result, Ok, Err, refl, sym, ap, arith}
use Rattle.std.proofs.lemmas.List.{length-map}
use Rattle.std.specs.Prelude.{MatchOption, MatchResult}
use Rattle.xa_handles.specs.Mail.{Mailed, put_at}

module _ {V : Type 0} (f : V → List Mailed) where
  -- with a letter more
  put : (trays : List V) (k : ℕ) (v d : V) (l : Mailed) → k < length trays → f v ≡ f (get_or trays k d) ++ l ∷ []
      → map f (set trays k v) ≡ put_at (map f trays) k l
  put [] k v d l lt is = absurd (omega (arith, lt))
  put (t ∷ ts) zero v d l lt is = ap (λ (x : List Mailed). x ∷ map f ts) is
  put (t ∷ ts) (suc k) v d l lt is = ap (λ (xs : List (List Mailed)). f t ∷ xs) (put ts k v d l (omega (arith, lt)) is)

  -- with the same letters
  same : (trays : List V) (k : ℕ) (v d : V) → k < length trays → f v ≡ f (get_or trays k d) → map f (set trays k v) ≡ map f trays
  same [] k v d lt is = absurd (omega (arith, lt))
  same (t ∷ ts) zero v d lt is = ap (λ (x : List Mailed). x ∷ map f ts) is
  same (t ∷ ts) (suc k) v d lt is = ap (λ (xs : List (List Mailed)). f t ∷ xs) (same ts k v d (omega (arith, lt)) is)

  -- with a letter less
  take : (trays : List V) (k : ℕ) (v d : V) (l : Mailed) → k < length trays → f (get_or trays k d) ≡ f v ++ l ∷ []
      → map f trays ≡ put_at (map f (set trays k v)) k l
  take [] k v d l lt is = absurd (omega (arith, lt))
  take (t ∷ ts) zero v d l lt is = ap (λ (x : List Mailed). x ∷ map f ts) is
  take (t ∷ ts) (suc k) v d l lt is = ap (λ (xs : List (List Mailed)). f t ∷ xs) (take ts k v d l (omega (arith, lt)) is)

  same_length : (trays : List V) (k : ℕ) (v : V) → length (map f (set trays k v)) ≡ length trays
  same_length [] k v = refl
  same_length (t ∷ ts) zero v = ap suc (length-map ts f)
  same_length (t ∷ ts) (suc k) v = ap suc (same_length ts k v)

  -- what became of one of them became of all, which are seen so
  pub has_put : (trays : List V) (k tray : ℕ) (v d : V) (l : Mailed) (result : Result (Unit {0}) Mailed) (seen : List (List Mailed)) → map f trays ≡ seen → k ≡ tray
      → k < length trays → d ≡ get_or trays k d
      → MatchResult result (λ _. f v ≡ f d ++ l ∷ []) (λ given. (given ≡ l) × (f v ≡ f d))
      → MatchResult result (λ _. (tray < length seen) × (map f (set trays k v) ≡ put_at seen tray l))
      (λ given. (given ≡ l) × (map f (set trays k v) ≡ seen))
  has_put trays k tray v d l (Ok _) seen view own lt at is = (
    omega (arith, lt, own, length-map trays f, ap (λ (xs : List (List Mailed)). length xs) view),
    put trays k v d l lt (is ∙ ap (λ (x : V). f x ++ l ∷ []) at) ∙ (λ i. put_at (view i) (own i) l),
  )
  has_put trays k tray v d l (Err given) seen view own lt at is = (is.0, same trays k v d lt (is.1 ∙ ap f at) ∙ view)

  pub has_taken : (trays : List V) (k : ℕ) (v d : V) (result : Option Mailed) (seen : List (List Mailed)) → map f trays ≡ seen → k < length trays
      → d ≡ get_or trays k d → MatchOption result (f v ≡ f d) (λ l. f d ≡ f v ++ l ∷ [])
      → MatchOption result (map f (set trays k v) ≡ seen)
      (λ l. (k < length (map f (set trays k v))) × (seen ≡ put_at (map f (set trays k v)) k l))
  has_taken trays k v d None seen view lt at is = same trays k v d lt (is ∙ ap f at) ∙ view
  has_taken trays k v d (Some l) seen view lt at is =
      (omega (arith, lt, same_length trays k v), sym view ∙ take trays k v d l lt (ap f (sym at) ∙ is))
