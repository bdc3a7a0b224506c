-- What a server tells of what it counted: pairs of an id and a count. A number after the last pair is passed over.
use Rattle.std.specs.Prelude.{ℕ, ◌==◌, List, [], ◌∷◌, Option, Some, None, if◌then◌else◌, unwrap_or}

-- the count of an id: of pairs with one id the first holds
abbrev pub told : List ℕ → ℕ → Option ℕ
told [] id = None
told (first ∷ []) id = None
told (first ∷ count ∷ numbers) id = if first == id then Some count else told numbers id

-- nothing was counted where it isn't told
abbrev pub count_of : List ℕ → ℕ → ℕ
count_of numbers id = unwrap_or (told numbers id) 0
