-- What was written of a text.
use Rattle.std.specs.Prelude.{ℕ, ◌≡◌, ◌≢◌, List, [], ◌++◌, Option}
use Rattle.std.specs.Io.KnownBytes.{Appends}

-- the first bytes of a text: none, a part, or all
abbrev pub IsFront : List ℕ → List ℕ → Type 0
IsFront front text = (rest : List ℕ) × (text ≡ front ++ rest)

-- the first bytes of a text, and not all
abbrev pub IsPart : List ℕ → List ℕ → Type 0
IsPart part text = (rest : List ℕ) × (rest ≢ []) × (text ≡ part ++ rest)

-- a part of a text was written, after what a writer held
abbrev pub AppendsPart : List ℕ → Option (List ℕ) → Option (List ℕ) → Type 0
AppendsPart text old new = (part : List ℕ) × IsPart part text × Appends old new part
