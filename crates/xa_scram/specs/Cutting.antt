-- Texts without a byte, and texts that begin with a digit other than 0.
use Rattle.std.specs.Prelude.{◌≢◌, ℕ, List, All, slice_index}
use Rattle.std.specs.Int.{IsInRange}

abbrev pub HasNone : ℕ → List ℕ → Type 0
HasNone byte text = All (λ b. b ≢ byte) text

abbrev pub IsPlain : List ℕ → Type 0
IsPlain text = IsInRange 49 57 (slice_index text 0)
