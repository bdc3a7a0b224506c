-- What a keyed hasher holds.
use Rattle.std.specs.Prelude.{ℕ, List}
use Rattle.sha2.specs.Hashers.{Holds256}
use Rattle.xa_scram.specs.declared.keyed.Keyed.{Keyed}
use Rattle.xa_scram.specs.Believed.Keyed.{padded, short_key}

-- it has taken in the two padded blocks of a short key
abbrev pub HoldsBoth : Keyed → List ℕ → Type 0
HoldsBoth k short = Holds256 k.inner (padded 0x36 short) × Holds256 k.outer (padded 0x5c short)

-- the same of any key
abbrev pub IsKeyed : Keyed → List ℕ → Type 0
IsKeyed k key = HoldsBoth k (short_key key)
