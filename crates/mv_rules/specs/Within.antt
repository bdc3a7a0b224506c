-- How long the values and the keys are that the records keep and give.
use Rattle.std.specs.Prelude.{◌≡◌, ◌≢◌, ℕ, ◌≤◌, List, length}
use Rattle.std.specs.List.{AllByRecursion as Each}
use Rattle.xa_limits.specs.declared.TheConstants.{MOST_KEY, MOST_WRITES}
use Rattle.xa_codes.specs.declared.write.Write.{Write}
use Rattle.mv_chain.specs.Within.{IsShort, IsWithin as PoolIsWithin}
use Rattle.mv_rules.specs.declared.answers.Got.{Got}
use Rattle.mv_rules.specs.declared.answers.Got.TheVariants.{Value}
use Rattle.mv_rules.specs.declared.own.Own.{Own}
use Rattle.mv_rules.specs.declared.records.Records.{Records}
use Rattle.mv_rules.specs.Records.{own_of}

-- every value that is kept has at most n bytes
abbrev pub IsWithin : ℕ → Records → Type 0
IsWithin n r = PoolIsWithin n r.pool

-- whatever bound the values were within, they still are
abbrev pub KeepsWithin : Records → Records → Type 0
KeepsWithin old new = (n : ℕ) → IsWithin n old → IsWithin n new

-- a value that is given has at most n bytes
abbrev pub IsShortAnswer : ℕ → Got → Type 0
IsShortAnswer n (Value v) = length v ≤ n
IsShortAnswer n _ = Unit {0}

-- each value that is written has at most n bytes
abbrev pub AreShort : ℕ → List Write → Type 0
AreShort n writes = Each (λ w. IsShort n w.value) writes

-- a key of 1 to MOST_KEY bytes
abbrev pub IsKey : List ℕ → Type 0
IsKey key = (1 ≤ length key) × (length key ≤ MOST_KEY)

-- at most n keys, of 1 to MOST_KEY bytes each
abbrev pub AreKeys : ℕ → List Own → Type 0
AreKeys n own = (length own ≤ n) × Each (λ o. IsKey o.key) own

-- each undecided branch has written at most MOST_WRITES keys, of 1 to MOST_KEY bytes each
abbrev pub HasKeys : Records → Type 0
HasKeys r = (t : ℕ) → AreKeys MOST_WRITES (own_of t r)

-- if that was so, it still is
abbrev pub KeepsKeys : Records → Records → Type 0
KeepsKeys old new = HasKeys old → HasKeys new

-- no undecided branch but one has written a key more or less
abbrev pub KeepsOwnBut : ℕ → Records → Records → Type 0
KeepsOwnBut ts old new = (t : ℕ) → t ≢ ts → own_of t new ≡ own_of t old

-- at most MOST_WRITES writes, of keys of 1 to MOST_KEY bytes
abbrev pub HaveKeys : List Write → Type 0
HaveKeys writes = (length writes ≤ MOST_WRITES) × Each (λ w. IsKey w.key) writes
