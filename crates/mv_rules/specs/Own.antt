-- The keys that each branch has written or read, as far as they are noted.
use Rattle.std.specs.Prelude.{◌≡◌, ℕ, Bool, ◌==◌, List, [], if◌then◌else◌}
use Rattle.std.specs.List.{list_any}
use Rattle.std.specs.Option.{option_map_or}
use Rattle.std.specs.BTreeMap.{BTreeMap, get_by}
use Rattle.std.specs.Ordering.{nat_cmp}
use Rattle.mv_rules.specs.declared.own.Own.{Own}
use Rattle.mv_rules.specs.declared.own.Notes.{Notes}

-- the keys that the undecided branch has written, each with its index
abbrev pub own_in : ℕ → BTreeMap ℕ Notes → List Own
own_in t notes = option_map_or (λ n. n.written.items) (get_by (nat_cmp t) notes) []

-- the keys that it had written when it was decided
abbrev pub decided_in : ℕ → BTreeMap ℕ Notes → List Own
decided_in t notes = option_map_or (λ n. n.decided.items) (get_by (nat_cmp t) notes) []

-- the keys that nobody had written when it read them
abbrev pub read_in : ℕ → BTreeMap ℕ Notes → List Own
read_in t notes = option_map_or (λ n. n.read.items) (get_by (nat_cmp t) notes) []

-- every undecided branch has written what it had
abbrev pub OwnStays : BTreeMap ℕ Notes → BTreeMap ℕ Notes → Type 0
OwnStays old new = (t : ℕ) → own_in t new ≡ own_in t old

-- one branch has written these keys, every other one what it had
abbrev pub OwnBecomes : ℕ → List Own → BTreeMap ℕ Notes → BTreeMap ℕ Notes → Type 0
OwnBecomes ts own old new = (t : ℕ) → own_in t new ≡ (if t == ts then own else own_in t old)

abbrev pub is_listed : ℕ → List Own → Bool
is_listed i own = list_any (λ o. i == o.index) own
