-- Worked rows: which marks stand over keys once some ranges were walked.
use Rattle.std.specs.Prelude.{◌≡◌, ℕ, List, [], ◌∷◌, Some, None, Vec}
use Rattle.std.specs.declared.alloc.Global.{Global}
use Rattle.mv_ranges.specs.Ranges.{Range, Boundaries, last_mark, walked}

abbrev pub b : List ℕ
b = 0x62 ∷ []

abbrev pub c : List ℕ
c = 0x63 ∷ []

abbrev pub d : List ℕ
d = 0x64 ∷ []

-- the keys from `b` on up to `d`
abbrev pub from_b_to_d : Range
from_b_to_d = record { from = b; to = Some d }

-- the keys from `b` on
abbrev pub from_b : Range
from_b = record { from = b; to = None }

-- the mark over a key of which nothing was walked before, once a reader at 7 has walked from `b` to `d`
abbrev pub once : List ℕ → ℕ
once key = walked from_b_to_d [] 7 key 0

-- the same, once a reader at 5 has walked from `b` on too
abbrev pub twice : List ℕ → ℕ
twice key = walked from_b [] 5 key (once key)

-- a key that comes into the range later has its mark, as its first key has; its end hasn't
abbrev pub Phantom : Type 0
Phantom =
    (once b ≡ 7) × (once (0x63 ∷ 0x31 ∷ []) ≡ 7) × (once (0x63 ∷ 0xff ∷ []) ≡ 7)
    × (once d ≡ 0) × (once (0x61 ∷ 0xff ∷ []) ≡ 0)

-- a key that a walk leaves out keeps its mark, and the next one doesn't
abbrev pub LeftOut : Type 0
LeftOut =
    (walked from_b_to_d (c ∷ []) 7 c 5 ≡ 5) × (walked from_b_to_d (c ∷ []) 7 (0x63 ∷ 0 ∷ []) 5 ≡ 7)
    × (walked from_b_to_d (c ∷ []) 7 b 5 ≡ 7)

-- where two scans have walked, the greater timestamp stands
abbrev pub Greatest : Type 0
Greatest = (twice [] ≡ 0) × (twice (0x63 ∷ []) ≡ 7) × (twice d ≡ 5) × (twice (0xff ∷ []) ≡ 5)

-- keys before, at, between and after `b` and `d`
abbrev pub AreOver : Boundaries → Type 0
AreOver both =
    (last_mark 0 (0x61 ∷ 0xff ∷ []) both ≡ 0) × (last_mark 0 b both ≡ 7) × (last_mark 0 (0x63 ∷ 0xff ∷ []) both ≡ 7)
    × (last_mark 0 d both ≡ 5) × (last_mark 0 (0xff ∷ []) both ≡ 5)

-- two boundaries: what they say of keys
abbrev pub Stands : Type 0
Stands = (x y : Vec ℕ Global) → x.items ≡ b → y.items ≡ d → AreOver ((x, 7) ∷ (y, 5) ∷ [])
