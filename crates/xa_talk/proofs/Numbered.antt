-- The least free index is counted.
use Rattle.std.proofs.Common.{◌≡◌, ℕ, ◌+◌, true, false, List, [], ◌∷◌, length, Option, Some, None, arith, ap}
use Rattle.std.specs.Prelude.{is_none}
use Rattle.xa_talk.specs.Numbers.{free_index}

-- this many indices were looked at, and none was free
pub record Counted {C : Type 0} (all rest : List (Option C)) (free : ℕ) : Type 0 where
  pub same : free_index all ≡ free + free_index rest
  pub whole : length all ≡ free + length rest

pub counted_free : {C : Type 0} (all rest others : List (Option C)) (index : Option C) (free : ℕ) → Counted all rest free → rest ≡ index ∷ others → is_none index ≡ true → free ≡ free_index all
counted_free all rest others None free h cut none = omega (arith, h.same, ap (λ l. free_index l) cut)
counted_free all rest others (Some c) free h cut none = absurd (cc none)

pub counted_more : {C : Type 0} (all rest others : List (Option C)) (index : Option C) (free : ℕ) → Counted all rest free → rest ≡ index ∷ others → is_none index ≡ false → Counted all others (free + 1)
counted_more all rest others None free h cut none = absurd (cc none)
counted_more all rest others (Some c) free h cut none = record {
  same = omega (arith, h.same, ap (λ l. free_index l) cut);
  whole = omega (arith, h.whole, ap (λ l. length l) cut);
}

pub counted_all : {C : Type 0} (all rest : List (Option C)) (free : ℕ) → Counted all rest free → length rest ≡ 0 → free ≡ free_index all
counted_all all [] free h none = omega (arith, h.same)
counted_all all (index ∷ rest) free h none = absurd (omega (arith, none))
