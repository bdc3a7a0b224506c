-- Ranges of keys.
use Rattle.std.specs.Prelude.{ℕ, Bool, true, not, ◌&&◌, List, Option}
use Rattle.std.specs.Option.{option_map_or}
use Rattle.std.specs.Cmp.Lexicographic.{slice_cmp}
use Rattle.std.specs.Ordering.{nat_cmp, is_lt}

-- the keys from one on, up to another, which isn't among them, or without end
pub record Range : Type 0 where
  pub from : List ℕ
  pub to : Option (List ℕ)

-- byte strings are in the order of their first bytes that differ; a beginning of another is before it
abbrev pub is_before : List ℕ → List ℕ → Bool
is_before a b = is_lt (slice_cmp nat_cmp a b)

abbrev pub holds : Range → List ℕ → Bool
holds range key = not (is_before key range.from) && option_map_or (is_before key) range.to true
