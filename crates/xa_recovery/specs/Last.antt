-- The keys that branches have written.
use Rattle.std.specs.Prelude.{◌≡◌, ℕ, Bool, ◌||◌, List}
use Rattle.std.specs.BTreeSet.{BTreeSet, contains}
use Rattle.std.specs.Cmp.Lexicographic.{slice_cmp}
use Rattle.std.specs.Ordering.{nat_cmp}
use Rattle.xa_codes.specs.declared.write.Write.{Write}
use Rattle.xa_model.specs.Durable.{is_written_in}

abbrev pub has_key : BTreeSet (List ℕ) → List ℕ → Bool
has_key keys key = contains (slice_cmp nat_cmp) keys key

-- the keys of these writes are noted besides the others
abbrev pub Notes : BTreeSet (List ℕ) → List Write → BTreeSet (List ℕ) → Type 0
Notes old writes new = (key : List ℕ) → has_key new key ≡ (is_written_in key writes || has_key old key)
