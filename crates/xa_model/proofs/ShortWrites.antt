-- A branch writes this many keys as a record takes, each write within its limits.
use Rattle.std.proofs.Common.{◌≡◌, ℕ, ◌+◌, ◌≤◌, Bool, true, false, not, ◌&&◌, cond, List, [], ◌∷◌, length, Option, Some, None, refl, ap, sym, subst, ◌∙◌, arith}
use Rattle.std.specs.Prelude.{suc, bytes_eq, is_some, nat_lt}
use Rattle.std.specs.Cmp.Lexicographic.{slice_cmp}
use Rattle.std.specs.List.{AllByRecursion}
use Rattle.std.specs.Ordering.{nat_cmp, is_lt}
use Rattle.std.proofs.lemmas.Bool.Decides.{nat_tests}
use Rattle.xa_codes.specs.declared.write.Write.{Write}
use Rattle.xa_record.specs.Limits.{IsWrite, AscendsFrom, AreWrites}
use Rattle.xa_model.specs.State.{Operation, Got, Walked, Wrote}
use Rattle.xa_model.specs.Source.{write_of, written_keys}
use Rattle.xa_model.specs.Durable.{Pairwise, keys_before, value_in, put_write, writes_of}
use Rattle.xa_model.specs.Fold.{is_empty}
use Rattle.xa_model.specs.Data.{is_full}
use Rattle.xa_limits.specs.declared.TheConstants.{MOST_WRITES}
use Rattle.xa_model.specs.Invariants.Loggable.{AreShort}
use Rattle.xa_model.proofs.Inserts.{all_imply}
use Rattle.xa_model.proofs.Members.{less_is, keys_transitive, other_key}
use Rattle.xa_model.proofs.LastOfKeys.{put_all, above, writes_of_law}

-- a write of a further key is one more

nowhere_above : (w : Write) (ws : List Write) → AllByRecursion (λ u. keys_before w u ≡ true) ws → value_in w.key ws ≡ None
nowhere_above w [] h = refl
nowhere_above w (u ∷ us) h = let other : bytes_eq u.key w.key ≡ false = other_key w u h.0 in rw other (nowhere_above w us h.1)

one_more : (c : Bool) (m n : ℕ) → m ≡ cond c n (n + 1) → suc m ≡ cond c (suc n) (suc n + 1)
one_more true m n e = omega (arith, e)
one_more false m n e = omega (arith, e)

put_length_by : (w v : Write) (vs : List Write) (c d : Bool) → bytes_eq v.key w.key ≡ c → keys_before v w ≡ d → Pairwise keys_before (v ∷ vs)
    → length (put_write w vs) ≡ cond (is_some (value_in w.key vs)) (length vs) (length vs + 1)
    → length (cond c (w ∷ vs) (cond d (v ∷ put_write w vs) (w ∷ v ∷ vs))) ≡ cond (is_some (cond c (Some v.value) (value_in w.key vs))) (length (v ∷ vs)) (length (v ∷ vs) + 1)
put_length_by w v vs true d e f h rest = refl
put_length_by w v vs false true e f h rest = one_more (is_some (value_in w.key vs)) (length (put_write w vs)) (length vs) rest
put_length_by w v vs false false e f h rest =
    let first : keys_before w v ≡ true = above v.key w.key e f in
    let none : value_in w.key vs ≡ None = nowhere_above w vs (all_imply (λ u. keys_before v u ≡ true) (λ u. keys_before w u ≡ true) (λ u k. keys_transitive.trans w v u first k) vs h.0) in
    rw none (omega arith)

put_length : (w : Write) (ws : List Write) → Pairwise keys_before ws → length (put_write w ws) ≡ cond (is_some (value_in w.key ws)) (length ws) (length ws + 1)
put_length w [] h = refl
put_length w (v ∷ vs) h = put_length_by w v vs (bytes_eq v.key w.key) (keys_before v w) refl refl h (put_length w vs h.1)

pub writes_count : (ops : List Operation) → length (writes_of ops) ≡ written_keys ops
writes_count [] = refl
writes_count (Got key answer source ∷ older) = writes_count older
writes_count (Walked range found ∷ older) = writes_count older
writes_count (Wrote key value ∷ older) =
    put_length (record { key = key; value = value }) (writes_of older) (writes_of_law older).0
    ∙ ap (λ (o : Option (Option (List ℕ))). cond (is_some o) (length (writes_of older)) (length (writes_of older) + 1)) ((writes_of_law older).1 key)
    ∙ ap (λ (n : ℕ). cond (is_some (write_of key older)) n (n + 1)) (writes_count older)

-- a branch that isn't full may write

few_by : (c : Bool) (n : ℕ) → (not c && not (nat_lt n MOST_WRITES)) ≡ false → n ≤ MOST_WRITES → cond c n (n + 1) ≤ MOST_WRITES
few_by true n e few = few
few_by false n e few = grind (arith, nat_tests)

pub wrote_short : (key : List ℕ) (value : Option (List ℕ)) (ops : List Operation) → IsWrite (record { key = key; value = value }) → is_full key ops ≡ false → AreShort (writes_of ops)
    → AreShort (writes_of (Wrote key value ∷ ops))
wrote_short key value ops limits room h =
    let count : length (writes_of ops) ≡ written_keys ops = writes_count ops in
    let few : written_keys ops ≤ MOST_WRITES = subst (λ (n : ℕ). n ≤ MOST_WRITES) count h.few in record {
      few = subst (λ (n : ℕ). n ≤ MOST_WRITES) (sym (writes_count (Wrote key value ∷ ops))) (few_by (is_some (write_of key ops)) (written_keys ops) room few);
      each = put_all IsWrite (record { key = key; value = value }) (writes_of ops) limits h.each;
    }

-- what a branch wrote, if anything, may be a record's

behind : (key : List ℕ) (ws : List Write) → AllByRecursion (λ u. is_lt (slice_cmp nat_cmp key u.key) ≡ true) ws → Pairwise keys_before ws → AscendsFrom key ws
behind key [] first h = tt
behind key (w ∷ ws) first h = (less_is (slice_cmp nat_cmp key w.key) first.0, behind w.key ws h.0 h.1)

above_nothing : (key : List ℕ) → 1 ≤ length key → is_lt (slice_cmp nat_cmp [] key) ≡ true
above_nothing [] some = absurd (omega (arith, some))
above_nothing (b ∷ bs) some = refl

some_written : (ws : List Write) → is_empty ws ≡ false → 1 ≤ length ws
some_written [] e = absurd (cc e)
some_written (w ∷ ws) e = omega arith

pub are_writes : (ops : List Operation) → is_empty (writes_of ops) ≡ false → AreShort (writes_of ops) → AreWrites (writes_of ops)
are_writes ops some h = record {
  some = some_written (writes_of ops) some;
  few = h.few;
  each = h.each;
  ascending = behind [] (writes_of ops) (all_imply IsWrite (λ u. is_lt (slice_cmp nat_cmp [] u.key) ≡ true) (λ u k. above_nothing u.key k.some) (writes_of ops) h.each) (writes_of_law ops).0;
}
