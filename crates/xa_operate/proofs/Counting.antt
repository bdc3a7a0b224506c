-- What a server has counted is looked up, and added.
use Rattle.std.proofs.Common.{◌≡◌, ◌≤◌, ◌+◌, ◌-◌, ◌^◌, ◌==◌, ℕ, zero, suc, false, List, [], ◌∷◌, ◌++◌, length, drop, get_or, Result, Ok, Err, refl, ap, ◌∙◌, arith, add-one, append_assoc}
use Rattle.std.specs.Prelude.{min, nat_lt, if◌then◌else◌, OnOk}
use Rattle.std.specs.Result.{is_ok}
use Rattle.std.proofs.lemmas.Bool.{ne_eqb}
use Rattle.std.proofs.lemmas.Bool.Decides.{nat_tests}
use Rattle.xa_operate.specs.Families.{headed}
use Rattle.xa_operate.specs.Histograms.{bucket_line, bucket_lines, first_id, in_buckets}
use Rattle.xa_operate.specs.Rows.{Rises}
use Rattle.xa_operate.specs.Told.{count_of, told}
use Rattle.xa_operate.specs.declared.histogram.Histogram.{Histogram}
use Rattle.xa_operate.specs.declared.histogram.TheConstants.{GROUPS}

-- a pair of another id is passed over
pub pair_passed : (id : ℕ) (rest : List ℕ) → 2 ≤ length rest → (get_or rest 0 0 ≡ id → ⊥) → told rest id ≡ told (drop 2 rest) id
pair_passed id [] long other = absurd (omega (arith, long))
pair_passed id (x ∷ []) long other = absurd (omega (arith, long))
pair_passed id (x ∷ n ∷ rest) long other = rw (ne_eqb x id other) refl

-- samples have their heading, as there are some
pub with_heading : {X E : Type 0} (r : Result X E) (heading some samples old mid new : List ℕ) → false ≡ (length some == 0) → some ≡ samples
    → mid ≡ old ++ heading → new ≡ (if is_ok r then mid ++ some else mid) → OnOk r (new ≡ old ++ headed heading samples)
with_heading (Ok x) heading [] samples old mid new there is front behind = absurd (cc there)
with_heading (Ok x) heading (c ∷ cs) samples old mid new there is front behind =
    behind ∙ ap (λ (l : List ℕ). l ++ c ∷ cs) front ∙ append_assoc old heading (c ∷ cs) ∙ ap (λ (l : List ℕ). old ++ headed heading l) is
with_heading (Err e) heading some samples old mid new there is front behind = tt

module _ (histogram : Histogram) (numbers : List ℕ) where
  -- what is in one bucket more
  pub bucket_more : (k before count first n : ℕ) → before ≡ in_buckets histogram numbers k → first ≡ first_id histogram → count ≡ count_of numbers (first + k)
      → n ≡ min (before + count) (2 ^ 64 - 1) → n ≡ in_buckets histogram numbers (k + 1)
  bucket_more k before count first n was at is sum =
      rw (add-one k) (sum ∙ ap (λ (x : ℕ). min (x + count) (2 ^ 64 - 1)) was
      ∙ ap (λ (x : ℕ). min (in_buckets histogram numbers k + x) (2 ^ 64 - 1)) (is ∙ ap (λ (x : ℕ). count_of numbers (x + k)) at))

  -- its line
  pub line_more : (k n : ℕ) (old mid new : List ℕ) → mid ≡ old ++ bucket_lines histogram numbers k → n ≡ in_buckets histogram numbers (k + 1)
      → new ≡ mid ++ bucket_line histogram k n → new ≡ old ++ bucket_lines histogram numbers (k + 1)
  line_more k n old mid new before is line = go (k + 1) (add-one k) is
    where
      go : (j : ℕ) → j ≡ suc k → n ≡ in_buckets histogram numbers j → new ≡ old ++ bucket_lines histogram numbers j
      go j same there =
          rw same (line ∙ ap (λ (l : List ℕ). l ++ bucket_line histogram k n) before
          ∙ append_assoc old (bucket_lines histogram numbers k) (bucket_line histogram k n)
          ∙ ap (λ (x : ℕ). old ++ (bucket_lines histogram numbers k ++ bucket_line histogram k x))
          (there ∙ ap (λ (i : ℕ). in_buckets histogram numbers i) same))

few_counted : (histogram : Histogram) (numbers : List ℕ) (k : ℕ) → in_buckets histogram numbers k ≤ 2 ^ 64 - 1
few_counted histogram numbers zero = omega arith
few_counted histogram numbers (suc k) = omega arith

larger : (a b : ℕ) → b ≤ (if nat_lt a b then b else a)
larger a b = grind (arith, nat_tests)

-- buckets are cumulative
pub rises : (histogram : Histogram) (numbers : List ℕ) → Rises histogram numbers
rises histogram numbers = record {
  each = λ k. omega (arith, few_counted histogram numbers k);
  last = λ n. larger (count_of numbers GROUPS) n;
}
