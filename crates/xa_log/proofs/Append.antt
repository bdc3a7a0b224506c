-- What an append leaves of a log's front, and what its count of faults tells.
use Rattle.std.proofs.Common.{◌≡◌, ◌≢◌, inl, inr, ℕ, ◌+◌, ◌-◌, ◌^◌, ◌<◌, ◌≤◌, Bool, false, cond, List, [], ◌∷◌, ◌++◌, length, take, drop, replicate, refl, ◌∙◌, ap, arith, append_assoc, length-append, suc, nat_eq}
use Rattle.std.proofs.lemmas.Bool.{eq-eqb}
use Rattle.std.proofs.lemmas.Bool.Decides.{nat_tests}
use Rattle.std.proofs.lemmas.List.{take_at, drop_at, length-replicate}
use Rattle.xa_disk.specs.Counts.{plus}
use Rattle.xa_disk.specs.Disk.{put, Torn}
use Rattle.xa_disk.specs.declared.counts.Counts.{Counts}
use Rattle.xa_log.specs.Answers.{HasCause}
use Rattle.xa_log.specs.Calls.{AppendsAhead}
use Rattle.xa_log.specs.Believed.Chain.{start, last, text, digest, record_of, records, Rests}
use Rattle.xa_log.specs.Believed.Pair.{number_in, generation}
use Rattle.xa_log.specs.declared.appending.Appended.{Appended}
use Rattle.xa_log.specs.declared.appending.Appended.TheVariants.{Kept, Refused, Lost, Full}
use Rattle.xa_log.specs.declared.format.Format.{Format}
use Rattle.xa_log.proofs.Records.{length-record_of, length-text, closed_zeros}
use Rattle.xa_log.proofs.Torn.{torn_front, put_within}

module _ (format : Format) (bodies : List (List ℕ)) (file : List ℕ) (rests : Rests format bodies file) where
  abbrev end : ℕ
  end = length (text format bodies)

  long : end ≤ length file
  long = omega (arith, ap length rests.split, length-append (text format bodies) rests.rest)

  front : take end file ≡ text format bodies
  front = ap (λ (l : List ℕ). take end l) rests.split ∙ take_at (text format bodies) rests.rest end refl

  -- it begins with the log too
  pub torn_begins : (n : ℕ) (mid : List ℕ) → Torn end n file mid → (end ≤ length mid) × (take end mid ≡ text format bodies)
  torn_begins n mid torn = (omega (arith, long, torn.no_shorter), torn_front end n file mid long torn ∙ front)

  pub begins_same : (end ≤ length file) × (take end file ≡ text format bodies)
  begins_same = (long, front)

  zeros_split : (n : ℕ) → replicate {A = ℕ} (4 + n) 0 ≡ 0 ∷ 0 ∷ 0 ∷ 0 ∷ replicate n 0
  zeros_split n = let m : 4 + n ≡ suc (suc (suc (suc n))) = omega arith in ap (λ (k : ℕ). replicate {A = ℕ} k 0) m

  cleared : (n : ℕ) (mid new : List ℕ) → (end ≤ length mid) × (take end mid ≡ text format bodies) → new ≡ put mid end (replicate (4 + n) 0)
      → new ≡ text format bodies ++ (replicate (4 + n) 0 ++ drop (end + length {A = ℕ} (replicate (4 + n) 0)) mid)
  cleared n mid new begins is =
      let zeros : List ℕ = replicate (4 + n) 0 in
      let tail = drop (end + length zeros) mid in
      is ∙ put_within mid end zeros begins.0
      ∙ ap (λ (l : List ℕ). l ++ zeros ++ tail) begins.1
      ∙ append_assoc (text format bodies) zeros tail

  pub refused : (n : ℕ) (mid new : List ℕ) → (end ≤ length mid) × (take end mid ≡ text format bodies) → new ≡ put mid end (replicate (4 + n) 0)
      → Rests format bodies new × (take (4 + n) (drop end new) ≡ replicate (4 + n) 0)
  refused n mid new begins is =
      let zeros : List ℕ = replicate (4 + n) 0 in
      let tail = drop (end + length zeros) mid in
      let whole = cleared n mid new begins is in (
        record {
          rest = 0 ∷ 0 ∷ 0 ∷ 0 ∷ (replicate n 0 ++ tail);
          split = whole ∙ ap (λ (l : List ℕ). text format bodies ++ (l ++ tail)) (zeros_split n);
          sizes = rests.sizes;
          closed = closed_zeros format (last (start format) bodies) (replicate n 0 ++ tail);
        },
        ap (λ (l : List ℕ). take (4 + n) (drop end l)) whole
            ∙ ap (λ (l : List ℕ). take (4 + n) l) (drop_at (text format bodies) (zeros ++ tail) end refl)
            ∙ take_at zeros tail (4 + n) (length-replicate (4 + n) 0),
      )

-- ---- a log's generation

isnt_eight : (n : ℕ) → 8 < n → nat_eq n 8 ≡ false
isnt_eight n h = grind (arith, nat_tests)

-- of a log with one body more
pub generation_more : (format : Format) (bodies : List (List ℕ)) (body : List ℕ) (end number : ℕ) → end ≡ length (text format bodies) → number ≡ generation bodies
    → cond (nat_eq end 8) (number_in body) number ≡ generation (bodies ++ body ∷ [])
generation_more format [] body end number at is = ap (λ (t : Bool). cond t (number_in body) number) (eq-eqb end 8 (at ∙ length-text format []))
generation_more format (b ∷ bodies) body end number at is =
    let long : 8 < end =
    omega (arith, at, length-text format (b ∷ bodies), length-append (record_of (start format) b) (records (digest (start format) b) bodies), length-record_of (start format) b) in
    ap (λ (t : Bool). cond t (number_in body) number) (isnt_eight end long) ∙ is

-- a fault tells itself by the count
pub kept_if : (o : Appended) (a b : ℕ) → HasCause o a b → a < 2 ^ 64 - 1 → b ≡ a → o ≢ Full → o ≡ Kept
kept_if Kept a b cause low same other = refl
kept_if Refused a b cause low same other = absurd (omega (arith, cause))
kept_if Lost a b cause low same other = absurd (omega (arith, cause))
kept_if Full a b cause low same other = absurd (other refl)

-- the same of an append
pub kept_ahead : (more : ℕ) (o : Appended) (a b : ℕ) (c d : Counts) → AppendsAhead more o a b c d → a < 2 ^ 64 - 1 → b ≡ a → o ≢ Full → o ≡ Kept
kept_ahead more o a b c d (inl x) low same other = kept_if o a b x.0 low same other
kept_ahead more Kept a b c d (inr x) low same other = refl
kept_ahead more Refused a b c d (inr x) low same other = let rise : plus a 1 < b = x.1 (omega arith) in absurd (omega (arith, rise))
kept_ahead more Lost a b c d (inr x) low same other = let rise : plus a 1 < b = x.1 (omega arith) in absurd (omega (arith, rise))
kept_ahead more Full a b c d (inr x) low same other = absurd (other refl)
