-- Bytes that are tried with more after them.
use Rattle.std.proofs.Common.{◌≡◌, inl, inr, ⊎_elim, ℕ, ◌+◌, ◌≤◌, List, length, take, replicate, refl, sym, ◌∙◌, ap, subst, arith}
use Rattle.std.specs.Prelude.{Result, Ok, Err, OnOk, OnErr}
use Rattle.std.proofs.lemmas.List.{length-take, length-replicate}
use Rattle.xa_disk.specs.declared.disk.Disk.{Ghosts}
use Rattle.xa_disk.specs.Disk.{put, Torn, Same, Only, Passes}
use Rattle.xa_disk.specs.Time.{TimePasses}
use Rattle.xa_disk.specs.Images.{put_torn, torn_same}
use Rattle.xa_disk.specs.declared.counts.Counts.{Counts}
use Rattle.xa_log.specs.Answers.{FailedPut, Wrote, FailedPutAhead, LeftWritten, PutBecame, PutAheadBecame, HasCause}
use Rattle.xa_log.specs.Calls.{AppendCalls, AppendsAhead}
use Rattle.xa_log.specs.declared.appending.Appended.{Appended}
use Rattle.xa_log.specs.declared.appending.Appended.TheVariants.{Kept, Refused, Lost, Full}
use Rattle.xa_log.proofs.Torn.{stays, torn_then, then}

pub torn_wider : (at n m : ℕ) (old new : List ℕ) → n ≤ m → Torn at n old new → Torn at m old new
torn_wider at n m old new le t = record {
  no_shorter = t.no_shorter;
  no_longer = omega (arith, t.no_longer, le);
  below = t.below;
  above = λ i l h. t.above i l (omega (arith, h, le));
}

pub shorter : (n : ℕ) (l bytes : List ℕ) → n ≤ length bytes → length (take n l) ≤ length bytes
shorter n l bytes le = omega (arith, length-take n l)

-- as many zeros
pub some_zeros : (n : ℕ) (few new : List ℕ) → length few ≡ n → take (0 + n) new ≡ replicate n 0 → take n new ≡ replicate (length few) 0
some_zeros n few new same is =
    let all : 0 + n ≡ n = omega arith in
    ap (λ (k : ℕ). take k new) (sym all) ∙ is ∙ ap (λ (k : ℕ). replicate {A = ℕ} k 0) (sym same)

pub steps : (step wider : List ℕ → List ℕ → Type 0) → ((d c : List ℕ) → step d c → wider d c) → (m n : ℕ) (past since : ℕ → List ℕ → Type 0) (old new : List ℕ → Type 0)
    → Passes step m n past since old new → Passes wider m n past since old new
steps step wider by m n past since old new p = record {
  later = p.later;
  follows = λ c now. let x = p.follows c now in (x.0, x.1, by x.0 c x.2);
  nothing_else = λ t c le left. ⊎_elim (λ was. inl was) (λ x. inr (x.0, x.1, by x.0 c x.2)) (p.nothing_else t c le left);
  keeps = p.keeps;
}

module _ {D : Type 0} (disks : Ghosts D) where
  -- what was written may be left by a sync that fails
  pub fell_wrote : (at : ℕ) (few bytes : List ℕ) (old new last : D) → disks.seen last ≡ disks.seen new → Wrote disks at few bytes old new
      → FailedPutAhead disks.tears (disks.seen old) at few bytes (disks.seen last)
  fell_wrote at few bytes old new last same (inl is) = inl (inl (same ∙ is))
  fell_wrote at few bytes old new last same (inr x) = inr (x.0, x.2, x.3, inl (same ∙ x.4))

  -- what a write left, by what it was answered
  pub left_by : {T E : Type 0} (write : Result T E) (at : ℕ) (few bytes : List ℕ) (old new : D) → OnOk write (Wrote disks at few bytes old new)
      → OnErr write (FailedPutAhead disks.tears (disks.seen old) at few bytes (disks.seen new)) → LeftWritten disks write at few bytes old new
  left_by (Ok x) at few bytes old new wrote fell = wrote
  left_by (Err e) at few bytes old new wrote fell = fell

  -- where it failed, or its sync
  pub fell_by : {T E : Type 0} (write : Result T E) (at : ℕ) (few bytes : List ℕ) (old mid last : D) → disks.seen last ≡ disks.seen mid → LeftWritten disks write at few bytes old mid
      → FailedPutAhead disks.tears (disks.seen old) at few bytes (disks.seen last)
  fell_by (Ok x) at few bytes old mid last same wrote = fell_wrote at few bytes old mid last same wrote
  fell_by (Err e) at few bytes old mid last same fell = subst (λ f. FailedPutAhead disks.tears (disks.seen old) at few bytes f) (sym same) fell

  pub time_still : (at n : ℕ) (old mid new : D) → TimePasses disks (Torn at n) old mid → TimePasses disks Same mid new → TimePasses disks (Torn at n) old new
  time_still at n old mid new p q = then (Torn at n) (torn_then at n) _ _ _ _ _ _ _ _ _ p (stays (Torn at n) (torn_same at n) _ _ _ _ _ _ q)

  pub time_then : (at n m : ℕ) (old mid new : D) → m ≤ n → TimePasses disks (Torn at n) old mid → TimePasses disks (Torn at m) mid new → TimePasses disks (Torn at n) old new
  time_then at n m old mid new le p q =
      then (Torn at n) (torn_then at n) _ _ _ _ _ _ _ _ _ p (steps (Torn at m) (Torn at n) (λ d c t. torn_wider at m n d c le t) _ _ _ _ _ _ q)

  module _ (tears_torn : (old : List ℕ) (at : ℕ) (bytes new : List ℕ) → disks.tears old at bytes new → Torn at (length bytes) old new) where
    pub torn_fell : (at : ℕ) (bytes old new : List ℕ) → FailedPut disks.tears old at bytes new → Torn at (length bytes) old new
    torn_fell at bytes old new (inl is) = subst (λ f. Torn at (length bytes) old f) (sym is) (put_torn old at bytes)
    torn_fell at bytes old new (inr t) = tears_torn old at bytes new t

    pub torn_ahead : (at : ℕ) (few bytes old new : List ℕ) → FailedPutAhead disks.tears old at few bytes new → Torn at (length bytes) old new
    torn_ahead at few bytes old new (inl fell) = torn_fell at bytes old new fell
    torn_ahead at few bytes old new (inr x) =
        torn_then at (length bytes) old x.1 new (tears_torn old at bytes x.1 x.2)
        (torn_wider at (length few) (length bytes) x.1 new (omega (arith, x.0)) (torn_fell at few x.1 new x.3))

    pub torn_wrote : (at : ℕ) (few bytes : List ℕ) (old new : D) → Wrote disks at few bytes old new → Torn at (length bytes) (disks.seen old) (disks.seen new)
    torn_wrote at few bytes old new wrote = torn_ahead at few bytes (disks.seen old) (disks.seen new) (fell_wrote at few bytes old new new refl wrote)

    -- ---- what zeros over those that count make of it

    module _ (at : ℕ) (few bytes zeros : List ℕ) (old mid new : D) (less : length few ≤ length bytes) (cleared : zeros ≡ replicate (length few) 0)
        (fell : FailedPutAhead disks.tears (disks.seen old) at few bytes (disks.seen mid)) where
      pub went_refused : disks.seen new ≡ put (disks.seen mid) at zeros → Only (disks.seen new) (disks.may_leave new) → PutAheadBecame disks Refused at few bytes old new
      went_refused is only =
          (disks.seen mid, torn_ahead at few bytes (disks.seen old) (disks.seen mid) fell, is ∙ ap (λ (l : List ℕ). put (disks.seen mid) at l) cleared, only)

      pub went_lost : FailedPut disks.tears (disks.seen mid) at zeros (disks.seen new) → PutAheadBecame disks Lost at few bytes old new
      went_lost last =
          let n : length zeros ≤ length bytes = omega (arith, less, ap length cleared, length-replicate {A = ℕ} (length few) 0) in (
            torn_then at (length bytes) (disks.seen old) (disks.seen mid) (disks.seen new) (torn_ahead at few bytes (disks.seen old) (disks.seen mid) fell)
                (torn_wider at (length zeros) (length bytes) (disks.seen mid) (disks.seen new) n (torn_fell at zeros (disks.seen mid) (disks.seen new) last)),
            disks.seen mid,
            fell,
            subst (λ (l : List ℕ). FailedPut disks.tears (disks.seen mid) at l (disks.seen new)) cleared last,
          )

  -- ---- where all the bytes count

  module _ (at : ℕ) (few bytes : List ℕ) (old new : D) (all : few ≡ bytes) where
    pub fell_alone : (mid : List ℕ) → FailedPutAhead disks.tears (disks.seen old) at few bytes mid → FailedPut disks.tears (disks.seen old) at bytes mid
    fell_alone mid (inl fell) = fell
    fell_alone mid (inr x) = absurd (omega (arith, x.0, ap length all))

    wrote_alone : Wrote disks at few bytes old new → disks.seen new ≡ put (disks.seen old) at bytes
    wrote_alone (inl is) = is
    wrote_alone (inr x) = absurd (omega (arith, x.0, ap length all))

    pub went_alone : (o : Appended) → PutAheadBecame disks o at few bytes old new → PutBecame disks.tears o at bytes (disks.seen old) (disks.seen new) (disks.may_leave new)
    went_alone Kept went = (wrote_alone went.0, went.1)
    went_alone Refused went = (went.0, went.1, went.2 ∙ ap (λ (l : List ℕ). put went.0 at (replicate (length l) 0)) all, went.3)
    went_alone Lost went =
        (went.0, went.1, fell_alone went.1 went.2, subst (λ (l : List ℕ). FailedPut disks.tears went.1 at (replicate (length l) 0) (disks.seen new)) all went.3)
    went_alone Full went = went

pub calls_alone : (more : ℕ) (o : Appended) (a b : ℕ) (c d : Counts) → more ≡ 0 → AppendsAhead more o a b c d → HasCause o a b × AppendCalls o c d
calls_alone more o a b c d none (inl x) = x
calls_alone more o a b c d none (inr x) = absurd (omega (arith, x.0, none))
