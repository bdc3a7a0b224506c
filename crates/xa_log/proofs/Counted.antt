-- The calls of a checkpoint, counted.
use Rattle.std.proofs.Common.{◌≡◌, ◌≢◌, ◌⊎◌, inl, inr, ⊎_elim, ℕ, ◌+◌, ◌≤◌, refl, sym, ◌∙◌, ap, subst, arith, add-one, Result, Err}
use Rattle.std.specs.Result.{IsErr}
use Rattle.xa_disk.specs.Counts.{with_write, with_sync}
use Rattle.xa_disk.specs.declared.counts.Counts.{Counts}
use Rattle.xa_log.specs.declared.appending.Appended.{Appended}
use Rattle.xa_log.specs.declared.appending.Appended.TheVariants.{Kept, Refused, Lost, Full}
use Rattle.xa_log.proofs.Fetch.{on_fault}
use Rattle.xa_log.specs.Calls.{with_writes, readied, PutCalls, RecordsCalls, AppendCalls, CheckpointCalls}

pub one_more : (i : ℕ) (first before now : Counts) → before ≡ with_writes i first → now ≡ with_write before → now ≡ with_writes (i + 1) first
one_more i first before now so is = is ∙ ap (λ (c : Counts). with_write c) so ∙ ap (λ (n : ℕ). with_writes n first) (sym (add-one i))

-- ---- the records

pub all_synced : (n i : ℕ) (first before now : Counts) → before ≡ with_writes i first → now ≡ with_write before → i + 1 ≡ n → (last : Counts)
    → last ≡ with_sync now → last ≡ with_sync (with_writes n first)
all_synced n i first before now so is all last synced =
    synced ∙ ap (λ (c : Counts). with_sync c) (one_more i first before now so is ∙ ap (λ (k : ℕ). with_writes k first) all)

module _ {T E : Type 0} (n i : ℕ) (first before now : Counts) (so : before ≡ with_writes i first) (is : now ≡ with_write before) where
  pub failed_write : (r : Result T E) → IsErr r → i + 1 ≤ n → RecordsCalls r n first now
  failed_write r err le = on_fault _ _ r err (inl (i + 1, omega arith, le, one_more i first before now so is))

  pub failed_sync : (r : Result T E) → IsErr r → i + 1 ≡ n → (last : Counts) → last ≡ with_sync now → RecordsCalls r n first last
  failed_sync r err all last synced = on_fault _ _ r err (inr (all_synced n i first before now so is all last synced))

-- ---- the three parts

module _ {T E : Type 0} (r : Result T E) (e : E) (err : r ≡ Err e) (n : ℕ) (old : Counts) where
  pub refused_front : (new : Counts) → PutCalls r old new → CheckpointCalls Refused n old new
  refused_front new put =
      let which : (new ≡ with_write old) ⊎ (new ≡ with_sync (with_write old)) = subst (λ (x : Result T E). PutCalls x old new) err put in
      inl (⊎_elim (λ w. inl w) (λ s. inr (inl s)) which)

  pub refused_records : (mid new : Counts) → mid ≡ with_sync (with_write old) → RecordsCalls r n mid new → CheckpointCalls Refused n old new
  refused_records mid new made calls =
      let first : Counts = with_sync (with_write old) in
      let which : ((k : ℕ) × (1 ≤ k) × (k ≤ n) × (new ≡ with_writes k first)) ⊎ (new ≡ with_sync (with_writes n first)) =
      subst (λ (c : Counts). ((k : ℕ) × (1 ≤ k) × (k ≤ n) × (new ≡ with_writes k c)) ⊎ (new ≡ with_sync (with_writes n c))) made
      (subst (λ (x : Result T E). RecordsCalls x n mid new) err calls) in
      inl (⊎_elim (λ k. inr (inr (inl k))) (λ s. inr (inr (inr s))) which)

pub sealed_calls : (o : Appended) → o ≢ Full → (n : ℕ) (old made ready new : Counts) → made ≡ with_sync (with_write old)
    → ready ≡ with_sync (with_writes n made) → AppendCalls o ready new → CheckpointCalls o n old new
sealed_calls o other n old made ready new front records calls = by o other (subst (λ (c : Counts). AppendCalls o c new) is calls)
  where
    is : ready ≡ readied n old
    is = records ∙ ap (λ (c : Counts). with_sync (with_writes n c)) front

    by : (p : Appended) → p ≢ Full → AppendCalls p (readied n old) new → CheckpointCalls p n old new
    by Kept other it = it
    by Refused other it = inr it
    by Lost other it = it
    by Full other it = absurd (other refl)
