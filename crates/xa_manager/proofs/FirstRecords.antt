-- The first records of a boot: that a log without records has no room for its first, and what they leave where they aren't
-- kept.
use Rattle.std.proofs.Common.{◌≡◌, ◌⊎◌, inl, inr, ⊎_elim, ◌+◌, ◌<◌, ◌≤◌, ℕ, Bool, refl, List, [], ◌∷◌, length, true, false, ap, sym, ◌∙◌, subst, arith}
use Rattle.std.specs.Prelude.{slice_index_or}
use Rattle.std.proofs.lemmas.Bool.{cases_Bool}
use Rattle.xa_disk.specs.Time.{LeavesOnly}
use Rattle.xa_disk.specs.declared.disk.Disk.{Ghosts}
use Rattle.xa_log.specs.Believed.Checkpoint.{HasBytes, LeavesAny, NeverEmpty}
use Rattle.xa_log.specs.Believed.Chain.{newest, text}
use Rattle.xa_log.specs.Believed.Damage.{AreAppended}
use Rattle.xa_log.specs.Believed.Pair.{generation}
use Rattle.xa_log.specs.Believed.LogView.{LogView}
use Rattle.xa_log.specs.Believed.Stands.{Stands, EndsBehind, Leaves}
use Rattle.xa_log.specs.Believed.TwoFiles.{Pair, AppendsTo, Checkpoints, Swaps, written}
use Rattle.xa_log.specs.declared.appending.Appended.{Appended}
use Rattle.xa_log.specs.declared.appending.Appended.TheVariants.{Kept, Refused, Lost, Full}
use Rattle.xa_manager.specs.Believed.Refused.{LogsFirst, KeepsCurrent}
use Rattle.xa_manager.proofs.LogLengths.{one_size, none_size}

pub first_full : {D : Type 0} (log : LogView D) (bodies : List (List ℕ)) (body : List ℕ)
    → bodies ≡ body ∷ [] → EndsBehind [] log → (log.lost ≡ false → log.log_bytes < log.end + 40 + length body)
    → log.log_bytes < length (text newest bodies) + 4
first_full log bodies body e ends full =
    let less = full ends.alive in
    subst (λ (l : List (List ℕ)). log.log_bytes < length (text newest l) + 4) (sym e)
    (omega (arith, less, ends.end, none_size log.format, one_size newest body))

-- a list of one body
pub one_body : (xs : List (List ℕ)) (x : List ℕ) (body : List ℕ) → length xs ≡ 1 → x ≡ slice_index_or xs 0 x → body ≡ x → xs ≡ body ∷ []
one_body [] x body one first same = absurd (omega (arith, one))
one_body (y ∷ []) x body one first same = ap (λ (l : List ℕ). l ∷ []) (sym (same ∙ first))
one_body (y ∷ (z ∷ zs)) x body one first same = absurd (omega (arith, one))

-- it begins the first generation
pub first_appended : (fresh : List (List ℕ)) (body : List ℕ) → fresh ≡ body ∷ [] → generation fresh ≤ 1 → AreAppended [] (body ∷ [])
first_appended fresh body only few = inr (refl, subst (λ (l : List (List ℕ)). generation l ≤ 1) only few)

-- what logging the first record of a log that was made does
pub appends_first : {D : Type 0} (disks : Ghosts D) (is_new : Bool) (o : Appended) (fresh : List (List ℕ)) (body : List ℕ) (old new : LogView D) → is_new ≡ true → fresh ≡ body ∷ []
    → (new.other ≡ old.other) × (new.on_first ≡ old.on_first)
    → generation fresh ≤ 1
    → (disks.honest → (bodies stood : List (List ℕ)) → Pair disks bodies stood old → AreAppended bodies (body ∷ []) → AppendsTo disks o bodies (body ∷ []) stood new)
    → (disks.honest → (bodies : List (List ℕ)) → Stands disks bodies old → LeavesOnly disks old.disk new.disk (Leaves old.log_bytes old.format bodies (body ∷ [])))
    → LogsFirst disks is_new o fresh old new
appends_first disks is_new o fresh body old new made only same few pair moment = inl (
  made,
  record {
    on_first = same.1;
    other = same.0;
    body = body;
    only = only;
    left = λ h stood p. (pair h [] stood p (first_appended fresh body only few), moment h [] p.current);
  },
)

-- and a checkpoint of the first records
swapped : {D : Type 0} (o : Appended) (fresh : List (List ℕ)) (old new : LogView D) → Swaps o fresh old new → KeepsCurrent o old new
swapped Kept fresh old new swaps = (swaps.0, swaps.1)
swapped Refused fresh old new swaps = (swaps.0, swaps.1)
swapped Lost fresh old new swaps = (swaps.0, swaps.1)
swapped {D} Full fresh old new swaps = (ap (λ (l : LogView D). l.disk) swaps, ap (λ (l : LogView D). l.on_first) swaps)

pub snapshots_first : {D : Type 0} (disks : Ghosts D) (is_new : Bool) (o : Appended) (fresh : List (List ℕ)) (old new : LogView D)
    → (old.lost ≡ false → Swaps o fresh old new) → (old.lost ≡ true → (o ≡ Lost) × (new ≡ old)) → new.log_bytes ≡ old.log_bytes
    → (disks.honest → (bodies stood : List (List ℕ)) → Pair disks bodies stood old → Checkpoints disks o bodies stood fresh new)
    → (disks.honest → (bodies stood : List (List ℕ)) → Pair disks bodies stood old → LeavesOnly disks old.other (written o new) (LeavesAny old.log_bytes newest stood fresh))
    → (disks.honest → NeverEmpty disks old.other → LeavesOnly disks old.other (written o new) HasBytes)
    → LogsFirst disks is_new o fresh old new
snapshots_first {D} disks is_new o fresh old new swaps lost same pair moment filled = inr (record {
  current =
      ⊎_elim
      (λ was. subst (λ (x : Appended). KeepsCurrent x old new) (sym (lost was).0) (ap (λ (l : LogView D). l.disk) (lost was).1, ap (λ (l : LogView D). l.on_first) (lost was).1))
      (λ alive. swapped o fresh old new (swaps alive)) (cases_Bool old.lost);
  log_bytes = same;
  left = λ h bodies stood p. (pair h bodies stood p, moment h bodies stood p);
  filled = filled;
})

-- they weren't kept
pub not_kept : (o : Appended) → (o ≡ Refused) ⊎ (o ≡ Lost) ⊎ (o ≡ Full) → o ≡ Kept → ⊥
not_kept o (inl is) kept = absurd (cc (is, kept))
not_kept o (inr (inl is)) kept = absurd (cc (is, kept))
not_kept o (inr (inr is)) kept = absurd (cc (is, kept))
