-- A log over two files, after each answer.
use Rattle.std.proofs.Common.{◌≡◌, ◌≢◌, ◌⊎◌, inl, inr, ⊎_elim, ℕ, ◌-◌, ◌^◌, ◌≤◌, ◌<◌, Bool, true, false, ◌&&◌, ◌||◌, List, [], ◌∷◌, ◌++◌, length, refl, sym, ◌∙◌, ap, subst, arith, nat_lt, nat_eq}
use Rattle.std.proofs.lemmas.Bool.{or_cases, and_parts, ltb-true}
use Rattle.xa_disk.specs.Disk.{Only, Same}
use Rattle.xa_disk.specs.Time.{LeavesOnly}
use Rattle.xa_disk.specs.declared.disk.Disk.{Ghosts}
use Rattle.xa_log.specs.declared.format.Format.{Format}
use Rattle.xa_log.specs.Believed.Chain.{newest, start, last, text, Rests}
use Rattle.xa_log.specs.Believed.Pair.{generation, beats, IsCalm}
use Rattle.xa_log.specs.Believed.Checkpoint.{IsOther, IsQuiet, LeavesOf, LeavesSealed, LeavesAny, Checkpointed}
use Rattle.xa_log.specs.Believed.Damage.{breaks_off}
use Rattle.xa_log.specs.Believed.Stands.{Stands}
use Rattle.xa_log.specs.Believed.TwoFiles.{Pair, Checkpoints, written}
use Rattle.xa_log.specs.declared.appending.Appended.{Appended}
use Rattle.xa_log.specs.declared.appending.Appended.TheVariants.{Kept, Refused, Lost, Full}
use Rattle.xa_log.specs.Believed.LogView.{LogView}
use Rattle.xa_log.proofs.Pair.{beats_nil, beats_above, calm_logged}
use Rattle.xa_log.specs.Answers.{HasCause}
use Rattle.xa_log.proofs.Append.{kept_if}
use Rattle.xa_log.proofs.Ready.{leaves_by}
use Rattle.xa_log.proofs.Parts.{others_log}

-- a log with one record more comes before what it came before
pub beats_more : (first : Bool) (bodies : List (List ℕ)) (body : List ℕ) (stood : List (List ℕ)) → beats first bodies stood ≡ true
    → beats first (bodies ++ body ∷ []) stood ≡ true
beats_more first (b ∷ bodies) body stood wins = wins
beats_more first [] body [] wins = beats_nil first (body ∷ [])
beats_more first [] body (d ∷ stood) wins = absurd
    (⊎_elim (λ lt. omega (arith, ltb-true (generation (d ∷ stood)) 0 lt))
    (λ both. later first (and_parts (nat_eq (generation (d ∷ stood)) 0) _ both).1) (or_cases (nat_lt (generation (d ∷ stood)) 0) _ wins))
  where
    later : (f : Bool) → (false || (f && false)) ≡ true → ⊥
    later true is = cc is
    later false is = cc is

-- a checkpoint that was kept, whatever stood in the other file
pub replaced : {D : Type 0} (disks : Ghosts D) (bodies stood : List (List ℕ)) (old new : LogView D) → (s : Stands disks bodies old)
    → (format : Format) (fresh : List (List ℕ)) → old.generation < generation fresh → (o : Appended) (d : D) → o ≡ Kept
    → Checkpointed disks o old.log_bytes format stood fresh old.other d
    → new.disk ≡ d → new.other ≡ old.disk → new.log_bytes ≡ old.log_bytes → new.format ≡ format
    → new.end ≡ length (text format fresh) → new.digest ≡ last (start format) fresh → new.generation ≡ generation fresh → new.lost ≡ old.lost
    → Pair disks fresh bodies new × IsQuiet disks bodies new.other
replaced disks bodies stood old new s format fresh less o d is left disk other most form end digest number lost =
    let now : Checkpointed disks Kept old.log_bytes format stood fresh old.other d = subst (λ x. Checkpointed disks x old.log_bytes format stood fresh old.other d) is left in
    let was = others_log old.format disks old.log_bytes bodies old.disk s.file s.whole s.fits s.durable in
    let same : IsOther disks new.log_bytes bodies new.other =
    subst (λ m. IsOther disks m bodies new.other) (sym most) (subst (λ x. IsOther disks old.log_bytes bodies x) (sym other) was.0) in
    let quiet : IsQuiet disks bodies new.other = subst (λ x. IsQuiet disks bodies x) (sym other) was.1 in (
      record {
        current = record {
          file = subst (λ k. Rests k fresh (disks.seen new.disk)) (sym form) (subst (λ x. Rests format fresh (disks.seen x)) (sym disk) now.0);
          fits = subst (λ m. length (disks.seen new.disk) ≤ m) (sym most) (subst (λ x. length (disks.seen x) ≤ old.log_bytes) (sym disk) now.1);
          end = subst (λ k. new.end ≡ length (text k fresh)) (sym form) end;
          digest = subst (λ k. new.digest ≡ last (start k) fresh) (sym form) digest;
          number = number;
          durable = subst (λ x. Only (disks.seen x) (disks.may_leave x)) (sym disk) now.2;
          alive = lost ∙ s.alive;
          whole = subst (λ k. breaks_off k fresh (disks.seen new.disk) ≡ false) (sym form) (subst (λ x. breaks_off format fresh (disks.seen x) ≡ false) (sym disk) now.3);
        };
        other = same;
        calm_on = λ lucky. quiet.calm;
        older = beats_above new.on_first fresh bodies (subst (λ (n : ℕ). n < generation fresh) s.number less);
      },
      quiet,
    )

pub kept_pair : {D : Type 0} (disks : Ghosts D) (bodies stood fresh : List (List ℕ)) (new : LogView D) (o : Appended) → o ≡ Kept
    → Pair disks fresh bodies new × IsQuiet disks bodies new.other → Checkpoints disks o bodies stood fresh new
kept_pair disks bodies stood fresh new o is kept = subst (λ x. Checkpoints disks x bodies stood fresh new) (sym is) kept

module _ {D : Type 0} (disks : Ghosts D)
    (bodies stood : List (List ℕ)) (old new : LogView D) (p : Pair disks bodies stood old) where
  -- the other file stays
  pub pair_on : (now : List (List ℕ)) → Stands disks now new → new.other ≡ old.other → new.on_first ≡ old.on_first
      → new.log_bytes ≡ old.log_bytes → beats old.on_first now stood ≡ true → Pair disks now stood new
  pair_on now s other first most wins = record {
    current = s;
    other = subst (λ m. IsOther disks m stood new.other) (sym most) (subst (λ d. IsOther disks old.log_bytes stood d) (sym other) p.other);
    calm_on = λ lucky. subst (λ d. IsCalm stood (disks.seen d)) (sym other) (p.calm_on lucky);
    older = ap (λ (b : Bool). beats b now stood) first ∙ wins;
  }

  abbrev Left : Format → Appended → List (List ℕ) → D → Type 0
  Left format o fresh d = Checkpointed disks o old.log_bytes format stood fresh old.other d

  -- the log's generation is that of its bodies
  above : (fresh : List (List ℕ)) → old.generation < generation fresh → generation bodies < generation fresh
  above fresh less = subst (λ (n : ℕ). n < generation fresh) p.current.number less

  -- the current file stays
  rests_still : new.disk ≡ old.disk → new.format ≡ old.format → Rests new.format bodies (disks.seen new.disk)
  rests_still disk form = subst (λ k. Rests k bodies (disks.seen new.disk)) (sym form) (subst (λ x. Rests old.format bodies (disks.seen x)) (sym disk) p.current.file)

  whole_still : new.disk ≡ old.disk → new.format ≡ old.format → breaks_off new.format bodies (disks.seen new.disk) ≡ false
  whole_still disk form = subst (λ k. breaks_off k bodies (disks.seen new.disk) ≡ false) (sym form) (subst (λ x. breaks_off old.format bodies (disks.seen x) ≡ false) (sym disk) p.current.whole)

  stays : new.disk ≡ old.disk → new.log_bytes ≡ old.log_bytes → new.format ≡ old.format → new.end ≡ old.end → new.digest ≡ old.digest
      → new.generation ≡ old.generation → new.lost ≡ old.lost → Stands disks bodies new
  stays disk most form end digest number lost = record {
    file = rests_still disk form;
    fits = subst (λ m. length (disks.seen new.disk) ≤ m) (sym most) (subst (λ x. length (disks.seen x) ≤ old.log_bytes) (sym disk) p.current.fits);
    end = subst (λ k. new.end ≡ length (text k bodies)) (sym form) (end ∙ p.current.end);
    digest = subst (λ k. new.digest ≡ last (start k) bodies) (sym form) (digest ∙ p.current.digest);
    number = number ∙ p.current.number;
    durable = subst (λ x. Only (disks.seen x) (disks.may_leave x)) (sym disk) p.current.durable;
    alive = lost ∙ p.current.alive;
    whole = whole_still disk form;
  }

  pub refused_pair : (format : Format) (fresh : List (List ℕ)) (o : Appended) → (o ≡ Refused) ⊎ (o ≡ Full) → o ≢ Full → Left format o fresh new.other
      → new.disk ≡ old.disk → new.on_first ≡ old.on_first → new.log_bytes ≡ old.log_bytes → new.format ≡ old.format → new.end ≡ old.end
      → new.digest ≡ old.digest → new.generation ≡ old.generation → new.lost ≡ old.lost
      → Checkpoints disks o bodies stood fresh new
  refused_pair format fresh o (inr is) other left disk first most form end digest number lost = absurd (other is)
  refused_pair format fresh o (inl is) other left disk first most form end digest number lost =
      let now : Left format Refused fresh new.other = subst (λ x. Left format x fresh new.other) is left in
      let s = stays disk most form end digest number lost in
      subst (λ x. Checkpoints disks x bodies stood fresh new) (sym is) (⊎_elim
      (λ x. inl (record { current = s; other = subst (λ m. IsOther disks m stood new.other) (sym most) x.0; calm_on = λ lucky. x.1 lucky (p.calm_on lucky); older = ap (λ (b : Bool). beats b bodies stood) first ∙ p.older }))
      (λ x. inr (record { current = s; other = subst (λ m. IsOther disks m [] new.other) (sym most) x.0; calm_on = λ lucky. (quiet x.1).calm; older = beats_nil new.on_first bodies }, x.1))
      now)
    where
      quiet : IsQuiet disks [] new.other → IsQuiet disks [] new.other
      quiet q = q

  pub lost_pair : (format : Format) (fresh : List (List ℕ)) → old.generation < generation fresh → (o : Appended) → o ≡ Lost
      → Left format o fresh new.other → new.disk ≡ old.disk → new.log_bytes ≡ old.log_bytes → new.format ≡ old.format → new.lost ≡ true
      → Checkpoints disks o bodies stood fresh new
  lost_pair format fresh less o is left disk most form lost =
      let now : Left format Lost fresh new.other = subst (λ x. Left format x fresh new.other) is left in
      subst (λ x. Checkpoints disks x bodies stood fresh new) (sym is) (record {
        file = rests_still disk form;
        fits = subst (λ m. length (disks.seen new.disk) ≤ m) (sym most) (subst (λ x. length (disks.seen x) ≤ old.log_bytes) (sym disk) p.current.fits);
        durable = subst (λ x. Only (disks.seen x) (disks.may_leave x)) (sym disk) p.current.durable;
        whole = whole_still disk form;
        other = subst (λ m. LeavesSealed m fresh (disks.seen new.other)) (sym most) now.0;
        calm_on = now.1;
        left = λ c l. subst (λ m. LeavesSealed m fresh c) (sym most) (now.2 c l);
        above = above fresh less;
        lost = lost;
      })

  -- nothing was asked of the disks
  pub other_still : ((c : List ℕ) → disks.left_since old.other (disks.moment old.other) c → disks.may_leave old.other c) → (format : Format) (fresh : List (List ℕ))
      → LeavesOnly disks old.other old.other (LeavesAny old.log_bytes format stood fresh)
  other_still only_now format fresh =
      leaves_by disks old.other old.other Same (LeavesAny old.log_bytes format stood fresh) only_now (λ c. refl)
      (λ d c left same. inl (subst (λ x. LeavesOf old.log_bytes stood x) (sym same)
      (record { fits = p.other.left_fits d left; reads = calm_logged stood d (p.other.left_behind d left) })))
      (record { later = omega arith; follows = λ c now. (c, now, refl); nothing_else = λ t c le left. inl left; keeps = λ t c le left. left })

-- the file that was written
pub wrote_kept : {D : Type 0} (o : Appended) (new : LogView D) (d : D) → o ≡ Kept → new.disk ≡ d → written o new ≡ d
wrote_kept o new d is disk = subst (λ x. written x new ≡ d) (sym is) disk

pub wrote_lost : {D : Type 0} (o : Appended) (new : LogView D) (d : D) → o ≡ Lost → new.other ≡ d → written o new ≡ d
wrote_lost o new d is other = subst (λ x. written x new ≡ d) (sym is) other

pub wrote_refused : {D : Type 0} (o : Appended) (new : LogView D) (d : D) → (o ≡ Refused) ⊎ (o ≡ Full) → new.other ≡ d → written o new ≡ d
wrote_refused o new d (inl is) other = subst (λ x. written x new ≡ d) (sym is) other
wrote_refused o new d (inr is) other = subst (λ x. written x new ≡ d) (sym is) other

pub moments_of : {D : Type 0} (disks : Ghosts D) (most : ℕ) (format : Format) (stood fresh : List (List ℕ)) (old d new : D)
    → new ≡ d → format ≡ newest → LeavesOnly disks old d (LeavesAny most format stood fresh) → LeavesOnly disks old new (LeavesAny most newest stood fresh)
moments_of disks most format stood fresh old d new is newest_is leaves =
    subst (λ x. LeavesOnly disks old x (LeavesAny most newest stood fresh)) (sym is)
    (subst (λ f. LeavesOnly disks old d (LeavesAny most f stood fresh)) newest_is leaves)

-- a fault tells itself by the count of the disk that was written
pub kept_by : {D : Type 0} (failures : D → ℕ) (o : Appended) (d new : D) (before : ℕ) → new ≡ d → HasCause o before (failures d) → before < 2 ^ 64 - 1
    → failures new ≡ before → o ≢ Full → o ≡ Kept
kept_by failures o d new before is cause low same other = kept_if o before (failures d) cause low (ap failures (sym is) ∙ same) other
