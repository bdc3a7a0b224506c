-- How far the two files are known to reach.
use Rattle.std.proofs.Common.{◌≡◌, inl, inr, ℕ, ◌+◌, ◌≤◌, Bool, true, false, cond, List, ◌++◌, length, drop, replicate, sym, ◌∙◌, ap, subst, arith, length-append, length-drop, Result, Ok, Err, OnOk, OnErr, IfOk, rules}
use Rattle.std.specs.Prelude.{max}
use Rattle.std.specs.Int.{w32, to_be_bytes}
use Rattle.std.proofs.lemmas.List.{places, length-replicate}
use Rattle.xa_disk.specs.declared.disk.Disk.{Ghosts}
use Rattle.xa_disk.specs.Disk.{put, Torn}
use Rattle.xa_disk.specs.Images.{put_torn}
use Rattle.xa_log.specs.declared.format.Format.{Format}
use Rattle.xa_log.specs.Ahead.{IsKnown}
use Rattle.xa_log.specs.Answers.{PutBecame, Wrote, PutAheadBecame}
use Rattle.xa_log.specs.Believed.Chain.{start, closing, preamble, records}
use Rattle.xa_log.specs.Believed.Checkpoint.{behind_front}
use Rattle.xa_log.specs.declared.appending.Appended.{Appended}
use Rattle.xa_log.specs.declared.appending.Appended.TheVariants.{Kept, Refused, Lost, Full}
use Rattle.xa_log.specs.Believed.LogView.{LogView}
use Rattle.xa_log.proofs.Header.{length-preamble}
use Rattle.xa_log.proofs.Tried.{torn_wrote}

-- ---- what a write leaves is no shorter

reaches : (old : List ℕ) (at : ℕ) (bytes : List ℕ) → at + length bytes ≤ length (put old at bytes)
reaches old at bytes = search (rules, places)

pub put_grows : {T E : Type 0} (r : Result T E) (at n : ℕ) (bytes old new : List ℕ) → OnOk r (new ≡ put old at bytes) → OnErr r (Torn at n old new) → length old ≤ length new
put_grows (Ok x) at n bytes old new is torn = omega (arith, (put_torn old at bytes).no_shorter, ap (λ (l : List ℕ). length l) is)
put_grows (Err e) at n bytes old new is torn = torn.no_shorter

pub seal_grows : (tears : List ℕ → ℕ → List ℕ → List ℕ → Type 0) (o : Appended) (at : ℕ) (bytes old new : List ℕ) (left : List ℕ → Type 0) → PutBecame tears o at bytes old new left
    → length old ≤ length new
seal_grows tears Kept at bytes old new left went = omega (arith, (put_torn old at bytes).no_shorter, ap (λ (l : List ℕ). length l) went.0)
seal_grows tears Refused at bytes old new left went =
    let zeros : List ℕ = replicate (length bytes) 0 in
    omega (arith, went.1.no_shorter, (put_torn went.0 at zeros).no_shorter, ap (λ (l : List ℕ). length l) went.2)
seal_grows tears Lost at bytes old new left went = went.0.no_shorter
seal_grows tears Full at bytes old new left went = absurd went

-- a seal that is kept is no longer than what is longer than the header
pub seal_within : (tears : List ℕ → ℕ → List ℕ → List ℕ → Type 0) (o : Appended) (n : ℕ) (old new : List ℕ) (left : List ℕ → Type 0) → (m : ℕ) → o ≡ Kept
    → length old ≤ m → 12 ≤ length old → PutBecame tears o 8 (to_be_bytes w32 n) old new left → length new ≤ m
seal_within tears o n old new left m is le long went =
    let now : PutBecame tears Kept 8 (to_be_bytes w32 n) old new left = subst (λ x. PutBecame tears x 8 (to_be_bytes w32 n) old new left) is went in
    omega (arith, le, long, (put_torn old 8 (to_be_bytes w32 n)).no_longer, ap (λ (l : List ℕ). length l) now.0)

-- the records of a checkpoint reach up to their closing length
pub records_reach : (more : ℕ) (format : Format) (bodies : List (List ℕ)) (mid new : List ℕ) → new ≡ put mid 12 (behind_front format bodies ++ replicate more 0)
    → 12 + length (records (start format) bodies) + more ≤ length new
records_reach more format bodies mid new is =
    let all : List ℕ = records (start format) bodies in
    let zeros : List ℕ = replicate more 0 in
    omega (
      arith,
      ap (λ (l : List ℕ). length l) is,
      reaches mid 12 (behind_front format bodies ++ zeros),
      length-append (behind_front format bodies) zeros,
      length-replicate {A = ℕ} more 0,
      length-append (drop 4 all) closing,
      length-drop 4 all,
    )

pub header_long : (format : Format) (old new : List ℕ) → new ≡ preamble format ++ drop 12 old → 12 ≤ length new
header_long format old new is = omega (arith, ap (λ (l : List ℕ). length l) is, length-append (preamble format) (drop 12 old), length-preamble format)

-- ---- an append

module _ {D : Type 0} (disks : Ghosts D) (tears_torn : (old : List ℕ) (at : ℕ) (bytes new : List ℕ) → disks.tears old at bytes new → Torn at (length bytes) old new) where
  pub append_grows : (at : ℕ) (few bytes : List ℕ) (old new : D) (o : Appended) → PutAheadBecame disks o at few bytes old new → length (disks.seen old) ≤ length (disks.seen new)
  append_grows at few bytes old new Kept went = (torn_wrote disks tears_torn at few bytes old new went.0).no_shorter
  append_grows at few bytes old new Refused went =
      let zeros : List ℕ = replicate (length few) 0 in
      omega (arith, went.1.no_shorter, (put_torn went.0 at zeros).no_shorter, ap (λ (l : List ℕ). length l) went.2)
  append_grows at few bytes old new Lost went = went.0.no_shorter
  append_grows at few bytes old new Full went = absurd went

  pub append_reaches : (at : ℕ) (few bytes : List ℕ) (old new : D) → length few ≤ length bytes → Wrote disks at few bytes old new → at + length few ≤ length (disks.seen new)
  append_reaches at few bytes old new less (inl is) = omega (arith, less, ap (λ (l : List ℕ). length l) is, reaches (disks.seen old) at bytes)
  append_reaches at few bytes old new less (inr x) = omega (arith, ap (λ (l : List ℕ). length l) x.4, reaches x.2 at few)

-- ---- a checkpoint

module _ {D : Type 0} (disks : Ghosts D) (old new : LogView D) (wrote : D) (now : ℕ) (reaches : old.other_known ≤ length (disks.seen old.other) → now ≤ length (disks.seen wrote)) (k : IsKnown disks old) where
  pub known_swapped : (n : ℕ) → n ≤ length (disks.seen wrote) → new.disk ≡ wrote → new.other ≡ old.disk → new.known ≡ max now n → new.other_known ≡ old.known → IsKnown disks new
  known_swapped n long disk other known other_known = record {
    current = omega (arith, known, reaches k.other, long, ap (λ (d : D). length (disks.seen d)) disk);
    other = omega (arith, other_known, k.current, ap (λ (d : D). length (disks.seen d)) other);
  }

  pub known_beside : new.disk ≡ old.disk → new.other ≡ wrote → new.known ≡ old.known → new.other_known ≡ now → IsKnown disks new
  known_beside disk other known other_known = record {
    current = omega (arith, known, k.current, ap (λ (d : D). length (disks.seen d)) disk);
    other = omega (arith, other_known, reaches k.other, ap (λ (d : D). length (disks.seen d)) other);
  }

-- ---- what was measured

pub measures : {A B E : Type 0} (r : Result (A × B × ℕ × ℕ) E) (m n a b : ℕ) → m ≡ a → n ≡ b → IfOk r (λ x. (x.2 ≡ m) × (x.3 ≡ n)) → IfOk r (λ x. (x.2 ≡ a) × (x.3 ≡ b))
measures (Ok x) m n a b one two are = (are.0 ∙ one, are.1 ∙ two)
measures (Err e) m n a b one two are = tt

-- two files of these lengths, in the one order and in the other
pub measured : {D : Type 0} (seen : D → List ℕ) (t : Bool) (d o : D) (a b : List ℕ) (q : ℕ × ℕ) (m n : ℕ) → seen (cond t d o) ≡ a → seen (cond t o d) ≡ b
    → q ≡ cond t (m, n) (n, m) → m ≡ length a → n ≡ length b → (q.0 ≡ length (seen d)) × (q.1 ≡ length (seen o))
measured seen true d o a b q m n one two is first second =
    (ap (λ z. z.0) is ∙ first ∙ ap (λ (l : List ℕ). length l) (sym one), ap (λ z. z.1) is ∙ second ∙ ap (λ (l : List ℕ). length l) (sym two))
measured seen false d o a b q m n one two is first second =
    (ap (λ z. z.0) is ∙ second ∙ ap (λ (l : List ℕ). length l) (sym two), ap (λ z. z.1) is ∙ first ∙ ap (λ (l : List ℕ). length l) (sym one))
