-- What looking for a log leaves of two disks.
use Rattle.std.proofs.Common.{◌≡◌, ◌≢◌, ◌⊎◌, inl, inr, ⊎_elim, ◌∙◌, ℕ, List, [], ◌∷◌, length, refl, sym, subst}
use Rattle.std.specs.Prelude.{Result, Ok, Err, IfErr, IsErrAnd}
use Rattle.std.proofs.lemmas.List.{nil_from_length}
use Rattle.xa_disk.specs.Disk.{Torn, Same, Only}
use Rattle.xa_disk.specs.Images.{torn_same}
use Rattle.xa_disk.specs.Time.{TimePasses}
use Rattle.xa_disk.specs.declared.disk.Disk.{Ghosts}
use Rattle.xa_log.specs.Believed.Pair.{pair_fault}
use Rattle.xa_log.specs.Reading.{Explains}
use Rattle.xa_log.specs.declared.fault.OpenFault.{OpenFault}
use Rattle.xa_log.specs.declared.fault.OpenFault.TheVariants.{NotALog, TooNew, TooLong, Damaged, Device, Memory}
use Rattle.xa_log.proofs.Torn.{then, stays, torn_then}
use Rattle.xa_manager.specs.Believed.Opening.{LogRefused}
use Rattle.xa_manager.specs.Believed.Refused.{IsUnwritten, LeavesFinding}

module _ {D : Type 0} (disks : Ghosts D) where
  -- one look after another
  same_passes : (a b c : D) → TimePasses disks Same a b → TimePasses disks Same b c → TimePasses disks Same a c
  same_passes a b c p q = then Same (λ x y z s t. t ∙ s) _ _ _ _ _ _ _ _ _ p q

  unwritten : (a b c : D) → disks.seen b ≡ disks.seen a → TimePasses disks Same a b → disks.seen c ≡ disks.seen b → TimePasses disks Same b c
      → IsUnwritten disks a c
  unwritten a b c same p later q = record { seen = later ∙ same; time = same_passes a b c p q }

  -- a log is read after a look at the lengths
  pub finding_read : (a b c a' b' c' : D) → disks.seen b ≡ disks.seen a → TimePasses disks Same a b → disks.seen b' ≡ disks.seen a' → TimePasses disks Same a' b'
      → disks.seen c ≡ disks.seen b → TimePasses disks Same b c → disks.seen c' ≡ disks.seen b' → TimePasses disks Same b' c'
      → LeavesFinding disks a c a' c'
  finding_read a b c a' b' c' same p same' p' later q later' q' = inl (unwritten a b c same p later q, unwritten a' b' c' same' p' later' q')

  -- or one is made
  pub finding_made : (a b c a' b' c' : D) → disks.seen b ≡ disks.seen a → TimePasses disks Same a b → disks.seen b' ≡ disks.seen a' → TimePasses disks Same a' b'
      → length (disks.seen a) ≡ 0 → length (disks.seen a') ≡ 0
      → Torn 0 12 (disks.seen b) (disks.seen c) → TimePasses disks (Torn 0 12) b c → disks.seen c' ≡ disks.seen b' → TimePasses disks Same b' c'
      → TimePasses disks Same b c ⊎ Only [] (disks.may_leave c')
      → LeavesFinding disks a c a' c'
  finding_made a b c a' b' c' same p same' p' none none' torn q later' q' order = inr (record {
    empty = nil_from_length (disks.seen a) none;
    empty_second = nil_from_length (disks.seen a') none';
    torn = subst (λ (x : List ℕ). Torn 0 12 x (disks.seen c)) same torn;
    time = then (Torn 0 12) (torn_then 0 12) _ _ _ _ _ _ _ _ _ (stays (Torn 0 12) (torn_same 0 12) _ _ _ _ _ _ p) q;
    second_is = unwritten a' b' c' same' p' later' q';
    second_first = ⊎_elim (λ x. inl (same_passes a b c p x)) (λ x. inr x) order;
  })

not_both : (a b : List ℕ) → (length a ≡ 0 → length b ≡ 0 → ⊥) → (a ≢ []) ⊎ (b ≢ [])
not_both (x ∷ a) b some = inl (λ e. absurd (cc e))
not_both [] (y ∷ b) some = inr (λ e. absurd (cc e))
not_both [] [] some = absurd (some refl refl)

-- why two files that aren't both empty gave no log
pub read_refused : (e : OpenFault) (most : ℕ) (a b : List ℕ) → Explains e (pair_fault most a b) → (length a ≡ 0 → length b ≡ 0 → ⊥) → LogRefused e most a b
read_refused Device most a b x some = tt
read_refused Memory most a b x some = tt
read_refused NotALog most a b x some = inr (not_both a b some, x)
read_refused TooNew most a b x some = inr (not_both a b some, x)
read_refused TooLong most a b x some = inr (not_both a b some, x)
read_refused Damaged most a b x some = inr (not_both a b some, x)

-- a fault that is handed on
pub handed_on : {T E : Type 0} (r : Result T E) (e : E) (P : E → Type 0) → IsErrAnd r (λ k. k ≡ e) → P e → IfErr r P
handed_on (Ok x) e P is p = tt
handed_on (Err k) e P is p = subst P (sym is) p
