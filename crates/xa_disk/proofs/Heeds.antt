-- How a device call answers its plan.
use Rattle.std.proofs.Common.{◌≡◌, ℕ, Bool, true, false, List, [], ◌∷◌, ◌++◌, refl, ◌∙◌, ap, subst, inl, inr, Option, Some, None, Result, Ok, Err, OnOk, OnErr, MatchBool, IsTrue}
use Rattle.xa_disk.specs.declared.plan.Effect.{Effect}
use Rattle.xa_disk.specs.declared.plan.Effect.TheVariants.{Kept, Lost}
use Rattle.xa_disk.specs.declared.call.Call.{Call}
use Rattle.xa_disk.specs.declared.call.Call.TheVariants.{Write, Sync}
use Rattle.xa_disk.specs.declared.disk.DiskFault.{DiskFault}
use Rattle.xa_disk.specs.MemDiskView.{MemDiskView}
use Rattle.xa_disk.specs.Disk.{put}
use Rattle.xa_disk.specs.Memory.{Keeps, Wrote, Synced, Heeds}

keeps_then : (a b d e : MemDiskView) → Keeps a b → Keeps b d → Keeps d e → Keeps a e
keeps_then a b d e p q r = record { first = r.first ∙ q.first ∙ p.first; calls = r.calls ∙ q.calls ∙ p.calls; bytes = r.bytes ∙ q.bytes ∙ p.bytes }

heeds : {T : Type 0} (D R : Type 0) (plan : Option Effect) (r : Result T DiskFault) (done : Bool) → OnOk r ((plan ≡ None) × IsTrue done) → OnErr r (plan ≡ None → done ≡ false) → (plan ≡ Some Lost → done ≡ false)
    → (done ≡ true → D) → (done ≡ false → R) → Heeds plan r D R R
heeds D R None (Ok x) done ok err lost work none = work ok.1
heeds D R None (Err x) done ok err lost work none = none (err refl)
heeds D R (Some Lost) (Ok x) done ok err lost work none = absurd (cc (ok.0))
heeds D R (Some Lost) (Err x) done ok err lost work none = none (lost refl)
heeds D R (Some Kept) (Ok x) done ok err lost work none = absurd (cc (ok.0))
heeds D R (Some Kept) (Err x) true ok err lost work none = inl (work refl)
heeds D R (Some Kept) (Err x) false ok err lost work none = inr (none refl)

at_true : (P Q : Type 0) (b : Bool) → MatchBool b P Q → b ≡ true → P
at_true P Q true it is = it
at_true P Q false it is = absurd (cc is)

at_false : (P Q : Type 0) (b : Bool) → MatchBool b P Q → b ≡ false → Q
at_false P Q true it is = absurd (cc is)
at_false P Q false it is = it

module _ (a b d e : MemDiskView) where
  wrote_between : (at : ℕ) (bytes : List ℕ) → Keeps a b → Wrote b d at bytes → Keeps d e → Wrote a e at bytes
  wrote_between at bytes s w k = record {
    first = k.first ∙ w.first ∙ s.first;
    noted = (w.noted.0, w.noted.1, k.calls ∙ w.noted.2 ∙ ap (λ (l : List Call). l ++ Write at w.noted.0 ∷ []) s.calls);
    bytes_are = k.bytes ∙ w.bytes_are ∙ ap (λ (l : List ℕ). put l at bytes) s.bytes;
  }

  synced_between : Keeps a b → Synced b d → Keeps d e → Synced a e
  synced_between s w k = record {
    first = k.first ∙ w.first ∙ s.first;
    noted = k.calls ∙ w.noted ∙ ap (λ (l : List Call). l ++ Sync ∷ []) s.calls;
    bytes = k.bytes ∙ w.bytes ∙ s.bytes;
  }

module _ {T : Type 0} (a b d e : MemDiskView) where
  pub heeds_put : (at : ℕ) (bytes : List ℕ) (plan planned : Option Effect) (r : Result T DiskFault) (done : Bool) → plan ≡ planned → Keeps a b → MatchBool done (Wrote b d at bytes) (Keeps b d) → (plan ≡ Some Lost → done ≡ false) → Keeps d e
      → OnOk r ((plan ≡ None) × IsTrue done) → OnErr r (plan ≡ None → done ≡ false) → Heeds planned r (Wrote a e at bytes) (Keeps a e) (Keeps a e)
  heeds_put at bytes plan planned r done is s w lost k ok err =
      subst (λ p. Heeds p r (Wrote a e at bytes) (Keeps a e) (Keeps a e)) is
      (heeds (Wrote a e at bytes) (Keeps a e) plan r done ok err lost
      (λ yes. wrote_between a b d e at bytes s (at_true _ _ done w yes) k)
      (λ no. keeps_then a b d e s (at_false _ _ done w no) k))

  pub heeds_sync : (plan planned : Option Effect) (r : Result T DiskFault) (done : Bool) → plan ≡ planned → Keeps a b → MatchBool done (Synced b d) (Keeps b d) → (plan ≡ Some Lost → done ≡ false) → Keeps d e
      → OnOk r ((plan ≡ None) × IsTrue done) → OnErr r (plan ≡ None → done ≡ false) → Heeds planned r (Synced a e) (Keeps a e) (Keeps a e)
  heeds_sync plan planned r done is s w lost k ok err =
      subst (λ p. Heeds p r (Synced a e) (Keeps a e) (Keeps a e)) is
      (heeds (Synced a e) (Keeps a e) plan r done ok err lost
      (λ yes. synced_between a b d e s (at_true _ _ done w yes) k)
      (λ no. keeps_then a b d e s (at_false _ _ done w no) k))
