-- What a look at a log leaves of a disk's counts.
use Rattle.std.proofs.Common.{◌≡◌, ◌⊎◌, inl, inr, ℕ, zero, suc, ap, ◌∙◌, refl}
use Rattle.xa_disk.specs.Counts.{plus}
use Rattle.xa_disk.specs.declared.counts.Counts.{Counts}
use Rattle.xa_log.specs.Calls.{with_reads, OnlyReads, asked, LooksAt}
use Rattle.xa_log.specs.declared.fault.OpenFault.{OpenFault}
use Rattle.xa_log.specs.declared.fault.OpenFault.TheVariants.{NotALog, TooNew, TooLong, Damaged, Device, Memory}

reads_keep : (reads bytes : ℕ) (c : Counts) → ((with_reads reads bytes c).writes ≡ c.writes) × ((with_reads reads bytes c).syncs ≡ c.syncs)
reads_keep zero bytes c = (refl, refl)
reads_keep (suc more) bytes c = (refl, refl)

pub read_only : (most : ℕ) (old new : Counts) → OnlyReads most (asked old) new
    → (new.writes ≡ old.writes) × ((new.syncs ≡ old.syncs) ⊎ (new.syncs ≡ plus old.syncs 1))
read_only most old new o =
    let k = reads_keep o.reads o.bytes (asked old) in
    (ap (λ (c : Counts). c.writes) o.counts ∙ k.0, inr (ap (λ (c : Counts). c.syncs) o.counts ∙ k.1))

pub fault_only : (e : OpenFault) (most : ℕ) (old new : Counts) → LooksAt e most old new
    → (new.writes ≡ old.writes) × ((new.syncs ≡ old.syncs) ⊎ (new.syncs ≡ plus old.syncs 1))
fault_only Device most old new (inl is) = (ap (λ (c : Counts). c.writes) is, inr (ap (λ (c : Counts). c.syncs) is))
fault_only Device most old new (inr o) = read_only most old new o
fault_only Memory most old new (inl is) = (ap (λ (c : Counts). c.writes) is, inl (ap (λ (c : Counts). c.syncs) is))
fault_only Memory most old new (inr o) = read_only most old new o
fault_only NotALog most old new o = read_only most old new o
fault_only TooNew most old new o = read_only most old new o
fault_only TooLong most old new is = (ap (λ (c : Counts). c.writes) is, inr (ap (λ (c : Counts). c.syncs) is))
fault_only Damaged most old new o = read_only most old new o
