-- What is said of the fields of a disk in memory is said of the disk that they show.
use Rattle.std.proofs.Common.{◌≡◌, ℕ, List, subst}
use Rattle.xa_disk.specs.MemDiskView.{MemDiskView}
use Rattle.xa_disk.specs.Memory.{Wrote}

pub wrote_seen : {shown old new : MemDiskView} {at : ℕ} {bytes : List ℕ} → shown ≡ old → Wrote shown new at bytes → Wrote old new at bytes
wrote_seen {shown} {old} {new} {at} {bytes} is w = subst (λ d. Wrote d new at bytes) is w
