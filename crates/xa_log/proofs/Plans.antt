-- A disk whose plans alone changed.
use Rattle.std.proofs.Common.{List, ℕ, subst}
use Rattle.xa_disk.specs.Memory.{Stays, image_of}
use Rattle.xa_disk.specs.Replay.{replay, IsImage}
use Rattle.xa_disk.specs.declared.memory.MemDisk.{MemDisk}

pub left_kept : (old new : MemDisk) → Stays old new → (c : List ℕ) → image_of new c → image_of old c
left_kept old new s c left = subst (λ f. IsImage (replay f old.calls) c) s.same.first (subst (λ k. IsImage (replay new.first k) c) s.same.calls left)
