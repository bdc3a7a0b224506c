use Rattle.xa_disk.specs.MemDiskFields.{shown}
use Rattle.xa_disk.proofs.First.{synced}
use Rattle.xa_disk.proofs.memory.MemDisk.mark_sync.Goals as goal

pub invariant_of-self-inside : goal.invariant_of-self-inside
invariant_of-self-inside c =
    let old = shown c.self.inside in
    (synced c.note_sync.result old.first old.bytes old.calls c.note_sync.new.calls.items c.note_sync.ensures.ok c.note_sync.ensures.err old.replayed, tt)
