use Rattle.std.proofs.Common.{◌≡◌, ◌∙◌, sym, ap, subst, List, ℕ}
use Rattle.xa_disk.specs.MemDiskFields.{shown}
use Rattle.xa_disk.specs.Replay.{first_of, replay}
use Rattle.xa_disk.proofs.First.{first_stays, written}
use Rattle.xa_disk.proofs.Viewed.{wrote_seen}
use Rattle.xa_disk.proofs.memory.MemDisk.put.Goals as goal

pub invariant_of-self-inside-in-Ok : goal.invariant_of-self-inside-in-Ok
invariant_of-self-inside-in-Ok c =
    let noted = c.in_ok-note_write.ensures.ok in
    let old = shown c.self.inside in
    let same : first_of c.keep_first.new.first old.bytes ≡ old.first = subst (λ (b : List ℕ). first_of c.keep_first.new.first b ≡ first_of c.self.inside.first b) c.deref.ensures.value c.keep_first.ensures.same in (
      written c.keep_first.new.first old.bytes c.put_bytes.new.bytes.items c.args.from.now old.calls c.note_write.new.calls.items c.args.at noted.0
          c.in_ok-keep_first.ensures.ok noted.1 noted.2 (old.replayed ∙ ap (λ (l : List ℕ). (replay l old.calls).seen) (sym same)) c.in-Ok.ensures.ok,
      tt,
    )

pub returns-in-Ok-clause-ok : goal.returns-in-Ok-clause-ok
returns-in-Ok-clause-ok c =
    let same : first_of c.keep_first.new.first c.self.inside.bytes.items ≡ first_of c.self.inside.first c.self.inside.bytes.items =
    subst (λ (b : List ℕ). first_of c.keep_first.new.first b ≡ first_of c.self.inside.first b) c.deref.ensures.value c.keep_first.ensures.same in
    wrote_seen c.self.view_is (record {
      first = first_stays c.keep_first.new.first c.self.inside.bytes.items c.put_bytes.new.bytes.items c.in_ok-keep_first.ensures.ok ∙ same;
      noted = c.in_ok-note_write.ensures.ok;
      bytes_are = c.in-Ok.ensures.ok;
    })
