use Rattle.std.proofs.Common.{◌∙◌, sym, ap, subst, List, ℕ}
use Rattle.xa_disk.specs.MemDiskView.{MemDiskView}
use Rattle.xa_disk.specs.declared.call.Call.{Call}
use Rattle.xa_disk.specs.Replay.{replay, IsImage}
use Rattle.xa_disk.proofs.Keeping.{kept_is_image, all_kept}
use Rattle.xa_disk.proofs.memory.MemDisk.crash_keeping.Goals as goal

pub returns-clause-ok : goal.returns-clause-ok
returns-clause-ok c =
    let old = c.args.self.now in
    let seen = c.in_ok-bytes.ensures in
    record {
      seen = seen;
      all = λ above. seen ∙ all_kept old.first old.calls c.args.k above ∙ sym old.replayed;
      left = subst (λ (x : List ℕ). IsImage (replay old.first old.calls) x) (sym seen) (kept_is_image old.first old.calls c.args.k);
      durable = λ x left. subst (λ (l : List Call). IsImage (replay c.in_ok-bytes.bytes.items l) x) c.clear.ensures.items left;
      plans = c.clear-2.ensures;
      failures = ap (λ (d : MemDiskView). d.failures) c.self.view_is;
      counts = ap (λ (d : MemDiskView). d.counts) c.self.view_is;
    }
