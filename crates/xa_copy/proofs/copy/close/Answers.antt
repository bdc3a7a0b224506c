use Rattle.std.proofs.Common.{◌≡◌, ◌++◌, ◌∙◌, sym, ap, List, ℕ, take}
use Rattle.std.proofs.lemmas.List.{append-nil}
use Rattle.xa_disk.specs.Disk.{put}
use Rattle.xa_log.specs.Believed.Chain.{closing}
use Rattle.xa_copy.proofs.Finishing.{put_end}
use Rattle.xa_copy.proofs.copy.close.Goals as goal

pub returns-clause-closed : goal.returns-clause-closed
returns-clause-closed g c h text' gathers =
    let flushed = c.in_ok-flush.ensures.gathers h text' gathers in
    let file : List ℕ = g.D.Disk.seen c.flush.new.to in
    let is : file ≡ text' =
    sym (append-nil file) ∙ ap (λ (n : ℕ). file ++ take n c.flush.new.self.buffer.items) (sym c.in_ok-flush.ensures.empty) ∙ flushed.all in
    c.in_ok-sync.ensures.same h ∙ c.in_ok-write_at.ensures.written h
    ∙ ap (λ (l : List ℕ). put file c.flush.new.self.written l) c.as_slice.ensures
    ∙ put_end file closing c.flush.new.self.written flushed.written ∙ ap (λ (l : List ℕ). l ++ closing) is
