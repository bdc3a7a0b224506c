-- One record more, by the bytes that were read of it.
use Rattle.std.proofs.Common.{◌≡◌, ℕ, ◌+◌, ◌≤◌, List, ◌++◌, length, take, drop, sym, ◌∙◌, ap, arith}
use Rattle.std.specs.Prelude.{Vec, not, ◌&&◌}
use Rattle.std.proofs.Common.{get_or}
use Rattle.std.specs.Vec.{with_items}
use Rattle.std.specs.declared.alloc.Global.{Global}
use Rattle.std.proofs.lemmas.List.{take_at}
use Rattle.xa_log.specs.Believed.Chain.{most_body, record_of}
use Rattle.xa_log.proofs.Front.{take_both}
use Rattle.xa_log.specs.Believed.Damage.{is_appended}
use Rattle.xa_copy.proofs.Unbroken.{kind_is}
use Rattle.xa_copy.specs.Moving.{State}
use Rattle.xa_copy.specs.Progress.{Takes}
use Rattle.xa_copy.specs.Records.{Chains}
use Rattle.xa_copy.specs.declared.copying.Copying.{Copying}

pub takes_by : (honest : Type 0) (at size k : ℕ) (now : State) (old new : Copying) (slice : List ℕ) → k ≡ 36 + size
    → slice ≡ take k (drop old.gather.pending new.gather.buffer.items) → Chains size old.digest slice new.digest
    → 1 ≤ size → size ≤ most_body old.format
    → (read : List ℕ) → new.gather.buffer.items ≡ read
    → take old.gather.pending read ≡ take old.gather.pending old.gather.buffer.items
    → (honest → take (36 + size) (drop old.gather.pending read) ≡ take (36 + size) (drop at now.file))
    → new.gather.pending ≡ old.gather.pending + (36 + size) → new.gather.written ≡ old.gather.written
    → new.records ≡ old.records + 1 → new.format ≡ old.format → (kind : ℕ) → kind ≡ get_or new.gather.buffer.items (old.gather.pending + 4) 0
    → new.is_snapshot ≡ (old.is_snapshot && not (is_appended kind)) → Takes honest at now old new
takes_by honest at size k now old new slice k_is slice_is ch some small whole is front' read' pending written records format kind kind_at snapshot =
    let items : List ℕ = new.gather.buffer.items in
    let front : take old.gather.pending items ≡ take old.gather.pending old.gather.buffer.items =
    ap (λ (l : List ℕ). take old.gather.pending l) is ∙ front' in
    let n : 36 + length ch.body ≡ 36 + size = ap (λ (m : ℕ). 36 + m) ch.long in
    let there : take (36 + size) (drop old.gather.pending items) ≡ record_of old.digest ch.body =
    ap (λ (m : ℕ). take m (drop old.gather.pending items)) (sym k_is) ∙ sym slice_is ∙ ch.is in
    record {
      body = ch.body;
      ok = record { some = omega (arith, some, ch.long); small = omega (arith, small, ch.long) };
      read = λ h. ap (λ (m : ℕ). take m (drop at now.file)) n ∙ sym (read' h) ∙ ap (λ (l : List ℕ). take (36 + size) (drop old.gather.pending l)) (sym is) ∙ there;
      buffer = ap (λ (m : ℕ). take m items) pending ∙ sym (take_both old.gather.pending (36 + size) items)
          ∙ (λ i. front i ++ there i);
      pending = pending ∙ ap (λ (m : ℕ). old.gather.pending + m) (sym n);
      written = written;
      digest = ch.digest_is;
      records = omega (arith, records);
      format = format;
      snapshot = snapshot ∙ ap (λ (k : ℕ). old.is_snapshot && not (is_appended k))
          (kind_at ∙ kind_is items old.gather.pending (36 + size) old.digest ch.body there (omega (arith, some, ch.long)) (omega arith));
    }

-- as many elements as there were
pub filled : (v : Vec ℕ Global) (items : List ℕ) → length items ≡ length v.items → (with_items v items).items ≡ items
filled v items long = take_at items (drop (length items) v.items) v.len (long ∙ sym v.ok.0)
