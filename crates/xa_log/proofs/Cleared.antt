-- The zeros after a checkpoint's last record.
use Rattle.std.proofs.Common.{◌≡◌, inl, inr, ℕ, zero, suc, ◌+◌, ◌-◌, ◌≤◌, min, true, List, [], ◌∷◌, ◌++◌, length, take, drop, replicate, refl, sym, ◌∙◌, ap, subst, arith, append_assoc, length-drop}
use Rattle.std.specs.List.{AllByRecursion}
use Rattle.std.specs.Int.{w32, to_be_bytes}
use Rattle.std.proofs.Math.Seq.{take-append-add}
use Rattle.std.proofs.lemmas.List.{take_at, drop_at, take-take, drop-take, drop-drop, length-take, length-take-le, length-replicate}
use Rattle.xa_disk.specs.Disk.{put}
use Rattle.xa_disk.specs.declared.disk.Disk.{Ghosts}
use Rattle.xa_log.specs.declared.appending.Appended.{Appended}
use Rattle.xa_log.specs.declared.appending.Appended.TheVariants.{Kept, Refused, Lost, Full}
use Rattle.xa_log.specs.declared.format.Format.{Format}
use Rattle.xa_log.specs.Answers.{PutBecame}
use Rattle.xa_log.specs.Believed.Chain.{newest, start, last, preamble, text, size_at, behind_text, body_at, is_record, IsBody}
use Rattle.xa_log.specs.Believed.Checkpoint.{behind_front, first_length, IsCleared, IsTailed}
use Rattle.xa_log.specs.Believed.Laws.{StaleLaw}
use Rattle.xa_log.proofs.Header.{header_whole}
use Rattle.xa_log.proofs.Parts.{records_ready}
use Rattle.xa_log.proofs.Ready.{sealed_is}
use Rattle.xa_log.proofs.Records.{length-text, record_to}
use Rattle.xa_log.proofs.Steps.{zeros_more}
use Rattle.xa_log.proofs.Torn.{put_within}

-- after a log's text stands what follows it
behind_is : (format : Format) (bodies : List (List ℕ)) (file rest : List ℕ) → file ≡ text format bodies ++ rest → behind_text format bodies file ≡ rest
behind_is format bodies file rest is =
    ap (λ (l : List ℕ). drop (length (text format bodies)) l) is ∙ drop_at (text format bodies) rest (length (text format bodies)) refl

pub sealed_cleared : (tears : List ℕ → ℕ → List ℕ → List ℕ → Type 0) (more : ℕ) (format : Format) (bodies : List (List ℕ)) (old mid done new : List ℕ) (left : List ℕ → Type 0) (o : Appended)
    → mid ≡ preamble format ++ drop 12 old → 12 ≤ length mid → AllByRecursion (IsBody format) bodies → 1 ≤ length bodies
    → done ≡ put mid 12 (behind_front format bodies ++ replicate more 0) → o ≡ Kept
    → PutBecame tears o 8 (to_be_bytes w32 (first_length bodies)) done new left
    → take (4 + more) (behind_text format bodies new) ≡ replicate (4 + more) 0
sealed_cleared tears more format bodies old mid done new left Kept made long sizes some is kept went =
    let front : take 12 mid ≡ preamble format = ap (λ (l : List ℕ). take 12 l) made ∙ header_whole format (drop 12 old) in
    let ready = records_ready more format bodies mid done front long sizes some is in
    let tail : List ℕ = drop (12 + length (behind_front format bodies ++ replicate more 0)) mid in
    ap (λ (l : List ℕ). take (4 + more) l)
    (behind_is format bodies new (0 ∷ 0 ∷ 0 ∷ 0 ∷ ready.0.rest) (went.0 ∙ sealed_is format bodies done ready.0)
    ∙ ap (λ (l : List ℕ). 0 ∷ 0 ∷ 0 ∷ 0 ∷ l) ready.1)
    ∙ take-append-add (0 ∷ 0 ∷ 0 ∷ 0 ∷ []) (replicate more 0 ++ tail) more
    ∙ ap (λ (l : List ℕ). 0 ∷ 0 ∷ 0 ∷ 0 ∷ l) (take_at (replicate more 0) tail more (length-replicate {A = ℕ} more 0))
    ∙ sym (zeros_more more)
sealed_cleared tears more format bodies old mid done new left Refused made long sizes some is kept went = absurd (cc kept)
sealed_cleared tears more format bodies old mid done new left Lost made long sizes some is kept went = absurd (cc kept)
sealed_cleared tears more format bodies old mid done new left Full made long sizes some is kept went = absurd (cc kept)

pub cleared_by : {D : Type 0} (disks : Ghosts D) (format : Format) (bodies : List (List ℕ)) (wrote now : D) (most n : ℕ)
    → format ≡ newest → n ≡ min 5 (most - length (text format bodies)) → now ≡ wrote
    → take n (behind_text format bodies (disks.seen wrote)) ≡ replicate n 0 → IsCleared most newest bodies (disks.seen now)
cleared_by disks format bodies wrote now most n is size same cleared =
    let there : take n (behind_text format bodies (disks.seen now)) ≡ replicate n 0 = subst (λ d. take n (behind_text format bodies (disks.seen d)) ≡ replicate n 0) (sym same) cleared in
    subst (λ f. IsCleared most f bodies (disks.seen now)) is (subst (λ k. take k (behind_text format bodies (disks.seen now)) ≡ replicate k 0) size there)

-- as many zeros as have room are enough
pub tailed_by : (more most end : ℕ) (format : Format) (bodies : List (List ℕ)) → 4 + more ≡ min 5 (most - end) → end ≡ length (text format bodies) → IsTailed more most format bodies
tailed_by zero most end format bodies exact is = inr (omega (arith, exact, is, length-text format bodies))
tailed_by (suc more) most end format bodies exact is = inl (omega arith)

-- ---- a length over the closing length

pub no_stale : StaleLaw
no_stale most format bodies size file cleared room four chains =
    let n : ℕ = length (text format bodies) in
    let five : min 5 (most - length (text format bodies)) ≡ 5 = omega (arith, room) in
    let zeros : take 5 (behind_text format bodies file) ≡ 0 ∷ 0 ∷ 0 ∷ 0 ∷ 0 ∷ [] =
    subst (λ k. take k (behind_text format bodies file) ≡ replicate k 0) five cleared in
    let reach : length (text format bodies) + 5 ≤ length file =
    omega (arith, ap (λ (l : List ℕ). length l) zeros, length-take 5 (behind_text format bodies file), length-drop (length (text format bodies)) file) in
    let next : List ℕ = drop (n + 4) file in
    let behind : List ℕ = size ++ next in
    let front : length (take (length (text format bodies)) file) ≡ length (text format bodies) =
    length-take-le (length (text format bodies)) file (omega (arith, reach)) in
    let end : length (text format bodies) + length size ≡ length (text format bodies) + 4 = omega (arith, four) in
    let is : behind_text format bodies (put file (length (text format bodies)) size) ≡ size ++ drop (length (text format bodies) + 4) file =
    ap (λ (l : List ℕ). drop n l) (put_within file n size (omega (arith, reach)) ∙ ap (λ (k : ℕ). take n file ++ size ++ drop k file) end ∙ append_assoc (take n file) size next) ∙ drop_at (take n file) behind n front in
    let record_there = record_to format (last (start format) bodies) (size ++ drop (length (text format bodies) + 4) file) (subst (λ b. is_record format (last (start format) bodies) b ≡ true) is chains) in
    let some : 1 ≤ size_at (size ++ drop (length (text format bodies) + 4) file) = record_there.some in
    ap (λ (l : List ℕ). take 1 (body_at l)) is
    ∙ take-take 1 (size_at behind) (drop 4 behind) some
    ∙ ap (λ (l : List ℕ). take 1 l) (drop_at size next 4 four ∙ sym (drop-drop 4 n file))
    ∙ sym (drop-take 4 1 (drop n file)) ∙ ap (λ (l : List ℕ). drop 4 l) zeros
