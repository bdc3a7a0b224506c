-- A body that is read in pieces.
use Rattle.std.proofs.Common.{◌≡◌, ℕ, ◌+◌, ◌-◌, ◌≤◌, List, ◌++◌, length, take, drop, sym, ◌∙◌, ap, arith, length-take-le, length-drop}
use Rattle.std.proofs.lemmas.List.{drop-drop, take_all}
use Rattle.std.specs.Int.{w32, to_be_bytes}
use Rattle.std.specs.Prelude.{Option, Some, None}
use Rattle.std.specs.Str.{bytes_eq}
use Rattle.xa_log.specs.declared.format.Format.{Format}
use Rattle.xa_log.specs.declared.window.Span.{Span}
use Rattle.xa_log.specs.Believed.Chain.{most_body, digest}
use Rattle.xa_log.specs.Reading.{IfDigest}
use Rattle.xa_log.specs.Window.{Caches, Covers}
use Rattle.xa_log.proofs.Cached.{cached_slice}
use Rattle.xa_log.proofs.Front.{Says, says, take_both}

-- as a slice's bounds spell it
pub length-part : (body : List ℕ) (from n : ℕ) → from + n ≤ length body → length (take (from + n - from) (drop from body)) ≡ n
length-part body from n fits =
    let k : from + n - from ≡ n = omega arith in
    ap (λ (i : ℕ). length (take i (drop from body))) k ∙ length-take-le n (drop from body) (omega (arith, fits, length-drop from body))

-- the last piece is put after what was read
pub filled : (file body new piece : List ℕ) (at done left : ℕ) → length new ≡ done + left → length piece ≡ left → piece ≡ take left (drop (at + done) file)
    → take (done + length piece) new ≡ take done body ++ piece → take done body ≡ take done (drop at file) → new ≡ take (done + left) (drop at file)
filled file body new piece at done left long size is put front =
    let n : done + left ≡ done + length piece = omega (arith, size) in
    sym (take_all (done + left) new (omega (arith, long)))
    ∙ ap (λ (k : ℕ). take k new) n ∙ put
    ∙ (λ i. front i ++ (is ∙ ap (λ (l : List ℕ). take left l) (sym (drop-drop done at file))) i)
    ∙ take_both done left (drop at file)

-- what a body that was read, and the bytes after it, say of the record there
module _ (format : Format) (file window prev items value : List ℕ) (span : Span) (at size begin n : ℕ) (some : 1 ≤ size) (small : size ≤ most_body format) (within : at + (36 + size) ≤ length file)
    (caches : Caches file window span) (covers : Covers span (at + (4 + size)) 32) (begin_is : begin ≡ at + (4 + size) - span.from) (n_is : n ≡ 32)
    (spelled : take 4 (drop at file) ≡ to_be_bytes w32 size) (long : length items ≡ size) (read : items ≡ take size (drop (at + 4) file)) (value_is : value ≡ items) where
  tail : take n (drop begin window) ≡ take 32 (drop (4 + length items) (drop at file))
  tail =
      cached_slice file window span (at + (4 + size)) 32 begin n begin_is n_is caches covers
      ∙ ap (λ (l : List ℕ). take 32 l) (sym (drop-drop (4 + size) at file)) ∙ ap (λ (k : ℕ). take 32 (drop (4 + k) (drop at file))) (sym long)

  told : (o : Option (List ℕ)) → IfDigest (digest prev value) (take n (drop begin window)) o → IfDigest (digest prev items) (take 32 (drop (4 + length items) (drop at file))) o
  told (Some d) it = (sym tail ∙ it.0 ∙ ap (λ (b : List ℕ). digest prev b) value_is, it.1 ∙ ap (λ (b : List ℕ). digest prev b) value_is)
  told None it = (λ i. bytes_eq (sym tail i) (digest prev (sym value_is i))) ∙ it

  pub body_says : (o : Option (List ℕ)) → IfDigest (digest prev value) (take n (drop begin window)) o → Says format prev (drop at file) items o
  body_says o it =
      says format prev (drop at file) items (record { some = omega (arith, some, long); small = omega (arith, small, long) })
      (spelled ∙ ap (λ (k : ℕ). to_be_bytes w32 k) (sym long))
      (read ∙ ap (λ (l : List ℕ). take size l) (sym (drop-drop 4 at file)) ∙ ap (λ (k : ℕ). take k (drop 4 (drop at file))) (sym long))
      (omega (arith, within, long, length-drop at file)) o (told o it)
