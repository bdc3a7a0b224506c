use Rattle.std.proofs.Common.{◌≡◌, ℕ, ◌+◌, ◌-◌, ◌<◌, ◌≤◌, List, ◌++◌, length, take, drop, Option, ap, ◌∙◌, arith, subst, sym}
use Rattle.std.proofs.lemmas.List.{length-append, length-take-le, take-append-le}
use Rattle.std.proofs.Math.Seq.{take-append-add}
use Rattle.std.specs.Io.KnownBytes.{Consumes}
use borrow.Rule.Slice.PartMut.{put_mid}
use Rattle.xa_desk.proofs.Known.{consumes-twice}
use Rattle.xa_desk.proofs.connection.fill.Goals as goal

-- a piece of n bytes after the first k
more : (x y z : Option (List ℕ)) (k n : ℕ) (xs ys : List ℕ) → k ≤ length xs → length ys ≡ length xs - k → n ≤ length ys
    → Consumes x y (take k xs) → Consumes y z (take n ys)
    → (k + n ≤ length (put_mid k (length xs - k) xs ys)) × Consumes x z (take (k + n) (put_mid k (length xs - k) xs ys))
more x y z k n xs ys within len le before piece =
    let rest : List ℕ = drop (length xs - k) (drop k xs) in
    let front : length (take k xs) ≡ k = length-take-le k xs within in
    let joined : take (k + n) (take k xs ++ (ys ++ rest)) ≡ take k xs ++ take n (ys ++ rest) =
    subst (λ j. take (j + n) (take k xs ++ (ys ++ rest)) ≡ take k xs ++ take n (ys ++ rest)) front (take-append-add (take k xs) (ys ++ rest) n) in
    let first : take n (ys ++ rest) ≡ take n ys = take-append-le n ys rest le in
    let P : List ℕ → Type 0 = λ bs. Consumes x z bs in (
      omega (arith, length-append (take k xs) (ys ++ rest), length-append ys rest, front, le),
      subst P (sym (joined ∙ ap (λ (bs : List ℕ). take k xs ++ bs) first)) (consumes-twice x y z (take k xs) (take n ys) before piece),
    )

pub loop-count-preserved : goal.loop-count-preserved
loop-count-preserved g c =
    let inv = c.loop-count.invariant in
    more _ _ _ c.loop-count.count c.in-Ok.n c.loop-count.buffer c.read.new.buf inv.0 (omega (arith, c.read.auto.buf)) (omega (arith, c.in-Ok.ensures.bound)) inv.1 c.in-Ok.ensures.bytes.0

-- what is written after the first k leaves a place after them
place-left : (k : ℕ) (xs ys : List ℕ) → k < length xs → length ys ≡ length xs - k → k < length (put_mid k (length xs - k) xs ys)
place-left k xs ys within len =
    let rest : List ℕ = drop (length xs - k) (drop k xs) in
    omega (arith, length-append (take k xs) (ys ++ rest), length-append ys rest, length-take-le k xs (omega (arith, within)), len, within)

pub returns-in-Ok-eq0 : goal.returns-in-Ok-eq0
returns-in-Ok-eq0 g c =
    let inv = c.loop-count.invariant in
    let k = c.loop-count.count in
    let n = c.in-Ok-eq0.field-0 in
    let all = put_mid k (length c.loop-count.buffer - k) c.loop-count.buffer c.read.new.buf in
    let len : length c.read.new.buf ≡ length c.loop-count.buffer - k = omega (arith, c.read.auto.buf) in
    let piece = more _ _ _ k n c.loop-count.buffer c.read.new.buf inv.0 len (omega (arith, c.in-Ok-eq0.ensures.bound)) inv.1 c.in-Ok-eq0.ensures.bytes.0 in
    let same : k + n ≡ k = omega (arith, c.in-Ok-eq0.field-0-test) in
    let P : ℕ → Type 0 = λ j. Consumes (g.R.Read.remaining c.args.reader.now) (g.R.Read.remaining c.read.new.self) (take j all) in (
      place-left k c.loop-count.buffer c.read.new.buf c.loop-count-test.true len,
      subst P same piece.1,
      c.in-Ok-eq0.ensures.bytes.1 c.in-Ok-eq0.field-0-test (omega (arith, len, c.loop-count-test.true)),
    )
