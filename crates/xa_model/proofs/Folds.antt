-- Records read one by one: one more, and what stands after a fault.
use Rattle.std.proofs.Common.{◌≡◌, ℕ, ◌+◌, Bool, true, false, cond, Ok, Err, List, [], ◌∷◌, ◌++◌, length, refl, ap, ◌∙◌, arith}
use Rattle.xa_record.specs.declared.record.Record.{Record}
use Rattle.xa_model.specs.Durable.{Durable}
use Rattle.xa_model.specs.Fold.{Reading, apply, read, fits, reading, fold_from, unread}
use Rattle.xa_model.specs.Laws.Durable.{FoldReads, OneMore, FirstFault}

-- a record that fits is read
pub step : (r : Record) (x y : Reading) (i : ℕ) (rs : List Record) (d : Durable) → fits r x ≡ true → read r x ≡ y → fold_from (i + 1) y rs ≡ Ok d → fold_from i x (r ∷ rs) ≡ Ok d
step r x y i rs d fit same rest = rw (fit, same) rest

-- what was come to by reading a record was come to by one that fits
stepped_by : (r : Record) (x : Reading) (i : ℕ) (rs : List Record) (d : Durable) (c : Bool) → fits r x ≡ c → cond c (fold_from (i + 1) (read r x) rs) (Err i) ≡ Ok d
    → (fits r x ≡ true) × (fold_from (i + 1) (read r x) rs ≡ Ok d)
stepped_by r x i rs d true fit e = (fit, e)
stepped_by r x i rs d false fit e = absurd (cc e)

pub stepped : (r : Record) (x : Reading) (i : ℕ) (rs : List Record) (d : Durable) → fold_from i x (r ∷ rs) ≡ Ok d → (fits r x ≡ true) × (fold_from (i + 1) (read r x) rs ≡ Ok d)
stepped r x i rs d e = stepped_by r x i rs d (fits r x) refl e

reads_from : (i : ℕ) (x : Reading) (rs : List Record) (d : Durable) → fold_from i x rs ≡ Ok d → (reading x rs).durable ≡ d
reads_from i x [] d e = cc e
reads_from i x (r ∷ rs) d e = reads_from (i + 1) (read r x) rs d (stepped r x i rs d e).1

pub fold_reads : FoldReads
fold_reads rs d e = reads_from 0 unread rs d e

one_more_from : (i : ℕ) (x : Reading) (rs : List Record) (r : Record) (d : Durable) → fold_from i x rs ≡ Ok d
    → fold_from i x (rs ++ r ∷ []) ≡ cond (fits r (reading x rs)) (Ok (apply r d)) (Err (i + length rs))
one_more_from i x [] r d e =
    let same : x.durable ≡ d = cc e in
    let here : i + 0 ≡ i = omega arith in
    rw here (ap (λ (q : Durable). cond (fits r x) (Ok (apply r q)) (Err i)) same)
one_more_from i x (s ∷ rs) r d e =
    let both = stepped s x i rs d e in
    let rest : fold_from (i + 1) (read s x) (rs ++ r ∷ []) ≡ cond (fits r (reading (read s x) rs)) (Ok (apply r d)) (Err (i + 1 + length rs)) =
    one_more_from (i + 1) (read s x) rs r d both.1 in
    let here : i + 1 + length rs ≡ i + length (s ∷ rs) = omega arith in
    rw (both.0, ← here) rest

pub one_more : OneMore
one_more rs r d e = one_more_from 0 unread rs r d e ∙ ap (λ (n : ℕ). cond (fits r (reading unread rs)) (Ok (apply r d)) (Err n)) zero_more
  where
    zero_more : 0 + length rs ≡ length rs
    zero_more = omega arith

fault_by : (r : Record) (x : Reading) (i k : ℕ) (rs more : List Record) (c : Bool) → (fold_from (i + 1) (read r x) rs ≡ Err k → fold_from (i + 1) (read r x) (rs ++ more) ≡ Err k)
    → cond c (fold_from (i + 1) (read r x) rs) (Err i) ≡ Err k → cond c (fold_from (i + 1) (read r x) (rs ++ more)) (Err i) ≡ Err k
fault_by r x i k rs more true rest e = rest e
fault_by r x i k rs more false rest e = e

fault_from : (i k : ℕ) (x : Reading) (rs more : List Record) → fold_from i x rs ≡ Err k → fold_from i x (rs ++ more) ≡ Err k
fault_from i k x [] more e = absurd (cc e)
fault_from i k x (r ∷ rs) more e = fault_by r x i k rs more (fits r x) (fault_from (i + 1) k (read r x) rs more) e

pub first_fault : FirstFault
first_fault rs more i e = fault_from 0 i unread rs more e
