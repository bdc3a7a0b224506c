-- What was read of records in order, and of one more.
use Rattle.std.proofs.Common.{◌≡◌, ℕ, suc, zero, ◌<◌, ◌+◌, take, drop, arith, false, true, Ok, Err, List, [], ◌∷◌, ◌++◌, length, refl, ap, sym, ◌∙◌, subst}
use Rattle.xa_record.specs.declared.record.Record.{Record}
use Rattle.xa_model.specs.Durable.{Durable}
use Rattle.xa_model.specs.Fold.{Reading, fits, read, reading, unread, fold, fold_from}
use Rattle.xa_model.proofs.Folds.{stepped, one_more, first_fault}
use Rattle.xa_model.proofs.Readings.{IsRead, read_is, nothing_is}
use Rattle.xa_recovery.specs.declared.rebuilding.Rebuilding.{Rebuilding}
use Rattle.xa_recovery.specs.declared.fault.RebuildFault.{RebuildFault}
use Rattle.xa_recovery.specs.declared.fault.RebuildFault.TheVariants.{Memory, Order}
use Rattle.xa_recovery.specs.Rebuilding.{StandsFor, HasRead, TakenAt, Rebuilt}

reads_from : (i : ℕ) (x : Reading) (rs : List Record) (d : Durable) → IsRead x → fold_from i x rs ≡ Ok d → IsRead (reading x rs)
reads_from i x [] d h e = h
reads_from i x (r ∷ rs) d h e = let both = stepped r x i rs d e in reads_from (i + 1) (read r x) rs d (read_is r x both.0 h) both.1

pub was_read : (m : Rebuilding) (rs : List Record) → HasRead m rs → IsRead (reading unread rs)
was_read m rs h = reads_from 0 unread rs (reading unread rs).durable nothing_is h.ordered

reading_more : (x : Reading) (rs : List Record) (r : Record) → reading x (rs ++ r ∷ []) ≡ read r (reading x rs)
reading_more x [] r = refl
reading_more x (s ∷ rs) r = reading_more (read s x) rs r

-- a record that fits is read
pub read_on : (m n : Rebuilding) (rs : List Record) (r : Record) → HasRead m rs → fits r (reading unread rs) ≡ true → StandsFor n (read r (reading unread rs)) → HasRead n (rs ++ r ∷ [])
read_on m n rs r h fit st =
    let more = one_more rs r (reading unread rs).durable h.ordered in
    let all = reading_more unread rs r in
    record {
      ordered = (rw fit at more) ∙ sym (ap (λ (x : Reading). Ok x.durable) all);
      stands = subst (λ (x : Reading). StandsFor n x) (sym all) st;
    }

-- another is out of order
pub refused : (m : Rebuilding) (rs : List Record) (r : Record) → HasRead m rs → fits r (reading unread rs) ≡ false → fold (rs ++ r ∷ []) ≡ Err (length rs)
refused m rs r h unfit = rw unfit at (one_more rs r (reading unread rs).durable h.ordered)

taken_length : (rs : List Record) (i : ℕ) → i < length rs → length (take i rs) ≡ i
taken_length [] i less = absurd (omega arith)
taken_length (r ∷ rs) zero less = refl
taken_length (r ∷ rs) (suc i) less = ap (λ n. suc n) (taken_length rs i (omega arith))

both_parts : (rs : List Record) (i : ℕ) → take i rs ++ drop i rs ≡ rs
both_parts [] zero = refl
both_parts [] (suc i) = refl
both_parts (r ∷ rs) zero = refl
both_parts (r ∷ rs) (suc i) = ap (λ xs. r ∷ xs) (both_parts rs i)

-- the first of all records that is out of order
pub refused_at : (rs : List Record) (i : ℕ) (r : Record) (e : RebuildFault) → i < length rs → take (i + 1) rs ≡ take i rs ++ r ∷ [] → TakenAt i (take i rs) r (Err e) → Rebuilt rs (Err e)
refused_at rs i r Memory less more h = tt
refused_at rs i r (Order j) less more h =
    let here : fold (take (i + 1) rs) ≡ Err j = ap fold more ∙ (h.1 ∙ ap Err (taken_length rs i less ∙ sym h.0)) in
    ap fold (sym (both_parts rs (i + 1))) ∙ first_fault (take (i + 1) rs) (drop (i + 1) rs) j here
