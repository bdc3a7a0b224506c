-- Distinct XIDs, and the first of them.
use Rattle.std.proofs.Common.{◌≡◌, ◌<◌, ◌∙◌, ℕ, zero, suc, false, List, [], ◌∷◌, length, take, get_or, arith}
use Rattle.xa_xid.specs.Triple.{Triple, xid_eq}
use Rattle.xa_branch.specs.Room.{IsApart}
use Rattle.xa_branch.proofs.Listing.{flipped}
use Rattle.xa_manager.specs.Acts.{AreDistinct}

apart_first : (x : Triple) (xids : List Triple) (i : ℕ) → IsApart x xids → IsApart x (take i xids)
apart_first x xids zero apart = tt
apart_first x [] (suc i) apart = tt
apart_first x (q ∷ xids) (suc i) apart = (apart.0, apart_first x xids i apart.1)

pub distinct_first : (xids : List Triple) (i : ℕ) → AreDistinct xids → AreDistinct (take i xids)
distinct_first xids zero distinct = tt
distinct_first [] (suc i) distinct = tt
distinct_first (x ∷ xids) (suc i) distinct = (apart_first x xids i distinct.0, distinct_first xids i distinct.1)

apart_at : (x d : Triple) (xids : List Triple) (i : ℕ) → i < length xids → IsApart x xids → xid_eq x (get_or xids i d) ≡ false
apart_at x d [] i less apart = absurd (omega (arith, less))
apart_at x d (q ∷ xids) zero less apart = apart.0
apart_at x d (q ∷ xids) (suc i) less apart = apart_at x d xids i (omega (arith, less)) apart.1

-- each is another than those before it
pub apart_before : (d : Triple) (xids : List Triple) (i : ℕ) → i < length xids → AreDistinct xids → IsApart (get_or xids i d) (take i xids)
apart_before d xids zero less distinct = tt
apart_before d [] (suc i) less distinct = absurd (omega (arith, less))
apart_before d (x ∷ xids) (suc i) less distinct = (
  flipped (get_or xids i d) x ∙ apart_at x d xids i (omega (arith, less)) distinct.0,
  apart_before d xids i (omega (arith, less)) distinct.1,
)
