-- Where the cursor of a recovery scan stands.
use Rattle.std.proofs.Common.{◌≡◌, ℕ, zero, suc, ◌-◌, List, [], ◌∷◌, length, Option, Some, arith}
use Rattle.std.specs.Prelude.{slice_get}
use Rattle.xa_xid.specs.Triple.{Triple}
use Rattle.xa_model.specs.Recovering.{moved}

moved_at : (cursor : Option Triple) (xids : List Triple) (n : ℕ) (xid : Triple) → suc n ≡ length xids → slice_get xids n ≡ Some xid → moved cursor xids ≡ Some xid
moved_at cursor [] n xid last h = absurd (cc h)
moved_at cursor (x ∷ []) zero xid last h = h
moved_at cursor (x ∷ []) (suc n) xid last h = absurd (omega arith)
moved_at cursor (x ∷ y ∷ xids) zero xid last h = absurd (omega arith)
moved_at cursor (x ∷ y ∷ xids) (suc n) xid last h = moved_at (Some x) (y ∷ xids) n xid (omega arith) h

pub moved_last : (cursor : Option Triple) (xids : List Triple) (xid : Triple) → slice_get xids (length xids - 1) ≡ Some xid → moved cursor xids ≡ Some xid
moved_last cursor [] xid h = absurd (cc h)
moved_last cursor (x ∷ xids) xid h = moved_at cursor (x ∷ xids) (length (x ∷ xids) - 1) xid (omega arith) h
