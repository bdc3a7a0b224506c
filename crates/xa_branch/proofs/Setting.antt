-- What is kept, where a change finds nothing to change.
use Rattle.std.proofs.Common.{◌≡◌, Bool, true, false, cond, Option, Some, None, Result, Ok, Err, OnOk, OnErr, refl, sym, ◌∙◌, ap, subst}
use Rattle.std.specs.Prelude.{option_map}
use Rattle.std.specs.BTreeMap.{BTreeMap, get}
use Rattle.std.specs.Ordering.{is_eq}
use Rattle.xa_xid.specs.Triple.{Triple, xid_eq, xid_cmp}
use Rattle.xa_xid.proofs.Same.{xid_same}
use Rattle.xa_model.proofs.Xids.{cmp_is_eq}
use Rattle.xa_branch.specs.Changes.{Sets}

-- where nothing is at one XID, nothing is at the same
pub none_at : {V : Type 0} (f : Triple → Option V) (xid q : Triple) (c : Bool) → xid_eq xid q ≡ c → f xid ≡ None → f q ≡ cond c None (f q)
none_at f xid q true e none = subst (λ (x : Triple). f x ≡ None) (xid_same xid q e) none
none_at f xid q false e none = refl

unset_by : {V : Type 0} (m : BTreeMap Triple V) (xid q : Triple) (c : Bool) → is_eq (xid_cmp xid q) ≡ c → get xid_cmp m xid ≡ None → get xid_cmp m q ≡ cond c None (get xid_cmp m q)
unset_by m xid q true e none = subst (λ (x : Triple). get xid_cmp m x ≡ None) (xid_same xid q (sym (cmp_is_eq xid q) ∙ e)) none
unset_by m xid q false e none = refl

pub unset : {V : Type 0} (m : BTreeMap Triple V) (xid : Triple) → get xid_cmp m xid ≡ None → Sets m xid None m
unset m xid none = record { at = λ q. unset_by m xid q (is_eq (xid_cmp xid q)) refl none; number = rw none refl }

-- a change of what was looked up
pub set_by : {V : Type 0} (f : V → V) (m after : BTreeMap Triple V) (xid : Triple) (w v : V) → get xid_cmp m xid ≡ Some w → v ≡ f w → Sets m xid (option_map (λ _. v) (get xid_cmp m xid)) after
    → Sets m xid (option_map f (get xid_cmp m xid)) after
set_by {V} f m after xid w v e is sets =
    let same : option_map (λ (_ : V). v) (get xid_cmp m xid) ≡ option_map f (get xid_cmp m xid) = rw e (ap Some is) in
    subst (λ (o : Option V). Sets m xid o after) same sets

-- to another, of what was there
pub set_to : {V : Type 0} (m after : BTreeMap Triple V) (xid : Triple) (w v : V) → get xid_cmp m xid ≡ Some w → Sets m xid (option_map (λ _. v) (get xid_cmp m xid)) after → Sets m xid (Some v) after
set_to {V} m after xid w v e sets =
    let same : option_map (λ (_ : V). v) (get xid_cmp m xid) ≡ Some v = rw e refl in
    subst (λ (o : Option V). Sets m xid o after) same sets

pub unset_by_any : {V : Type 0} (f : V → V) (m : BTreeMap Triple V) (xid : Triple) → get xid_cmp m xid ≡ None → Sets m xid (option_map f (get xid_cmp m xid)) m
unset_by_any {V} f m xid none =
    let same : None ≡ option_map f (get xid_cmp m xid) = rw none refl in
    subst (λ (o : Option V). Sets m xid o m) same (unset m xid none)

-- a change at the same XID to the same
pub set_same : {V : Type 0} (m after : BTreeMap Triple V) (x y : Triple) (w v : V) → x ≡ y → w ≡ v → Sets m x (Some w) after → Sets m y (Some v) after
set_same m after x y w v e f sets = rw (← e, ← f) sets

-- what holds on success comes to more
pub on_ok : {A E : Type 0} (r : Result A E) (P Q : Type 0) → (P → Q) → OnOk r P → OnOk r Q
on_ok (Ok a) P Q f p = f p
on_ok (Err e) P Q f p = p

pub on_err : {A E : Type 0} (r : Result A E) (P Q : Type 0) → (P → Q) → OnErr r P → OnErr r Q
on_err (Ok a) P Q f p = p
on_err (Err e) P Q f p = f p
