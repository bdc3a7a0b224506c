-- XIDs as names: equality decides, and the order answers Equal just there.
use Rattle.std.proofs.Common.{◌≡◌, Bool, true, false, ◌&&◌, refl, sym, subst, rules}
use Rattle.std.specs.Cmp.Rules.{comparing}
use Rattle.std.specs.Ordering.{is_eq}
use Rattle.xa_xid.specs.Triple.{Triple, xid_eq, xid_cmp}
use Rattle.xa_xid.proofs.Same.{xid_same}

pub cmp_is_eq : (x y : Triple) → is_eq (xid_cmp x y) ≡ xid_eq x y
cmp_is_eq x y = search (comparing, rules) depth 9

pub both_true : (a b : Bool) → (a && b) ≡ true → (a ≡ true) × (b ≡ true)
both_true true true e = (refl, refl)
both_true true false e = absurd (cc e)
both_true false b e = absurd (cc e)

pub and_false : (a b : Bool) → b ≡ false → (a && b) ≡ false
and_false true b e = e
and_false false b e = refl

-- a name that is equal to one of two that differ differs from the other
pub xid_apart : (a b c : Triple) → xid_eq a b ≡ true → xid_eq b c ≡ false → xid_eq a c ≡ false
xid_apart a b c e h = subst (λ (x : Triple). xid_eq x c ≡ false) (sym (xid_same a b e)) h
