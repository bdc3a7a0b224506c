-- How many associations of each kind a branch has.
use Rattle.std.proofs.Common.{◌≡◌, ℕ, ◌+◌, Bool, true, false, ◌&&◌, ◌||◌, cond, List, [], ◌∷◌, refl, ap, sym, ◌∙◌, arith}
use Rattle.std.specs.Prelude.{nat_lt}
use Rattle.std.specs.List.{list_any}
use Rattle.std.proofs.lemmas.Bool.Decides.{nat_tests}
use Rattle.xa_xid.specs.Triple.{Triple, xid_eq}
use Rattle.xa_xid.proofs.Same.{xid_same}
use Rattle.xa_model.specs.State.{Association, Holder, Active, Suspended, Loose, without, change, holders_of, is_loose, loose_of}
use Rattle.xa_model.specs.Associations.{held_by}
use Rattle.xa_model.proofs.Xids.{and_false}
use Rattle.xa_branch.specs.declared.kind.Kind.{Kind}
use Rattle.xa_branch.specs.declared.kind.Kind.TheVariants as kind
use Rattle.xa_branch.specs.Kinds.{kind_of, same_kind, is_as, held_as}
use Rattle.xa_model.proofs.Leaving.{count_left, count_turned}

and_true : (b : Bool) → (b && true) ≡ b
and_true true = refl
and_true false = refl

-- each association is of one kind
one_kind : (h : Holder) (b : Bool) (n a u l : ℕ) → n ≡ (a + u) + l
    → cond b 1 0 + n ≡ ((cond (same_kind (kind_of h) kind.Active && b) 1 0 + a) + (cond (same_kind (kind_of h) kind.Suspended && b) 1 0 + u)) + (cond (same_kind (kind_of h) kind.Loose && b) 1 0 + l)
one_kind (Active m) b n a u l e = omega arith
one_kind (Suspended m) b n a u l e = omega arith
one_kind Loose b n a u l e = omega arith

pub holders_by_kind : (held : List Association) (xid : Triple) → holders_of held xid ≡ (held_as kind.Active held xid + held_as kind.Suspended held xid) + held_as kind.Loose held xid
holders_by_kind [] xid = refl
holders_by_kind (a ∷ held) xid =
    one_kind a.holder (xid_eq a.xid xid) (holders_of held xid) (held_as kind.Active held xid) (held_as kind.Suspended held xid) (held_as kind.Loose held xid) (holders_by_kind held xid)

pub any_by_kind : (n a u l : ℕ) → n ≡ (a + u) + l → nat_lt 0 n ≡ (nat_lt 0 a || (nat_lt 0 u || nat_lt 0 l))
any_by_kind n a u l e = grind (arith, nat_tests)

-- who passes is of one kind, and with one XID
pub record Picks (k : Kind) (xid : Triple) (p : Association → Bool) : Type 0 where
  pub holder : (a : Association) → p a ≡ true → kind_of a.holder ≡ k
  pub named : (a : Association) → p a ≡ true → xid_eq a.xid xid ≡ true

pub picked : (k : Kind) (xid : Triple) (p : Association → Bool) → Picks k xid p → (j : Kind) (q : Triple) (a : Association) → p a ≡ true → is_as j q a ≡ (same_kind k j && xid_eq xid q)
picked k xid p picks j q a passes = rw (picks.holder a passes, xid_same a.xid xid (picks.named a passes)) refl

-- a list has one association more than another, or one less
pub record Gains (k : Kind) (xid : Triple) (held after : List Association) : Type 0 where
  pub more : (j : Kind) (q : Triple) → held_as j after q ≡ held_as j held q + cond (same_kind k j && xid_eq xid q) 1 0

pub record Loses (k : Kind) (xid : Triple) (held after : List Association) : Type 0 where
  pub fewer : (j : Kind) (q : Triple) → held_as j after q + cond (same_kind k j && xid_eq xid q) 1 0 ≡ held_as j held q

-- a new association
pub joined_gains : (n : ℕ) (xid : Triple) (held : List Association) → Gains kind.Active xid held (record { xid = xid; holder = Active n } ∷ held)
joined_gains n xid held = record { more = λ j q. omega arith }

-- one that is of a kind leaves
pub left_loses : (k : Kind) (xid : Triple) (p : Association → Bool) (held : List Association) → Picks k xid p → list_any p held ≡ true → Loses k xid held (without p held)
left_loses k xid p held picks any = record { fewer = λ j q. count_left p (is_as j q) (same_kind k j && xid_eq xid q) (λ a passes. picked k xid p picks j q a passes) held any }

-- one that changes its holder leaves, and comes back
pub turned_gains : (k : Kind) (xid : Triple) (h : Holder) (p : Association → Bool) (held : List Association) → ((a : Association) → p a ≡ true → xid_eq a.xid xid ≡ true) → kind_of h ≡ k → list_any p held ≡ true
    → Gains k xid (without p held) (change p (held_by h) held)
turned_gains k xid h p held named is any = record {
  more = λ j q. count_turned p (is_as j q) (held_by h) (same_kind k j && xid_eq xid q) (λ a passes. rw (is, xid_same a.xid xid (named a passes)) refl) held any;
}

-- the counts of an XID, and of another
pub gained_here : (k : Kind) (xid : Triple) (held after : List Association) → Gains k xid held after → (j : Kind) (q : Triple) → xid_eq xid q ≡ true → held_as j after q ≡ held_as j held q + cond (same_kind k j) 1 0
gained_here k xid held after g j q e = g.more j q ∙ rw e (rw (and_true (same_kind k j)) refl)

pub gained_other : (k : Kind) (xid : Triple) (held after : List Association) → Gains k xid held after → (j : Kind) (q : Triple) → xid_eq xid q ≡ false → held_as j after q ≡ held_as j held q
gained_other k xid held after g j q e = g.more j q ∙ rw (and_false (same_kind k j) (xid_eq xid q) e) (omega arith)

pub lost_here : (k : Kind) (xid : Triple) (held after : List Association) → Loses k xid held after → (j : Kind) (q : Triple) → xid_eq xid q ≡ true → held_as j after q + cond (same_kind k j) 1 0 ≡ held_as j held q
lost_here k xid held after l j q e =
    let here : (same_kind k j && xid_eq xid q) ≡ same_kind k j = rw e (and_true (same_kind k j)) in
    sym (ap (λ (b : Bool). held_as j after q + cond b 1 0) here) ∙ l.fewer j q

pub lost_other : (k : Kind) (xid : Triple) (held after : List Association) → Loses k xid held after → (j : Kind) (q : Triple) → xid_eq xid q ≡ false → held_as j after q ≡ held_as j held q
lost_other k xid held after l j q e =
    let here : (same_kind k j && xid_eq xid q) ≡ false = and_false (same_kind k j) (xid_eq xid q) e in
    let sum : held_as j after q + cond (same_kind k j && xid_eq xid q) 1 0 ≡ held_as j held q = l.fewer j q in
    let zero : cond {A = ℕ} (same_kind k j && xid_eq xid q) 1 0 ≡ 0 = ap (λ (b : Bool). cond {A = ℕ} b 1 0) here in omega arith

-- the loose ones are those that the sequential resource manager counts

loose_same : (h : Holder) (b : Bool) → (same_kind (kind_of h) kind.Loose && b) ≡ (is_loose h && b)
loose_same (Active m) b = refl
loose_same (Suspended m) b = refl
loose_same Loose b = refl

pub loose_is : (held : List Association) (xid : Triple) → held_as kind.Loose held xid ≡ loose_of held xid
loose_is [] xid = refl
loose_is (a ∷ held) xid = rw (loose_same a.holder (xid_eq a.xid xid), loose_is held xid) refl
