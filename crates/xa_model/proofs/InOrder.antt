-- XIDs in their order, each once: inserting keeps the order, and which of them are above one may be asked before or after it.
use Rattle.std.proofs.Common.{◌≡◌, Bool, true, false, cond, List, [], ◌∷◌, Option, Some, None, refl, ap, ◌∙◌}
use Rattle.std.specs.Prelude.{filter, fold}
use Rattle.std.specs.BTreeSet.{insert_key}
use Rattle.std.specs.List.{AllByRecursion}
use Rattle.std.specs.Ordering.{is_lt, match_ordering, ordering_reverse}
use Rattle.std.specs.declared.cmp.Ordering.{Ordering}
use Rattle.std.specs.declared.cmp.Ordering.TheVariants.{Less, Equal, Greater}
use Rattle.xa_xid.specs.Triple.{Triple, xid_cmp}
use Rattle.xa_xid.proofs.Same.{xid_cmp_same, xid_cmp_itself, xid_cmp_total}
use Rattle.xa_model.specs.Durable.{Pairwise}
use Rattle.xa_model.specs.Listed.{in_order, is_above}
use Rattle.xa_model.proofs.Inserts.{IsTransitive, all_imply}
use Rattle.xa_model.proofs.Members.{IsStrict, less_is}

abbrev pub below : Triple → Triple → Bool
below x y = is_lt (xid_cmp x y)

pub below_transitive : IsTransitive below
below_transitive = record { trans = λ x y z e f. ap is_lt (xid_cmp_total.trans x y z (less_is (xid_cmp x y) e) (less_is (xid_cmp y z) f)) }

pub below_strict : IsStrict below
below_strict = record { never = λ x. ap is_lt (xid_cmp_itself x) }

-- an XID takes its place

key_all_by : (P : Triple → Type 0) (k x : Triple) (xs : List Triple) (o : Ordering) → P k → AllByRecursion P (x ∷ xs) → AllByRecursion P (insert_key xid_cmp xs k)
    → AllByRecursion P (match_ordering o (k ∷ x ∷ xs) (x ∷ xs) (x ∷ insert_key xid_cmp xs k))
key_all_by P k x xs Less p h ih = (p, h)
key_all_by P k x xs Equal p h ih = h
key_all_by P k x xs Greater p h ih = (h.0, ih)

key_all : (P : Triple → Type 0) (k : Triple) (xs : List Triple) → P k → AllByRecursion P xs → AllByRecursion P (insert_key xid_cmp xs k)
key_all P k [] p h = (p, tt)
key_all P k (x ∷ xs) p h = key_all_by P k x xs (xid_cmp k x) p h (key_all P k xs p h.1)

key_pairwise_by : (k x : Triple) (xs : List Triple) (o : Ordering) → xid_cmp k x ≡ o → Pairwise below (x ∷ xs) → Pairwise below (insert_key xid_cmp xs k)
    → Pairwise below (match_ordering o (k ∷ x ∷ xs) (x ∷ xs) (x ∷ insert_key xid_cmp xs k))
key_pairwise_by k x xs Less e h ih =
    ((ap is_lt e, all_imply (λ y. below x y ≡ true) (λ y. below k y ≡ true) (λ y less. below_transitive.trans k x y (ap is_lt e) less) xs h.0), h)
key_pairwise_by k x xs Equal e h ih = h
key_pairwise_by k x xs Greater e h ih =
    let less : xid_cmp x k ≡ Less = xid_cmp_total.antisymm x k ∙ ap ordering_reverse e in
    (key_all (λ y. below x y ≡ true) k xs (ap is_lt less) h.0, ih)

key_pairwise : (k : Triple) (xs : List Triple) → Pairwise below xs → Pairwise below (insert_key xid_cmp xs k)
key_pairwise k [] h = (tt, tt)
key_pairwise k (x ∷ xs) h = key_pairwise_by k x xs (xid_cmp k x) refl h (key_pairwise k xs h.1)

fold_pairwise : (done xs : List Triple) → Pairwise below done → Pairwise below (fold (insert_key xid_cmp) done xs)
fold_pairwise done [] h = h
fold_pairwise done (x ∷ xs) h = fold_pairwise (insert_key xid_cmp done x) xs (key_pairwise x done h)

pub ordered_pairwise : (xs : List Triple) → Pairwise below (in_order xs)
ordered_pairwise xs = fold_pairwise [] xs tt

-- what is above one is above all that one is above

pub above_more : (after : Option Triple) (x y : Triple) → is_above after x ≡ true → below x y ≡ true → is_above after y ≡ true
above_more None x y e less = refl
above_more (Some after) x y e less = below_transitive.trans after x y e less

-- an XID that is above takes its place among those that are, and one that isn't takes none

key_above_by : (after : Option Triple) (k x : Triple) (xs : List Triple) (o : Ordering) (c d : Bool) → xid_cmp k x ≡ o → is_above after k ≡ c → is_above after x ≡ d
    → filter (is_above after) (insert_key xid_cmp xs k) ≡ cond c (insert_key xid_cmp (filter (is_above after) xs) k) (filter (is_above after) xs)
    → filter (is_above after) (match_ordering o (k ∷ x ∷ xs) (x ∷ xs) (x ∷ insert_key xid_cmp xs k))
    ≡ cond c (insert_key xid_cmp (cond d (x ∷ filter (is_above after) xs) (filter (is_above after) xs)) k) (cond d (x ∷ filter (is_above after) xs) (filter (is_above after) xs))
key_above_by after k x xs Less true true e f g ih = rw (f, g, e) refl
key_above_by after k x xs Less true false e f g ih = absurd (cc (above_more after k x f (ap is_lt e), g))
key_above_by after k x xs Less false d e f g ih = rw (f, g) refl
key_above_by after k x xs Equal true true e f g ih = rw (g, e) refl
key_above_by after k x xs Equal true false e f g ih = absurd (cc (ap (is_above after) (xid_cmp_same k x e), f, g))
key_above_by after k x xs Equal false d e f g ih = rw g refl
key_above_by after k x xs Greater true true e f g ih = rw (g, e, ih) refl
key_above_by after k x xs Greater true false e f g ih = rw g ih
key_above_by after k x xs Greater false true e f g ih = rw (g, ih) refl
key_above_by after k x xs Greater false false e f g ih = rw g ih

key_above : (after : Option Triple) (k : Triple) (xs : List Triple) → filter (is_above after) (insert_key xid_cmp xs k)
    ≡ cond (is_above after k) (insert_key xid_cmp (filter (is_above after) xs) k) (filter (is_above after) xs)
key_above after k [] = alone (is_above after k)
  where
    alone : (c : Bool) → cond c (k ∷ []) [] ≡ cond c (insert_key xid_cmp [] k) []
    alone c = refl
key_above after k (x ∷ xs) = key_above_by after k x xs (xid_cmp k x) (is_above after k) (is_above after x) refl refl refl (key_above after k xs)

fold_above : (after : Option Triple) (done xs : List Triple) → filter (is_above after) (fold (insert_key xid_cmp) done xs)
    ≡ fold (insert_key xid_cmp) (filter (is_above after) done) (filter (is_above after) xs)
fold_above after done [] = refl
fold_above after done (x ∷ xs) =
    fold_above after (insert_key xid_cmp done x) xs
    ∙ (ap (λ (ys : List Triple). fold (insert_key xid_cmp) ys (filter (is_above after) xs)) (key_above after x done) ∙ by_test (is_above after x))
  where
    by_test : (c : Bool) → fold (insert_key xid_cmp) (cond c (insert_key xid_cmp (filter (is_above after) done) x) (filter (is_above after) done)) (filter (is_above after) xs)
        ≡ fold (insert_key xid_cmp) (filter (is_above after) done) (cond c (x ∷ filter (is_above after) xs) (filter (is_above after) xs))
    by_test true = refl
    by_test false = refl

-- so those above one are the same before and after the ordering
pub above_in_order : (after : Option Triple) (xs : List Triple) → filter (is_above after) (in_order xs) ≡ in_order (filter (is_above after) xs)
above_in_order after xs = fold_above after [] xs
