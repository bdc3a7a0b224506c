-- The keys that branches have written, and what the others have for a source.
use Rattle.std.proofs.Common.{◌≡◌, ℕ, Bool, true, false, ◌||◌, cond, List, [], ◌∷◌, Option, Some, None, refl, sym, ◌∙◌, ap, subst}
use Rattle.std.specs.Prelude.{bytes_eq, filter}
use Rattle.std.specs.List.{AllByRecursion, list_any}
use Rattle.std.proofs.lemmas.Bool.{or_parts}
use Rattle.std.proofs.lemmas.Slice.Eq.{bytes_eq-Decides}
use Rattle.xa_model.specs.Ranges.{is_before}
use Rattle.xa_model.specs.State.{Branch, Operation, Got, Walked, Wrote}
use Rattle.xa_model.specs.Source.{write_of, versions_of, absent, source, newest}
use Rattle.xa_model.specs.Durable.{Pairwise}
use Rattle.xa_model.specs.Walking.{put_key, keys_by, keys_in}
use Rattle.xa_model.proofs.Inserts.{all_imply}
use Rattle.xa_model.proofs.KeyOrder.{before_trans}
use Rattle.xa_model.proofs.LastOfKeys.{above}

-- whether a key is one of these
abbrev pub among : List ℕ → List (List ℕ) → Bool
among key ks = list_any (λ k. bytes_eq k key) ks

or_swapped : (a b c : Bool) → (a || (b || c)) ≡ (b || (a || c))
or_swapped true true c = refl
or_swapped true false c = refl
or_swapped false b c = refl

or_twice : (a b : Bool) → (a || b) ≡ (a || (a || b))
or_twice true b = refl
or_twice false b = refl

put_by : (q key k : List ℕ) (ks : List (List ℕ)) (same before : Bool) → bytes_eq k key ≡ same
    → among q (put_key key ks) ≡ (bytes_eq key q || among q ks)
    → among q (cond same (k ∷ ks) (cond before (k ∷ put_key key ks) (key ∷ k ∷ ks))) ≡ (bytes_eq key q || (bytes_eq k q || among q ks))
put_by q key k ks true before e rest =
    let is : k ≡ key = (bytes_eq-Decides k key).0 e in
    subst (λ (x : List ℕ). (bytes_eq k q || among q ks) ≡ (bytes_eq x q || (bytes_eq k q || among q ks))) is (or_twice (bytes_eq k q) (among q ks))
put_by q key k ks false true e rest =
    ap (λ (x : Bool). bytes_eq k q || x) rest ∙ or_swapped (bytes_eq k q) (bytes_eq key q) (among q ks)
put_by q key k ks false false e rest = refl

put_among : (q key : List ℕ) (ks : List (List ℕ)) → among q (put_key key ks) ≡ (bytes_eq key q || among q ks)
put_among q key [] = refl
put_among q key (k ∷ ks) = put_by q key k ks (bytes_eq k key) (is_before k key) refl (put_among q key ks)

-- a key that isn't among them was never written

not_put : (c : Bool) (value : Option (List ℕ)) (o : Option (Option (List ℕ))) (a : Bool) → (c || a) ≡ false → (a ≡ false → o ≡ None)
    → cond c (Some value) o ≡ None
not_put true value o a e rest = absurd (cc e)
not_put false value o a e rest = rest e

unwritten_by : (q : List ℕ) (ops : List Operation) (ks : List (List ℕ)) → among q (keys_by ops ks) ≡ false
    → (write_of q ops ≡ None) × (among q ks ≡ false)
unwritten_by q [] ks e = (refl, e)
unwritten_by q (Got key answer from ∷ older) ks e = unwritten_by q older ks e
unwritten_by q (Walked range found ∷ older) ks e = unwritten_by q older ks e
unwritten_by q (Wrote key value ∷ older) ks e =
    let both = or_parts (bytes_eq key q) (among q (keys_by older ks)) (sym (put_among q key (keys_by older ks)) ∙ e) in
    let rest = unwritten_by q older ks both.1 in
    (rw both.0 rest.0, rest.1)

no_versions : (q : List ℕ) (bs : List Branch) → among q (keys_in bs) ≡ false → versions_of q bs ≡ []
no_versions q [] e = refl
no_versions q (b ∷ bs) e =
    let both = unwritten_by q b.operations (keys_in bs) e in rw both.0 (no_versions q bs both.1)

-- so it is absent
pub no_source : (q : List ℕ) (t : ℕ) (bs : List Branch) → among q (keys_in bs) ≡ false → source q t bs ≡ absent
no_source q t bs e = ap (newest t) (no_versions q bs e)

-- they ascend

abbrev pub Ascend : List (List ℕ) → Type 0
Ascend ks = Pairwise is_before ks

all_by : (P : List ℕ → Type 0) (key k : List ℕ) (ks new : List (List ℕ)) (c d : Bool) → P key → AllByRecursion P (k ∷ ks) → AllByRecursion P new
    → AllByRecursion P (cond c (k ∷ ks) (cond d (k ∷ new) (key ∷ k ∷ ks)))
all_by P key k ks new true d here all rest = all
all_by P key k ks new false true here all rest = (all.0, rest)
all_by P key k ks new false false here all rest = (here, all)

put_all : (P : List ℕ → Type 0) (key : List ℕ) (ks : List (List ℕ)) → P key → AllByRecursion P ks → AllByRecursion P (put_key key ks)
put_all P key [] here all = (here, tt)
put_all P key (k ∷ ks) here all = all_by P key k ks (put_key key ks) (bytes_eq k key) (is_before k key) here all (put_all P key ks here all.1)

ascend_by : (key k : List ℕ) (ks : List (List ℕ)) (c d : Bool) → bytes_eq k key ≡ c → is_before k key ≡ d → Ascend (k ∷ ks) → Ascend (put_key key ks)
    → Ascend (cond c (k ∷ ks) (cond d (k ∷ put_key key ks) (key ∷ k ∷ ks)))
ascend_by key k ks true d e f h rest = h
ascend_by key k ks false true e f h rest = (put_all (λ x. is_before k x ≡ true) key ks f h.0, rest)
ascend_by key k ks false false e f h rest =
    let first : is_before key k ≡ true = above k key e f in
    ((first, all_imply (λ x. is_before k x ≡ true) (λ x. is_before key x ≡ true) (λ x g. before_trans key k x first g) ks h.0), h)

put_ascends : (key : List ℕ) (ks : List (List ℕ)) → Ascend ks → Ascend (put_key key ks)
put_ascends key [] h = (tt, tt)
put_ascends key (k ∷ ks) h = ascend_by key k ks (bytes_eq k key) (is_before k key) refl refl h (put_ascends key ks h.1)

by_ascends : (ops : List Operation) (ks : List (List ℕ)) → Ascend ks → Ascend (keys_by ops ks)
by_ascends [] ks h = h
by_ascends (Got key answer from ∷ older) ks h = by_ascends older ks h
by_ascends (Walked range found ∷ older) ks h = by_ascends older ks h
by_ascends (Wrote key value ∷ older) ks h = put_ascends key (keys_by older ks) (by_ascends older ks h)

pub keys_ascend : (bs : List Branch) → Ascend (keys_in bs)
keys_ascend [] = tt
keys_ascend (b ∷ bs) = by_ascends b.operations (keys_in bs) (keys_ascend bs)

-- those of a range

filtered_by : (p : List ℕ → Bool) (P : List ℕ → Type 0) (k : List ℕ) (ks new : List (List ℕ)) (c : Bool) → P k → AllByRecursion P new
    → AllByRecursion P (cond c (k ∷ new) new)
filtered_by p P k ks new true here rest = (here, rest)
filtered_by p P k ks new false here rest = rest

filtered_all : (p : List ℕ → Bool) (P : List ℕ → Type 0) (ks : List (List ℕ)) → AllByRecursion P ks → AllByRecursion P (filter p ks)
filtered_all p P [] h = tt
filtered_all p P (k ∷ ks) h = filtered_by p P k ks (filter p ks) (p k) h.0 (filtered_all p P ks h.1)

filtered_ascend_by : (p : List ℕ → Bool) (k : List ℕ) (ks : List (List ℕ)) (c : Bool) → AllByRecursion (λ x. is_before k x ≡ true) (filter p ks)
    → Ascend (filter p ks) → Ascend (cond c (k ∷ filter p ks) (filter p ks))
filtered_ascend_by p k ks true above rest = (above, rest)
filtered_ascend_by p k ks false above rest = rest

pub filtered_ascend : (p : List ℕ → Bool) (ks : List (List ℕ)) → Ascend ks → Ascend (filter p ks)
filtered_ascend p [] h = tt
filtered_ascend p (k ∷ ks) h =
    filtered_ascend_by p k ks (p k) (filtered_all p (λ x. is_before k x ≡ true) ks h.0) (filtered_ascend p ks h.1)

passes_by : (p : List ℕ → Bool) (k : List ℕ) (ks : List (List ℕ)) (c : Bool) → p k ≡ c → AllByRecursion (λ x. p x ≡ true) (filter p ks)
    → AllByRecursion (λ x. p x ≡ true) (cond c (k ∷ filter p ks) (filter p ks))
passes_by p k ks true e rest = (e, rest)
passes_by p k ks false e rest = rest

pub all_pass : (p : List ℕ → Bool) (ks : List (List ℕ)) → AllByRecursion (λ x. p x ≡ true) (filter p ks)
all_pass p [] = tt
all_pass p (k ∷ ks) = passes_by p k ks (p k) refl (all_pass p ks)

among_by : (p : List ℕ → Bool) (q k : List ℕ) (ks : List (List ℕ)) (c s : Bool) → p k ≡ c → bytes_eq k q ≡ s → p q ≡ true
    → among q (filter p ks) ≡ among q ks → among q (cond c (k ∷ filter p ks) (filter p ks)) ≡ (s || among q ks)
among_by p q k ks true s e f g rest = rw f (ap (λ (x : Bool). s || x) rest)
among_by p q k ks false true e f g rest =
    let is : k ≡ q = (bytes_eq-Decides k q).0 f in absurd (cc (ap p is, e, g))
among_by p q k ks false false e f g rest = rest

pub filtered_among : (p : List ℕ → Bool) (q : List ℕ) (ks : List (List ℕ)) → p q ≡ true → among q (filter p ks) ≡ among q ks
filtered_among p q [] g = refl
filtered_among p q (k ∷ ks) g = among_by p q k ks (p k) (bytes_eq k q) refl refl g (filtered_among p q ks g)
