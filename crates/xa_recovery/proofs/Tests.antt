-- What is above all, where it is above the last.
use Rattle.std.proofs.Common.{◌≡◌, ◌<◌, ℕ, ◌==◌, Bool, true, false, ◌||◌, cond, List, [], ◌∷◌, length, map, Option, Some, refl, ap, sym, ◌∙◌, arith}
use Rattle.std.specs.Prelude.{nat_lt, is_some}
use Rattle.std.specs.BTreeMap.{BTreeMap, get, is_at}
use Rattle.std.specs.BTreeSet.{BTreeSet, contains}
use Rattle.std.specs.List.{list_any, list_all}
use Rattle.std.specs.Map.{lookup}
use Rattle.std.specs.Option.{IsSome}
use Rattle.std.specs.Ordering.{nat_cmp, is_lt, is_eq, ordering_reverse}
use Rattle.std.specs.declared.cmp.Ordering.{Ordering}
use Rattle.std.specs.declared.cmp.Ordering.TheVariants.{Less, Equal, Greater}
use Rattle.std.proofs.lemmas.Bool.{and_parts}
use Rattle.std.proofs.lemmas.Bool.Decides.{nat_tests}
use Rattle.xa_xid.specs.Triple.{Triple, xid_eq, xid_cmp}
use Rattle.xa_xid.proofs.Same.{xid_same, xid_eq_same, xid_cmp_same, xid_cmp_total}
use Rattle.xa_codes.specs.declared.direction.Direction.{Direction}
use Rattle.xa_model.specs.State.{Decided}
use Rattle.xa_model.specs.Durable.{PreparedBranch}
use Rattle.xa_model.specs.Fold.{is_used}
use Rattle.xa_model.proofs.Xids.{cmp_is_eq}
use Rattle.xa_recovery.specs.declared.durable.InDoubt.{InDoubt}
use Rattle.xa_recovery.specs.Durable.{as_prepared, as_decided}
use Rattle.xa_recovery.proofs.Entries.{eq_nat, looked}

-- members known by a key each
pub record IsKeyed {A K : Type 0} (at : A → K) (same : K → A → Bool) : Type 0 where
  pub itself : (x : A) → same (at x) x ≡ true
  pub only : (q : K) (x : A) → same q x ≡ true → at x ≡ q

or_right : (a b : Bool) → b ≡ true → (a || b) ≡ true
or_right true b e = refl
or_right false b e = e

all_low : {A K : Type 0} (at : A → K) (same : K → A → Bool) (k : IsKeyed at same) (low : K → Bool) (xs : List A) → ((q : K) → list_any (same q) xs ≡ true → low q ≡ true) → list_all (λ x. low (at x)) xs ≡ true
all_low at same k low [] h = refl
all_low at same k low (x ∷ xs) h =
    let mine : same (at x) x ≡ true = k.itself x in
    let here : low (at x) ≡ true = h (at x) (rw mine refl) in
    let rest : list_all (λ y. low (at y)) xs ≡ true = all_low at same k low xs (λ q e. h q (or_right (same q x) (list_any (same q) xs) e)) in
    rw (here, rest) refl

low_by : {A K : Type 0} (at : A → K) (same : K → A → Bool) (k : IsKeyed at same) (low : K → Bool) (q : K) (x : A) (b c : Bool) → same q x ≡ c → low (at x) ≡ true → (b ≡ true → low q ≡ true) → (c || b) ≡ true → low q ≡ true
low_by at same k low q x b true e here rest has = ap low (sym (k.only q x e)) ∙ here
low_by at same k low q x b false e here rest has = rest has

low_of : {A K : Type 0} (at : A → K) (same : K → A → Bool) (k : IsKeyed at same) (low : K → Bool) (q : K) (xs : List A) → list_all (λ x. low (at x)) xs ≡ true → list_any (same q) xs ≡ true → low q ≡ true
low_of at same k low q [] all has = absurd (cc has)
low_of at same k low q (x ∷ xs) all has =
    let both = and_parts (low (at x)) (list_all (λ y. low (at y)) xs) all in
    low_by at same k low q x (list_any (same q) xs) (same q x) refl both.0 (λ e. low_of at same k low q xs both.1 e) has

same_test : (a b : Bool) → (a ≡ true → b ≡ true) → (b ≡ true → a ≡ true) → a ≡ b
same_test true true f g = refl
same_test true false f g = sym (f refl)
same_test false true f g = g refl
same_test false false f g = refl

-- all are low where the last is, which is one of them
pub last_test : {A K : Type 0} (at : A → K) (same : K → A → Bool) (k : IsKeyed at same) (low : K → Bool) (last : K) (xs : List A) → list_any (same last) xs ≡ true
    → ((q : K) → list_any (same q) xs ≡ true → low last ≡ true → low q ≡ true) → low last ≡ list_all (λ x. low (at x)) xs
last_test at same k low last xs has upto =
    same_test (low last) (list_all (λ x. low (at x)) xs) (λ e. all_low at same k low xs (λ q f. upto q f e)) (λ e. low_of at same k low last xs e has)

-- timestamps
pub times : IsKeyed (λ (u : ℕ). u) (λ (q u : ℕ). u == q)
times = record { itself = λ u. grind (arith, nat_tests); only = λ q u e. grind (arith, nat_tests, e) }

pub time_upto : (last q t : ℕ) → is_lt (nat_cmp last q) ≡ false → nat_lt last t ≡ true → nat_lt q t ≡ true
time_upto last q t upto low = by (nat_lt last q) (last == q) refl refl upto
  where
    by : (a b : Bool) → nat_lt last q ≡ a → (last == q) ≡ b → is_lt (cond a Less (cond b Equal Greater)) ≡ false → nat_lt q t ≡ true
    by true b e f h = absurd (cc h)
    by false b e f h = grind (arith, nat_tests, e, low)

pub is_last_time : (s : BTreeSet ℕ) (last t : ℕ) (ts : List ℕ) → ((q : ℕ) → contains nat_cmp s q ≡ is_used q ts) → contains nat_cmp s last ≡ true
    → ((q : ℕ) → contains nat_cmp s q ≡ true → is_lt (nat_cmp last q) ≡ false) → nat_lt last t ≡ list_all (λ u. nat_lt u t) ts
is_last_time s last t ts same has upto =
    last_test (λ (u : ℕ). u) (λ (q u : ℕ). u == q) times (λ u. nat_lt u t) last ts (sym (same last) ∙ has) (λ q e low. time_upto last q t (upto q (same q ∙ e)) low)

pub none_used : (s : BTreeSet ℕ) (t : ℕ) (ts : List ℕ) → ((q : ℕ) → contains nat_cmp s q ≡ is_used q ts) → (0 < length s.keys → ⊥) → true ≡ list_all (λ u. nat_lt u t) ts
none_used s t ts same none =
    sym (all_low (λ (u : ℕ). u) (λ (q u : ℕ). u == q) times (λ u. nat_lt u t) ts (λ q e. absurd (empty q s.keys none (same q ∙ e))))
  where
    empty : (q : ℕ) (ks : List ℕ) → (0 < length ks → ⊥) → list_any (is_at (nat_cmp q)) ks ≡ true → ⊥
    empty q [] none e = cc e
    empty q (k ∷ ks) none e = none (omega arith)

-- branches in doubt
pub stamps : IsKeyed (λ (p : PreparedBranch). p.timestamp) (λ (q : ℕ) (p : PreparedBranch). p.timestamp == q)
stamps = record { itself = λ p. grind (arith, nat_tests); only = λ q p e. grind (arith, nat_tests, e) }

swapped : (q u : ℕ) → is_eq (nat_cmp q u) ≡ (u == q)
swapped q u = eq_nat q u ∙ grind (arith, nat_tests)

pub has_stamp : (q : ℕ) (es : List (ℕ × InDoubt)) → is_some (lookup (is_at (nat_cmp q)) es) ≡ list_any (λ p. p.timestamp == q) (map as_prepared es)
has_stamp q es = looked as_prepared (is_at (nat_cmp q)) (λ p. p.timestamp == q) (λ e. swapped q e.0) es

some_is : {A : Type 0} (o : Option A) → is_some o ≡ true → IsSome o
some_is o e = e

pub is_last_stamp : (m : BTreeMap ℕ InDoubt) (last t : ℕ) (v : InDoubt) (ps : List PreparedBranch) → map as_prepared m.entries ≡ ps → get nat_cmp m last ≡ Some v
    → ((q : ℕ) → IsSome (get nat_cmp m q) → is_lt (nat_cmp last q) ≡ false) → nat_lt last t ≡ list_all (λ p. nat_lt p.timestamp t) ps
is_last_stamp m last t v ps same has upto =
    last_test (λ (p : PreparedBranch). p.timestamp) (λ (q : ℕ) (p : PreparedBranch). p.timestamp == q) stamps (λ u. nat_lt u t) last ps
    (ap (λ qs. list_any (λ p. p.timestamp == last) qs) (sym same) ∙ sym (has_stamp last m.entries) ∙ ap is_some has)
    (λ q e low. time_upto last q t (upto q (some_is (get nat_cmp m q) (has_stamp q m.entries ∙ (ap (λ qs. list_any (λ p. p.timestamp == q) qs) same ∙ e)))) low)

-- what the operator completed
pub names : IsKeyed (λ (d : Decided). d.xid) (λ (q : Triple) (d : Decided). xid_eq d.xid q)
names = record { itself = λ d. xid_eq_same d.xid d.xid refl; only = λ q d e. xid_same d.xid q e }

pub eq_back : (x y : Triple) → is_eq (xid_cmp x y) ≡ xid_eq y x
eq_back x y = same_test (is_eq (xid_cmp x y)) (xid_eq y x) (λ e. xid_eq_same y x (sym (xid_same x y (sym (cmp_is_eq x y) ∙ e)))) (λ e. cmp_is_eq x y ∙ xid_eq_same x y (sym (xid_same y x e)))

pub has_name : (q : Triple) (es : List (Triple × Direction)) → is_some (lookup (is_at (xid_cmp q)) es) ≡ list_any (λ d. xid_eq d.xid q) (map as_decided es)
has_name q es = looked as_decided (is_at (xid_cmp q)) (λ d. xid_eq d.xid q) (λ e. eq_back q e.0) es

name_upto : (last q xid : Triple) → is_lt (xid_cmp last q) ≡ false → is_lt (xid_cmp last xid) ≡ true → is_lt (xid_cmp q xid) ≡ true
name_upto last q xid upto low = by (xid_cmp q last) refl
  where
    less : (o : Ordering) → is_lt o ≡ true → o ≡ Less
    less Less e = refl
    less Equal e = absurd (cc e)
    less Greater e = absurd (cc e)

    by : (o : Ordering) → xid_cmp q last ≡ o → is_lt (xid_cmp q xid) ≡ true
    by Less e = ap is_lt (xid_cmp_total.trans q last xid e (less (xid_cmp last xid) low))
    by Equal e = ap (λ x. is_lt (xid_cmp x xid)) (xid_cmp_same q last e) ∙ low
    by Greater e = absurd (cc (upto, ap is_lt (xid_cmp_total.antisymm last q ∙ ap ordering_reverse e)))

pub is_last_name : (m : BTreeMap Triple Direction) (last xid : Triple) (v : Direction) (ds : List Decided) → map as_decided m.entries ≡ ds → get xid_cmp m last ≡ Some v
    → ((q : Triple) → IsSome (get xid_cmp m q) → is_lt (xid_cmp last q) ≡ false) → is_lt (xid_cmp last xid) ≡ list_all (λ d. is_lt (xid_cmp d.xid xid)) ds
is_last_name m last xid v ds same has upto =
    last_test (λ (d : Decided). d.xid) (λ (q : Triple) (d : Decided). xid_eq d.xid q) names (λ u. is_lt (xid_cmp u xid)) last ds
    (ap (λ qs. list_any (λ d. xid_eq d.xid last) qs) (sym same) ∙ sym (has_name last m.entries) ∙ ap is_some has)
    (λ q e low. name_upto last q xid (upto q (some_is (get xid_cmp m q) (has_name q m.entries ∙ (ap (λ qs. list_any (λ d. xid_eq d.xid q) qs) same ∙ e)))) low)
