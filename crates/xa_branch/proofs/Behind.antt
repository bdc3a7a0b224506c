-- Branches that a session leaves behind, one after another.
use Rattle.std.proofs.Common.{◌≡◌, ℕ, Bool, true, false, not, ◌&&◌, ◌||◌, cond, Less, List, [], ◌∷◌, Option, refl, ap, sym, ◌∙◌, subst}
use Rattle.std.specs.Prelude.{option_map}
use Rattle.std.specs.BTreeMap.{BTreeMap, get, btree_map_len, is_at}
use Rattle.std.specs.BTreeSet.{BTreeSet}
use Rattle.std.specs.List.{list_any, AllByRecursion}
use Rattle.std.specs.List.Sorted.{IsStrictlySortedBy}
use Rattle.std.specs.Ordering.{is_eq}
use Rattle.std.proofs.lemmas.Map.Keys.{sorted_head, sorted_tail}
use Rattle.xa_xid.specs.Triple.{Triple, xid_eq, xid_cmp}
use Rattle.xa_xid.proofs.Same.{xid_same}
use Rattle.xa_model.proofs.Xids.{cmp_is_eq}
use Rattle.xa_branch.specs.declared.working.Working.{Working as Kept}
use Rattle.xa_branch.specs.Kinds.{own_kind}
use Rattle.xa_branch.specs.Changes.{Sets, left_behind}
use Rattle.xa_branch.specs.Due.{due_among, due_kept, is_then, LosesDue, LosesAllDue}
use Rattle.xa_branch.proofs.Marking.{same_number}

-- what is at an XID, once these are left behind
abbrev pub behind : Option Triple → List Triple → Triple → Option Kept → Option Kept
behind active xids q o = cond (list_any (is_at (xid_cmp q)) xids) (option_map (left_behind (own_kind active q)) o) o

-- The rest is to be left behind yet, and then all are.
pub record LeavesRest (m : BTreeMap Triple Kept) (own : BTreeSet Triple) (active : Option Triple) (rest : List Triple) (m' : BTreeMap Triple Kept) : Type 0 where
  pub at : (q : Triple) → behind active rest q (get xid_cmp m' q) ≡ behind active own.keys q (get xid_cmp m q)
  pub number : btree_map_len m' ≡ btree_map_len m
  pub sorted : IsStrictlySortedBy xid_cmp rest

-- the first is none of the others

apart : (x : Triple) (rest : List Triple) → AllByRecursion (λ y. xid_cmp x y ≡ Less) rest → list_any (is_at (xid_cmp x)) rest ≡ false
apart x [] all = refl
apart x (y ∷ rest) all = let later : list_any (is_at (xid_cmp x)) rest ≡ false = apart x rest all.1 in rw (all.0, later) refl

other_way : (x q : Triple) (c : Bool) → xid_eq x q ≡ c → xid_eq q x ≡ false → c ≡ false
other_way x q true e differs =
    let itself : xid_eq x x ≡ true = subst (λ (z : Triple). xid_eq x z ≡ true) (sym (xid_same x q e)) e in
    let same : xid_eq q x ≡ true = subst (λ (z : Triple). xid_eq z x ≡ true) (xid_same x q e) itself in absurd (cc (same, differs))
other_way x q false e differs = refl

-- one more is left behind

here : (active : Option Triple) (x : Triple) (rest : List Triple) (m' m'' : BTreeMap Triple Kept) → list_any (is_at (xid_cmp x)) rest ≡ false → xid_eq x x ≡ true
    → Sets m' x (option_map (left_behind (own_kind active x)) (get xid_cmp m' x)) m''
    → behind active rest x (get xid_cmp m'' x) ≡ option_map (left_behind (own_kind active x)) (get xid_cmp m' x)
here active x rest m' m'' apart_ itself sets = rw apart_ (sets.at x ∙ rw (cmp_is_eq x x, itself) refl)

there : (active : Option Triple) (x q : Triple) (rest : List Triple) (m' m'' : BTreeMap Triple Kept) (c : Bool) → xid_eq q x ≡ c → IsStrictlySortedBy xid_cmp (x ∷ rest)
    → Sets m' x (option_map (left_behind (own_kind active x)) (get xid_cmp m' x)) m''
    → behind active rest q (get xid_cmp m'' q) ≡ cond (c || list_any (is_at (xid_cmp q)) rest) (option_map (left_behind (own_kind active q)) (get xid_cmp m' q)) (get xid_cmp m' q)
there active x q rest m' m'' true e sorted sets =
    let same : q ≡ x = xid_same q x e in
    let itself : xid_eq x x ≡ true = subst (λ (z : Triple). xid_eq z x ≡ true) same e in
    subst (λ (z : Triple). behind active rest z (get xid_cmp m'' z) ≡ option_map (left_behind (own_kind active z)) (get xid_cmp m' z)) (sym same)
    (here active x rest m' m'' (apart x rest (sorted_head xid_cmp x rest sorted)) itself sets)
there active x q rest m' m'' false e sorted sets =
    let other : is_eq (xid_cmp x q) ≡ false = cmp_is_eq x q ∙ other_way x q (xid_eq x q) refl e in
    let kept : get xid_cmp m'' q ≡ get xid_cmp m' q = sets.at q ∙ rw other refl in
    ap (behind active rest q) kept

pub one_left : (m : BTreeMap Triple Kept) (own : BTreeSet Triple) (active : Option Triple) (x : Triple) (rest : List Triple) (m' m'' : BTreeMap Triple Kept) → LeavesRest m own active (x ∷ rest) m'
    → Sets m' x (option_map (left_behind (own_kind active x)) (get xid_cmp m' x)) m'' → LeavesRest m own active rest m''
one_left m own active x rest m' m'' left sets = record {
  at = λ q.
      there active x q rest m' m'' (is_eq (xid_cmp q x)) (sym (cmp_is_eq q x)) left.sorted sets ∙ left.at q;
  number = same_number (left_behind (own_kind active x)) (get xid_cmp m' x) (btree_map_len m'') (btree_map_len m') sets.number ∙ left.number;
  sorted = sorted_tail xid_cmp x rest left.sorted;
}

-- When they run out of time is taken away, of one after another

abbrev pub taken : BTreeMap Triple Kept → List Triple → BTreeSet (ℕ × Triple) → ℕ → Triple → Bool
taken m xids due t q = due_among due t q && not (list_any (is_at (xid_cmp q)) xids && is_then (due_kept (get xid_cmp m q)) t)

-- of the rest it is to be taken away yet, and then of all
abbrev pub TakesRest : BTreeMap Triple Kept → BTreeSet (ℕ × Triple) → BTreeSet Triple → List Triple → BTreeSet (ℕ × Triple) → Type 0
TakesRest m due own rest due' = (t : ℕ) (q : Triple) → taken m rest due' t q ≡ taken m own.keys due t q

drop_here : (a i b : Bool) → ((a && not (b && true)) && not (i && b)) ≡ (a && not ((true || i) && b))
drop_here true true true = refl
drop_here true true false = refl
drop_here true false true = refl
drop_here true false false = refl
drop_here false i b = refl

drop_other : (a i b d : Bool) → ((a && not (d && false)) && not (i && b)) ≡ (a && not ((false || i) && b))
drop_other true i b true = refl
drop_other true i b false = refl
drop_other false i b d = refl

take_by : (m : BTreeMap Triple Kept) (x q : Triple) (rest : List Triple) (due' due'' : BTreeSet (ℕ × Triple)) (t : ℕ) (c : Bool) → xid_eq x q ≡ c → LosesDue due' x (due_kept (get xid_cmp m x)) due''
    → taken m rest due'' t q ≡ taken m (x ∷ rest) due' t q
take_by m x q rest due' due'' t true e loses =
    let same : x ≡ q = xid_same x q e in
    let at : is_eq (xid_cmp q x) ≡ true = cmp_is_eq q x ∙ subst (λ (z : Triple). xid_eq z x ≡ true) same (subst (λ (z : Triple). xid_eq x z ≡ true) (sym same) e) in
    let gone : due_among due'' t q ≡ (due_among due' t q && not (is_then (due_kept (get xid_cmp m q)) t && true)) =
    loses t q ∙ ap (λ (b : Bool). due_among due' t q && not (is_then (due_kept (get xid_cmp m x)) t && b)) e
    ∙ ap (λ (z : Triple). due_among due' t q && not (is_then (due_kept (get xid_cmp m z)) t && true)) same in
    ap (λ (a : Bool). a && not (list_any (is_at (xid_cmp q)) rest && is_then (due_kept (get xid_cmp m q)) t)) gone
    ∙ drop_here (due_among due' t q) (list_any (is_at (xid_cmp q)) rest) (is_then (due_kept (get xid_cmp m q)) t)
    ∙ ap (λ (b : Bool). due_among due' t q && not ((b || list_any (is_at (xid_cmp q)) rest) && is_then (due_kept (get xid_cmp m q)) t)) (sym at)
take_by m x q rest due' due'' t false e loses =
    let at : is_eq (xid_cmp q x) ≡ false = cmp_is_eq q x ∙ other_way q x (xid_eq q x) refl e in
    let gone : due_among due'' t q ≡ (due_among due' t q && not (is_then (due_kept (get xid_cmp m x)) t && false)) =
    loses t q ∙ ap (λ (b : Bool). due_among due' t q && not (is_then (due_kept (get xid_cmp m x)) t && b)) e in
    ap (λ (a : Bool). a && not (list_any (is_at (xid_cmp q)) rest && is_then (due_kept (get xid_cmp m q)) t)) gone
    ∙ drop_other (due_among due' t q) (list_any (is_at (xid_cmp q)) rest) (is_then (due_kept (get xid_cmp m q)) t) (is_then (due_kept (get xid_cmp m x)) t)
    ∙ ap (λ (b : Bool). due_among due' t q && not ((b || list_any (is_at (xid_cmp q)) rest) && is_then (due_kept (get xid_cmp m q)) t)) (sym at)

pub one_taken : (m : BTreeMap Triple Kept) (due : BTreeSet (ℕ × Triple)) (own : BTreeSet Triple) (x : Triple) (rest : List Triple) (due' due'' : BTreeSet (ℕ × Triple)) → TakesRest m due own (x ∷ rest) due'
    → LosesDue due' x (due_kept (get xid_cmp m x)) due'' → TakesRest m due own rest due''
one_taken m due own x rest due' due'' left loses = λ t q. take_by m x q rest due' due'' t (xid_eq x q) refl loses ∙ left t q

and_true : (b : Bool) → b ≡ (b && true)
and_true true = refl
and_true false = refl

pub all_taken : (m : BTreeMap Triple Kept) (due : BTreeSet (ℕ × Triple)) (own : BTreeSet Triple) (due' : BTreeSet (ℕ × Triple)) → TakesRest m due own [] due' → LosesAllDue m due own due'
all_taken m due own due' left = λ t q. and_true (due_among due' t q) ∙ left t q
