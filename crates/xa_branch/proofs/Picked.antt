-- The branches in doubt and the XIDs that the operator completed, each picked of what lasts in one pass.
use Rattle.std.proofs.Common.{◌≡◌, ℕ, Bool, true, false, cond, Option, Some, None, List, [], ◌∷◌, map, refl, ap, sym, ◌∙◌, subst}
use Rattle.std.specs.Prelude.{find, option_map, option_and_then, if◌then◌else◌}
use Rattle.std.specs.BTreeMap.{BTreeMap, get, IsOrdered, is_at}
use Rattle.std.specs.List.{AllByRecursion as Each}
use Rattle.std.specs.List.Sorted.{IsStrictlySortedBy}
use Rattle.std.specs.Map.{keys_of, lookup}
use Rattle.std.specs.Ordering.{is_eq, is_lt}
use Rattle.std.specs.declared.cmp.Ordering.TheVariants.{Less}
use Rattle.std.proofs.lemmas.Map.Keys.{sorted_head, sorted_tail}
use Rattle.xa_codes.specs.declared.direction.Direction.{Direction}
use Rattle.xa_xid.specs.Triple.{Triple, xid_eq, xid_cmp}
use Rattle.xa_xid.proofs.Same.{xid_same, xid_eq_same, xid_eq_itself}
use Rattle.xa_model.specs.State.{State, Decided}
use Rattle.xa_model.specs.Invariants.Sound.{IsSound}
use Rattle.xa_model.specs.Durable.{Pairwise, PreparedBranch, named_before, durable}
use Rattle.xa_model.proofs.AppliedDecisions.{names_ascend}
use Rattle.xa_model.proofs.Lists.{found_passes}
use Rattle.xa_model.proofs.Members.{same_decided}
use Rattle.xa_model.proofs.Remains.{distinct_names}
use Rattle.xa_model.proofs.Xids.{cmp_is_eq}
use Rattle.xa_branch.specs.declared.branches.Branches.{Branches}
use Rattle.xa_branch.specs.declared.lasting.Lasting.{Lasting}
use Rattle.xa_branch.specs.declared.lasting.Lasting.TheVariants as lasts
use Rattle.xa_branch.specs.Branches.{BranchesStandFor, lasting_at}
use Rattle.xa_branch.specs.Checkpointed.{decided_as, TimesOf}
use Rattle.xa_branch.specs.Restored.{restored_by}
use Rattle.xa_branch.proofs.Listing.{flipped}
use Rattle.xa_branch.proofs.Returning.{found_lasting, prepared_undecided}

abbrev at : {V : Type 0} → Triple → List (Triple × V) → Option V
at q es = lookup (is_at (xid_cmp q)) es

abbrev pub completed_part : Lasting → Option Direction
completed_part (lasts.Prepared t) = None
completed_part (lasts.Completed d) = Some d

abbrev pub prepared_part : Lasting → Option ℕ
prepared_part (lasts.Prepared t) = Some t
prepared_part (lasts.Completed d) = None

-- of what isn't met yet there is nothing
abbrev pub unless : {V : Type 0} → Option Lasting → Option V → Option V
unless None x = x
unless (Some l) x = None

pub record IsPicked {V : Type 0} (part : Lasting → Option V) (all rest : List (Triple × Lasting)) (made : BTreeMap Triple V) : Type 0 where
  pub sorted : IsStrictlySortedBy xid_cmp (keys_of rest)
  pub there : Each (λ e. at e.0 all ≡ Some e.1) rest
  pub picked : (q : Triple) → get xid_cmp made q ≡ unless (at q rest) (option_and_then part (at q all))
  pub ordered : IsOrdered xid_cmp made

-- before the first

tie_back : (x y : Triple) → xid_eq x y ≡ false → xid_eq y x ≡ false
tie_back x y e = flipped y x ∙ e

pub cmp_flipped : (x y : Triple) → is_eq (xid_cmp x y) ≡ is_eq (xid_cmp y x)
cmp_flipped x y = cmp_is_eq x y ∙ (flipped x y ∙ sym (cmp_is_eq y x))

less_apart : (x y : Triple) → xid_cmp x y ≡ Less → xid_eq x y ≡ false
less_apart x y e = sym (cmp_is_eq x y) ∙ ap is_eq e

found_behind : (e : Triple × Lasting) (rest es : List (Triple × Lasting)) → Each (λ k. xid_cmp e.0 k ≡ Less) (keys_of es) → Each (λ x. at x.0 rest ≡ Some x.1) es → Each (λ x. at x.0 (e ∷ rest) ≡ Some x.1) es
found_behind e rest [] less h = tt
found_behind e rest (x ∷ es) less h =
    let off : xid_eq x.0 e.0 ≡ false = tie_back e.0 x.0 (less_apart e.0 x.0 less.0) in
    (rw (cmp_is_eq x.0 e.0, off) h.0, found_behind e rest es less.1 h.1)

all_found : (es : List (Triple × Lasting)) → IsStrictlySortedBy xid_cmp (keys_of es) → Each (λ e. at e.0 es ≡ Some e.1) es
all_found [] s = tt
all_found (e ∷ es) s = (
  rw (cmp_is_eq e.0 e.0, xid_eq_itself e.0) refl,
  found_behind e es es (sorted_head xid_cmp e.0 (keys_of es) s) (all_found es (sorted_tail xid_cmp e.0 (keys_of es) s)),
)

pub picked_none : {V : Type 0} (part : Lasting → Option V) (all : List (Triple × Lasting)) (made : BTreeMap Triple V) → IsStrictlySortedBy xid_cmp (keys_of all) → ((q : Triple) → get xid_cmp made q ≡ None) → IsOrdered xid_cmp made → IsPicked part all all made
picked_none {V} part all made s none ordered = record { sorted = s; there = all_found all s; picked = λ q. none q ∙ by (at q all); ordered = ordered }
  where
    by : (o : Option Lasting) → ◌≡◌ {A = Option V} None (unless o (option_and_then part o))
    by None = refl
    by (Some l) = refl

-- one more

not_behind : (x : Triple) (es : List (Triple × Lasting)) → Each (λ k. xid_cmp x k ≡ Less) (keys_of es) → at x es ≡ None
not_behind x [] less = refl
not_behind x (e ∷ es) less = rw (cmp_is_eq x e.0, less_apart x e.0 less.0) (not_behind x es less.1)

picked_more : {V : Type 0} (part : Lasting → Option V) (all rest : List (Triple × Lasting)) (e : Triple × Lasting) (old new : BTreeMap Triple V) → ((q : Triple) → get xid_cmp new q ≡ (if is_eq (xid_cmp q e.0) then part e.1 else get xid_cmp old q)) → IsOrdered xid_cmp new
    → IsPicked part all (e ∷ rest) old → IsPicked part all rest new
picked_more part all rest e old new set ordered h =
    let less = sorted_head xid_cmp e.0 (keys_of rest) h.sorted in
    record {
      sorted = sorted_tail xid_cmp e.0 (keys_of rest) h.sorted;
      there = h.there.1;
      picked = λ q. set q ∙ by q (is_eq (xid_cmp q e.0)) refl (not_behind e.0 rest less) (h.picked q);
      ordered = ordered;
    }
  where
    by : (q : Triple) (c : Bool) → is_eq (xid_cmp q e.0) ≡ c → at e.0 rest ≡ None → get xid_cmp old q ≡ unless (cond c (Some e.1) (at q rest)) (option_and_then part (at q all))
        → (if c then part e.1 else get xid_cmp old q) ≡ unless (at q rest) (option_and_then part (at q all))
    by q true t none before =
        let same : e.0 ≡ q = sym (xid_same q e.0 (sym (cmp_is_eq q e.0) ∙ t)) in
        subst (λ (z : Triple). part e.1 ≡ unless (at z rest) (option_and_then part (at z all))) same
        (ap (option_and_then part) (sym h.there.0) ∙ sym (ap (λ o. unless o (option_and_then part (at e.0 all))) none))
    by q false t none before = before

-- where nothing is picked, nothing is added
kept_as : {V : Type 0} (part : Lasting → Option V) (q x : Triple) (l : Lasting) (old : BTreeMap Triple V) (rest all : List (Triple × Lasting)) → part l ≡ None → get xid_cmp old q ≡ unless (at q ((x, l) ∷ rest)) (option_and_then part (at q all))
    → get xid_cmp old q ≡ (if is_eq (xid_cmp q x) then part l else get xid_cmp old q)
kept_as part q x l old rest all none before = by (is_eq (xid_cmp q x)) before
  where
    by : (c : Bool) → get xid_cmp old q ≡ unless (cond c (Some l) (at q rest)) (option_and_then part (at q all)) → get xid_cmp old q ≡ (if c then part l else get xid_cmp old q)
    by true e = e ∙ sym none
    by false e = refl

-- the next is passed over
pub picked_over : {V : Type 0} (part : Lasting → Option V) (all met rest : List (Triple × Lasting)) (x : Triple) (l : Lasting) (old : BTreeMap Triple V) → part l ≡ None → met ≡ (x, l) ∷ rest → IsPicked part all met old
    → IsPicked part all rest old
picked_over part all met rest x l old none next h =
    let before : IsPicked part all ((x, l) ∷ rest) old = subst (λ (es : List (Triple × Lasting)). IsPicked part all es old) next h in
    picked_more part all rest (x, l) old old (λ q. kept_as part q x l old rest all none (before.picked q)) before.ordered before

-- or picked, by a copy of its XID
pub picked_next : {V : Type 0} (part : Lasting → Option V) (all met rest : List (Triple × Lasting)) (x : Triple) (l : Lasting) {y : Triple} (v : V) (old new : BTreeMap Triple V) → part l ≡ Some v → met ≡ (x, l) ∷ rest → y ≡ x
    → ((q : Triple) → get xid_cmp new q ≡ (if is_eq (xid_cmp y q) then Some v else get xid_cmp old q)) → IsOrdered xid_cmp new → IsPicked part all met old → IsPicked part all rest new
picked_next {V} part all met rest x l v old new some next copied set ordered h =
    picked_more part all rest (x, l) old new
    (λ q. set q
    ∙ (ap (λ (z : Triple). if is_eq (xid_cmp z q) then Some v else get xid_cmp old q) copied
    ∙ (ap (λ (b : Bool). if b then Some v else get xid_cmp old q) (cmp_flipped x q)
    ∙ ap (λ (o : Option V). if is_eq (xid_cmp q x) then o else get xid_cmp old q) (sym some))))
    ordered (subst (λ (es : List (Triple × Lasting)). IsPicked part all es old) next h)

-- and after the last

abbrev one_of : Triple → Direction → Decided
one_of q d = record { xid = q; direction = d }

find_picked : (q : Triple) (es : List (Triple × Direction)) → find (λ d. xid_eq d.xid q) (map (λ e. one_of e.0 e.1) es) ≡ option_map (one_of q) (at q es)
find_picked q [] = refl
find_picked q (e ∷ es) = by (xid_eq e.0 q) refl (find_picked q es)
  where
    by : (c : Bool) → xid_eq e.0 q ≡ c → find (λ d. xid_eq d.xid q) (map (λ e. one_of e.0 e.1) es) ≡ option_map (one_of q) (at q es)
        → find (λ d. xid_eq d.xid q) (map (λ e. one_of e.0 e.1) (e ∷ es)) ≡ option_map (one_of q) (at q (e ∷ es))
    by true f rest =
        let back : xid_eq q e.0 ≡ true = xid_eq_same q e.0 (sym (xid_same e.0 q f)) in
        rw (cmp_is_eq q e.0, f, back) (ap (λ z. Some (one_of z e.1)) (xid_same e.0 q f))
    by false f rest = let back : xid_eq q e.0 ≡ false = tie_back e.0 q f in rw (cmp_is_eq q e.0, f, back) rest

picked_ascend : (es : List (Triple × Direction)) → IsStrictlySortedBy xid_cmp (keys_of es) → Pairwise named_before (map (λ e. one_of e.0 e.1) es)
picked_ascend [] s = tt
picked_ascend (e ∷ es) s = (below es (sorted_head xid_cmp e.0 (keys_of es) s), picked_ascend es (sorted_tail xid_cmp e.0 (keys_of es) s))
  where
    below : (xs : List (Triple × Direction)) → Each (λ k. xid_cmp e.0 k ≡ Less) (keys_of xs) → Each (λ d. named_before (one_of e.0 e.1) d ≡ true) (map (λ e. one_of e.0 e.1) xs)
    below [] h = tt
    below (x ∷ xs) h = (ap is_lt h.0, below xs h.1)

same_pairs : (es : List (Triple × Direction)) → map decided_as (map (λ e. one_of e.0 e.1) es) ≡ es
same_pairs [] = refl
same_pairs (e ∷ es) = ap (λ xs. e ∷ xs) (same_pairs es)

told : (s : State) (q : Triple) → IsSound s → (p : Option PreparedBranch) → find (λ p. xid_eq p.xid q) (durable s).prepared ≡ p → (d : Option Decided) → find (λ d. xid_eq d.xid q) (durable s).decided ≡ d
    → option_map (one_of q) (option_and_then completed_part (restored_by p d)) ≡ d
told s q h (Some p) e None f = refl
told s q h (Some p) e (Some d) f = absurd (cc (prepared_undecided s q p h e, f))
told s q h None e None f = refl
told s q h None e (Some d) f =
    let same : d.xid ≡ q = xid_same d.xid q (found_passes (λ d. xid_eq d.xid q) d (durable s).decided f) in
    ap (λ z. Some (one_of z d.direction)) (sym same)

pub picked_all : (m : Branches) (s : State) (rest : List (Triple × Lasting)) (decided : BTreeMap Triple Direction) → IsSound s → BranchesStandFor m s → ((q : Triple) → get xid_cmp m.lasting q ≡ lasting_at m q) → rest ≡ [] → IsPicked completed_part m.lasting.entries rest decided
    → decided.entries ≡ map decided_as (durable s).decided
picked_all m s rest decided h st bare none k =
    sym (same_pairs decided.entries)
    ∙ ap (map decided_as)
    (same_decided (map (λ e. one_of e.0 e.1) decided.entries) (durable s).decided (picked_ascend decided.entries k.ordered) (names_ascend s.decided (distinct_names s h))
    (λ q. find_picked q decided.entries
    ∙ (ap (option_map (one_of q)) (k.picked q ∙ (ap (λ (es : List (Triple × Lasting)). unless (at q es) (option_and_then completed_part (at q m.lasting.entries))) none ∙ ap (option_and_then completed_part) (bare q ∙ st.lasting q ∙ sym (found_lasting s q h))))
    ∙ told s q h (find (λ p. xid_eq p.xid q) (durable s).prepared) refl (find (λ d. xid_eq d.xid q) (durable s).decided) refl)))

-- the timestamps of those that are in doubt
time_told : (p : Option PreparedBranch) (d : Option Decided) → option_and_then prepared_part (restored_by p d) ≡ option_map (λ b. b.timestamp) p
time_told (Some p) d = refl
time_told None (Some d) = refl
time_told None None = refl

pub times_all : (m : Branches) (s : State) (rest : List (Triple × Lasting)) (prepared : BTreeMap Triple ℕ) → IsSound s → BranchesStandFor m s → ((q : Triple) → get xid_cmp m.lasting q ≡ lasting_at m q) → rest ≡ [] → IsPicked prepared_part m.lasting.entries rest prepared → TimesOf (durable s).prepared prepared
times_all m s rest prepared h st bare none k q =
    k.picked q
    ∙ (ap (λ (es : List (Triple × Lasting)). unless (at q es) (option_and_then prepared_part (at q m.lasting.entries))) none
    ∙ (ap (option_and_then prepared_part) (bare q ∙ st.lasting q ∙ sym (found_lasting s q h))
    ∙ time_told (find (λ p. xid_eq p.xid q) (durable s).prepared) (find (λ d. xid_eq d.xid q) (durable s).decided)))
