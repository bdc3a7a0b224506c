-- The known branches, of what is kept and of the state: the same XIDs in the same order, and the same is told of each.
use Rattle.std.proofs.Common.{◌≡◌, inl, inr, ℕ, zero, suc, ◌≤◌, Bool, true, false, ◌&&◌, ◌||◌, cond, Option, Some, None, List, [], ◌∷◌, refl, ap, sym, ◌∙◌, subst, arith}
use Rattle.std.specs.Prelude.{filter, filter_map, find, is_some, map, option_map, take}
use Rattle.std.specs.BTreeMap.{BTreeMap, IsOrdered, keys, is_at}
use Rattle.std.specs.List.{list_any, AllByRecursion, cons_option}
use Rattle.std.specs.List.Sorted.{IsStrictlySortedBy}
use Rattle.std.specs.Map.{keys_of, lookup}
use Rattle.std.specs.Ordering.{is_eq, ordering_reverse}
use Rattle.std.specs.declared.cmp.Ordering.TheVariants.{Less, Greater}
use Rattle.std.proofs.lemmas.List.{take-map}
use Rattle.std.proofs.lemmas.List.Folds.{list_any-append}
use Rattle.std.proofs.lemmas.Map.Keys.{sorted_head, sorted_tail}
use Rattle.xa_codes.specs.declared.direction.Direction.TheVariants as direction
use Rattle.xa_frame.specs.declared.known_branch.AssociationCounts.{AssociationCounts}
use Rattle.xa_frame.specs.declared.known_branch.KnownBranch.{KnownBranch}
use Rattle.xa_xid.specs.Triple.{Triple, xid_eq, xid_cmp}
use Rattle.xa_xid.proofs.Same.{xid_same, xid_eq_same, xid_cmp_itself, xid_cmp_total}
use Rattle.xa_model.specs.State.{State, Branch, Decided, Association, Holder, Active, Suspended, Loose, name_of, is_with, known_of, decided_of, holders_of}
use Rattle.xa_model.specs.Invariants.Sound.{IsSound}
use Rattle.xa_model.specs.Durable.{Pairwise}
use Rattle.xa_model.specs.KnownBranches.{known_names, counts_of, is_of_one_at_work, is_of_one_suspended, told_of, branches_after}
use Rattle.xa_model.specs.Listed.{in_order, is_above}
use Rattle.xa_model.proofs.InOrder.{below, below_transitive, below_strict, ordered_pairwise}
use Rattle.xa_model.proofs.Inserts.{all_imply, filter_keeps}
use Rattle.xa_model.proofs.Members.{Member, same_members}
use Rattle.xa_branch.specs.declared.branches.Branches.{Branches}
use Rattle.xa_branch.specs.declared.kind.Kind.TheVariants as kind
use Rattle.xa_branch.specs.declared.lasting.Lasting.{Lasting}
use Rattle.xa_branch.specs.declared.lasting.Lasting.TheVariants as lasts
use Rattle.xa_branch.specs.declared.working.Working.{Working as Kept}
use Rattle.xa_branch.specs.Branches.{BranchesStandFor, working_at, working_known, lasting_at, lasting_known}
use Rattle.xa_branch.specs.Kinds.{kind_of, same_kind, held_as}
use Rattle.xa_branch.specs.Told.{short, told_working, told_lasting, comes_first}
use Rattle.xa_branch.proofs.Counting.{holders_by_kind, loose_is}
use Rattle.xa_branch.proofs.Listing.{has, has_keys, has_fold, has_map, member_has, has_member, sorted_pairwise, some_or, keys_filtered}
use Rattle.xa_branch.proofs.Looks.{IsWorking, Seen, Nowhere, There, Doubtful, Done, seen, seen_at, works_at, idle}
use Rattle.xa_branch.proofs.NoRooms.{HasNoRooms}
use Rattle.xa_branch.proofs.Merging.{merge, any_merge, all_merge, ordered_merge}
use Rattle.xa_branch.proofs.Owners.{few}

-- what is kept above one
abbrev pub part : {V : Type 0} → Option Triple → BTreeMap Triple V → List (Triple × V)
part after m = filter (λ e. is_above after e.0) m.entries

abbrev pub all_after : Option Triple → Branches → List KnownBranch
all_after after m = merge (map told_working (part after m.working)) (map told_lasting (part after m.lasting))

pub part_is : {V : Type 0} (p : Triple → Bool) (after : Option Triple) → ((x : Triple) → p x ≡ is_above after x) → (es : List (Triple × V)) → filter (λ e. p e.0) es ≡ filter (λ e. is_above after e.0) es
part_is p after same [] = refl
part_is p after same (e ∷ es) = rw (same e.0, part_is p after same es) refl

-- ---- entries

names_told : {V : Type 0} (told : Triple × V → KnownBranch) → ((e : Triple × V) → (told e).xid ≡ e.0) → (q : Triple) (es : List (Triple × V)) → list_any (λ b. xid_eq b.xid q) (map told es) ≡ has q (keys_of es)
names_told told named q [] = refl
names_told told named q (e ∷ es) = rw (named e, names_told told named q es) refl

first_told : {V : Type 0} (told : Triple × V → KnownBranch) → ((e : Triple × V) → (told e).xid ≡ e.0) → (x : KnownBranch) (k : Triple) → x.xid ≡ k → (es : List (Triple × V)) → AllByRecursion (λ y. below k y ≡ true) (keys_of es)
    → AllByRecursion (λ b. comes_first x b ≡ true) (map told es)
first_told told named x k is [] h = tt
first_told told named x k is (e ∷ es) h = (rw (is, named e) h.0, first_told told named x k is es h.1)

ordered_told : {V : Type 0} (told : Triple × V → KnownBranch) → ((e : Triple × V) → (told e).xid ≡ e.0) → (es : List (Triple × V)) → Pairwise below (keys_of es) → Pairwise comes_first (map told es)
ordered_told told named [] h = tt
ordered_told told named (e ∷ es) h = (first_told told named (told e) e.0 (named e) es h.0, ordered_told told named es h.1)

-- each entry is what is found at its key
abbrev IsFound : {V : Type 0} → List (Triple × V) → Triple × V → Type 0
IsFound es e = lookup (is_at (xid_cmp e.0)) es ≡ Some e.1

found_behind : {V : Type 0} (k : Triple) (v : V) (all es : List (Triple × V)) → AllByRecursion (λ y. xid_cmp k y ≡ Less) (keys_of es) → AllByRecursion (IsFound all) es → AllByRecursion (IsFound ((k, v) ∷ all)) es
found_behind k v all [] h f = tt
found_behind k v all (e ∷ es) h f =
    let other : xid_cmp e.0 k ≡ Greater = xid_cmp_total.antisymm e.0 k ∙ ap ordering_reverse h.0 in
    (rw (ap is_eq other) f.0, found_behind k v all es h.1 f.1)

each_found : {V : Type 0} (es : List (Triple × V)) → IsStrictlySortedBy xid_cmp (keys_of es) → AllByRecursion (IsFound es) es
each_found [] h = tt
each_found (e ∷ es) h = (
  rw (ap is_eq (xid_cmp_itself e.0)) refl,
  found_behind e.0 e.1 es es (sorted_head xid_cmp e.0 (keys_of es) h) (each_found es (sorted_tail xid_cmp e.0 (keys_of es) h)),
)

all_told : {V : Type 0} (P : KnownBranch → Type 0) (told : Triple × V → KnownBranch) (es : List (Triple × V)) → AllByRecursion (λ e. P (told e)) es → AllByRecursion P (map told es)
all_told P told [] h = tt
all_told P told (e ∷ es) h = (h.0, all_told P told es h.1)

-- ---- an XID above one

has_above_by : (after : Option Triple) (q x : Triple) (xs : List Triple) (c d : Bool) → is_above after x ≡ c → xid_eq x q ≡ d → has q (filter (is_above after) xs) ≡ (is_above after q && has q xs)
    → has q (cond c (x ∷ filter (is_above after) xs) (filter (is_above after) xs)) ≡ (is_above after q && (d || has q xs))
has_above_by after q x xs true true e f ih = let here : is_above after q ≡ true = subst (λ (y : Triple). is_above after y ≡ true) (xid_same x q f) e in rw (f, here) refl
has_above_by after q x xs true false e f ih = rw f ih
has_above_by after q x xs false true e f ih =
    let here : is_above after q ≡ false = subst (λ (y : Triple). is_above after y ≡ false) (xid_same x q f) e in
    ih ∙ rw here refl
has_above_by after q x xs false false e f ih = ih

has_above : (after : Option Triple) (q : Triple) (xs : List Triple) → has q (filter (is_above after) xs) ≡ (is_above after q && has q xs)
has_above after q [] = and_false (is_above after q)
  where
    and_false : (b : Bool) → false ≡ (b && false)
    and_false true = refl
    and_false false = refl
has_above after q (x ∷ xs) = has_above_by after q x xs (is_above after x) (xid_eq x q) refl refl (has_above after q xs)

has_part : {V : Type 0} (after : Option Triple) (q : Triple) (m : BTreeMap Triple V) → has q (keys_of (part after m)) ≡ (is_above after q && is_some (lookup (is_at (xid_cmp q)) m.entries))
has_part after q m =
    ap (has q) (keys_filtered (is_above after) (is_above after) (λ x. refl) m.entries) ∙ (has_above after q (keys m) ∙ ap (λ b. is_above after q && b) (has_keys q m.entries))

-- ---- the XIDs of the state

has_known_by : (q : Triple) (o : Option Triple) (b : Branch) (xs : List Triple) (found : Option Branch) → has q xs ≡ is_some found → has q (cons_option o xs) ≡ is_some (cond (is_with q o) (Some b) found)
has_known_by q (Some x) b xs found ih = rw ih (some_or (xid_eq x q) b found)
has_known_by q None b xs found ih = ih

has_known : (q : Triple) (bs : List Branch) → has q (filter_map (λ b. name_of b.phase) bs) ≡ is_some (known_of bs q)
has_known q [] = refl
has_known q (b ∷ bs) = has_known_by q (name_of b.phase) b (filter_map (λ c. name_of c.phase) bs) (known_of bs q) (has_known q bs)

decided_some : (o : Option Decided) → is_some o ≡ is_some (option_map (λ d. d.direction) o)
decided_some (Some d) = refl
decided_some None = refl

-- one that is known is at work, lasts, or neither
seen_somewhere : (s : State) (q : Triple) (o : Option Kept) (l : Option Lasting) → Seen s q o l → (is_some o || is_some l) ≡ (is_some (known_of s.branches q) || is_some (decided_of s.decided q))
seen_somewhere s q None None (Nowhere e d) = rw (e, d) refl
seen_somewhere s q (Some w) None (There v is) = rw is.found refl
seen_somewhere s q None (Some l) (Doubtful t is) = rw is.found refl
seen_somewhere s q None (Some l) (Done way e d) = rw (e, d) refl
seen_somewhere s q (Some w) (Some l) x = elim x [ ]

never_both : (s : State) (q : Triple) (o : Option Kept) (l : Option Lasting) → Seen s q o l → is_some o ≡ true → is_some l ≡ true → ⊥
never_both s q (Some w) (Some l) x e f = elim x [ ]
never_both s q None l x e f = cc e
never_both s q (Some w) None x e f = cc f

has_names : (s : State) (q : Triple) → has q (known_names s) ≡ (is_some (working_known s q) || is_some (lasting_known s q))
has_names s q =
    list_any-append (λ x. xid_eq x q) (filter_map (λ b. name_of b.phase) s.branches) (map (λ d. d.xid) s.decided)
    ∙ (rw (has_known q s.branches, has_map (λ d. d.xid) q s.decided) refl
    ∙ (ap (λ b. is_some (known_of s.branches q) || b) (decided_some (find (λ d. xid_eq d.xid q) s.decided))
    ∙ sym (seen_somewhere s q (working_known s q) (lasting_known s q) (seen s q))))

-- ---- what is told of each

-- the kinds of associations, as the sequential resource manager counts them
at_work_kind : (h : Holder) → same_kind (kind_of h) kind.Active ≡ is_of_one_at_work h
at_work_kind (Active n) = refl
at_work_kind (Suspended n) = refl
at_work_kind Loose = refl

suspended_kind : (h : Holder) → same_kind (kind_of h) kind.Suspended ≡ is_of_one_suspended h
suspended_kind (Active n) = refl
suspended_kind (Suspended n) = refl
suspended_kind Loose = refl

active_is : (held : List Association) (xid : Triple) → held_as kind.Active held xid ≡ (counts_of held xid).active
active_is [] xid = refl
active_is (a ∷ held) xid = rw (at_work_kind a.holder, active_is held xid) refl

suspended_is : (held : List Association) (xid : Triple) → held_as kind.Suspended held xid ≡ (counts_of held xid).suspended
suspended_is [] xid = refl
suspended_is (a ∷ held) xid = rw (suspended_kind a.holder, suspended_is held xid) refl

abbrev counted : ℕ → ℕ → ℕ → AssociationCounts
counted active suspended loose = record { active = active; suspended = suspended; loose = loose }

same_counts : (held : List Association) (xid : Triple) (a u l : ℕ) → held_as kind.Active held xid ≡ a → held_as kind.Suspended held xid ≡ u → held_as kind.Loose held xid ≡ l → counts_of held xid ≡ counted a u l
same_counts held xid a u l h k j =
    ap (λ (n : ℕ). counted n (counts_of held xid).suspended (counts_of held xid).loose) (sym (active_is held xid) ∙ h)
    ∙ ap (λ (n : ℕ). counted a n (counts_of held xid).loose) (sym (suspended_is held xid) ∙ k)
    ∙ ap (λ (n : ℕ). counted a u n) (sym (loose_is held xid) ∙ j)

short_same : (n : ℕ) → n ≤ 1024 → n ≡ short n
short_same n h = omega arith

working_told : (m : Branches) (s : State) (xid : Triple) (w : Kept) → IsSound s → BranchesStandFor m s → working_at m xid ≡ Some w → told_of s xid ≡ Some (told_working (xid, w))
working_told m s xid w h st e =
    let is : IsWorking s xid w = works_at m s xid w st e in
    let held = s.associations in
    let active : held_as kind.Active held xid ≡ short w.active = short_same (held_as kind.Active held xid) (few s h kind.Active xid) ∙ ap (λ (v : Kept). short v.active) (sym is.kept) in
    let suspended : held_as kind.Suspended held xid ≡ short w.suspended = short_same (held_as kind.Suspended held xid) (few s h kind.Suspended xid) ∙ ap (λ (v : Kept). short v.suspended) (sym is.kept) in
    let loose : held_as kind.Loose held xid ≡ short w.loose = short_same (held_as kind.Loose held xid) (few s h kind.Loose xid) ∙ ap (λ (v : Kept). short v.loose) (sym is.kept) in
    let time : is.branch.timestamp ≡ w.timestamp = ap (λ (v : Kept). v.timestamp) (sym is.kept) in
    rw (is.found, is.phase, same_counts held xid (short w.active) (short w.suspended) (short w.loose) active suspended loose, time) refl

no_counts : (s : State) (xid : Triple) (l : Option Lasting) → IsSound s → Seen s xid None l → counts_of s.associations xid ≡ counted 0 0 0
no_counts s xid l h x =
    let held = s.associations in
    let none : holders_of held xid ≡ 0 = h.bound xid (idle s xid l x) in
    let sum = holders_by_kind held xid in
    same_counts held xid 0 0 0 (omega (arith, none, sum)) (omega (arith, none, sum)) (omega (arith, none, sum))

lasting_seen : (s : State) (xid : Triple) (o : Option Kept) (l : Lasting) → IsSound s → Seen s xid o (Some l) → told_of s xid ≡ Some (told_lasting (xid, l))
lasting_seen s xid (Some w) l h x = elim x [ ]
lasting_seen s xid None l h (Doubtful t is) = rw (is.found, is.phase, no_counts s xid (Some (lasts.Prepared t)) h (Doubtful t is), is.time) refl
lasting_seen s xid None l h (Done direction.Commit e d) = rw (e, d, no_counts s xid (Some (lasts.Completed direction.Commit)) h (Done direction.Commit e d)) refl
lasting_seen s xid None l h (Done direction.Rollback e d) = rw (e, d, no_counts s xid (Some (lasts.Completed direction.Rollback)) h (Done direction.Rollback e d)) refl

lasting_told : (m : Branches) (s : State) (xid : Triple) (l : Lasting) → IsSound s → BranchesStandFor m s → lasting_at m xid ≡ Some l → told_of s xid ≡ Some (told_lasting (xid, l))
lasting_told m s xid l h st e = lasting_seen s xid (working_at m xid) l h (seen_at m s xid (working_at m xid) (Some l) st refl e)

abbrev IsTold : State → KnownBranch → Type 0
IsTold s b = told_of s b.xid ≡ Some b

all_told_of : (m : Branches) (s : State) (after : Option Triple) → IsSound s → BranchesStandFor m s → HasNoRooms m → IsOrdered xid_cmp m.working → IsOrdered xid_cmp m.lasting → AllByRecursion (IsTold s) (all_after after m)
all_told_of m s after h st bare ow ol =
    all_merge (IsTold s) (map told_working (part after m.working)) (map told_lasting (part after m.lasting))
    (all_told (IsTold s) told_working (part after m.working)
    (all_imply (IsFound m.working.entries) (λ e. IsTold s (told_working e)) (λ e f. working_told m s e.0 e.1 h st f) (part after m.working)
    (filter_keeps (IsFound m.working.entries) (λ e. is_above after e.0) m.working.entries (each_found m.working.entries ow))))
    (all_told (IsTold s) told_lasting (part after m.lasting)
    (all_imply (IsFound m.lasting.entries) (λ e. IsTold s (told_lasting e)) (λ e f. lasting_told m s e.0 e.1 h st (sym (bare e.0) ∙ f)) (part after m.lasting)
    (filter_keeps (IsFound m.lasting.entries) (λ e. is_above after e.0) m.lasting.entries (each_found m.lasting.entries ol))))

-- ---- the XIDs, in order

filter_pairwise : (p : Triple → Bool) (xs : List Triple) → Pairwise below xs → Pairwise below (filter p xs)
filter_pairwise p [] h = tt
filter_pairwise p (x ∷ xs) h = by (p x) (filter_keeps (λ y. below x y ≡ true) p xs h.0) (filter_pairwise p xs h.1)
  where
    by : (c : Bool) → AllByRecursion (λ y. below x y ≡ true) (filter p xs) → Pairwise below (filter p xs) → Pairwise below (cond c (x ∷ filter p xs) (filter p xs))
    by true a k = (a, k)
    by false a k = k

has_xids : (q : Triple) (bs : List KnownBranch) → has q (map (λ b. b.xid) bs) ≡ list_any (λ b. xid_eq b.xid q) bs
has_xids q [] = refl
has_xids q (b ∷ bs) = rw (has_xids q bs) refl

both_above : (a b c : Bool) → ((a && b) || (a && c)) ≡ (a && (b || c))
both_above true b c = refl
both_above false b c = refl

same_has : (m : Branches) (s : State) (after : Option Triple) (q : Triple) → BranchesStandFor m s → HasNoRooms m
    → has q (map (λ b. b.xid) (all_after after m)) ≡ has q (filter (is_above after) (in_order (known_names s)))
same_has m s after q st bare =
    let a = is_above after q in
    let kept : has q (map (λ (b : KnownBranch). b.xid) (all_after after m)) ≡ ((a && is_some (working_at m q)) || (a && is_some (lasting_at m q))) =
    has_xids q (all_after after m)
    ∙ (any_merge (λ b. xid_eq b.xid q) (map told_working (part after m.working)) (map told_lasting (part after m.lasting))
    ∙ rw (names_told told_working (λ e. refl) q (part after m.working), names_told told_lasting (λ e. refl) q (part after m.lasting), has_part after q m.working, has_part after q m.lasting) (ap (λ (o : Option Lasting). (a && is_some (working_at m q)) || (a && is_some o)) (bare q))) in
    let stood : ((a && is_some (working_at m q)) || (a && is_some (lasting_at m q))) ≡ (a && (is_some (working_known s q) || is_some (lasting_known s q))) =
    both_above a (is_some (working_at m q)) (is_some (lasting_at m q)) ∙ rw (st.lasting q, st.working q) refl in
    let known : has q (filter (is_above after) (in_order (known_names s))) ≡ (a && (is_some (working_known s q) || is_some (lasting_known s q))) =
    has_above after q (in_order (known_names s)) ∙ ap (λ b. a && b) (has_fold q [] (known_names s) ∙ has_names s q) in
    kept ∙ (stood ∙ sym known)

ordered_xids : (bs : List KnownBranch) → Pairwise comes_first bs → Pairwise below (map (λ b. b.xid) bs)
ordered_xids [] h = tt
ordered_xids (b ∷ bs) h = (each b bs h.0, ordered_xids bs h.1)
  where
    each : (b : KnownBranch) (bs : List KnownBranch) → AllByRecursion (λ c. comes_first b c ≡ true) bs → AllByRecursion (λ y. below b.xid y ≡ true) (map (λ b. b.xid) bs)
    each b [] h = tt
    each b (c ∷ bs) h = (h.0, each b bs h.1)

ordered_part : {V : Type 0} (told : Triple × V → KnownBranch) → ((e : Triple × V) → (told e).xid ≡ e.0) → (after : Option Triple) (m : BTreeMap Triple V) → IsOrdered xid_cmp m → Pairwise comes_first (map told (part after m))
ordered_part told named after m o =
    ordered_told told named (part after m)
    (subst (λ (xs : List Triple). Pairwise below xs) (sym (keys_filtered (is_above after) (is_above after) (λ x. refl) m.entries)) (filter_pairwise (is_above after) (keys m) (sorted_pairwise (keys m) o)))

-- an XID of one part is found there
member_found : {V : Type 0} (told : Triple × V → KnownBranch) → ((e : Triple × V) → (told e).xid ≡ e.0) → (after : Option Triple) (m : BTreeMap Triple V) (x : KnownBranch) → Member x (map told (part after m))
    → is_some (lookup (is_at (xid_cmp x.xid)) m.entries) ≡ true
member_found told named after m x in_it =
    second (is_above after x.xid) (is_some (lookup (is_at (xid_cmp x.xid)) m.entries))
    (sym (has_part after x.xid m) ∙ (sym (names_told told named x.xid (part after m)) ∙ any_member x (map told (part after m)) in_it))
  where
    second : (a b : Bool) → (a && b) ≡ true → b ≡ true
    second true b e = e
    second false b e = absurd (cc e)

    any_member : (x : KnownBranch) (bs : List KnownBranch) → Member x bs → list_any (λ b. xid_eq b.xid x.xid) bs ≡ true
    any_member x [] i = absurd i
    any_member x (b ∷ bs) (inl e) = rw (xid_eq_same b.xid x.xid (ap (λ (c : KnownBranch). c.xid) (sym e))) refl
    any_member x (b ∷ bs) (inr i) = rw (any_member x bs i) (or_true (xid_eq b.xid x.xid))
      where
        or_true : (b : Bool) → (b || true) ≡ true
        or_true true = refl
        or_true false = refl

apart_by : (m : Branches) (s : State) (x y : Triple) (c : Bool) → xid_eq x y ≡ c → BranchesStandFor m s → is_some (working_at m x) ≡ true → is_some (lasting_at m y) ≡ true → c ≡ false
apart_by m s x y false e st w l = refl
apart_by m s x y true e st w l =
    let here : is_some (lasting_at m x) ≡ true = subst (λ (z : Triple). is_some (lasting_at m z) ≡ true) (sym (xid_same x y e)) l in
    absurd (never_both s x (working_at m x) (lasting_at m x) (seen_at m s x (working_at m x) (lasting_at m x) st refl refl) w here)

same_names : (m : Branches) (s : State) (after : Option Triple) → BranchesStandFor m s → HasNoRooms m → IsOrdered xid_cmp m.working → IsOrdered xid_cmp m.lasting
    → map (λ b. b.xid) (all_after after m) ≡ filter (is_above after) (in_order (known_names s))
same_names m s after st bare ow ol =
    let xs = map (λ (b : KnownBranch). b.xid) (all_after after m) in
    let ys = filter (is_above after) (in_order (known_names s)) in
    let ordered : Pairwise below xs = ordered_xids (all_after after m) (ordered_merge (map told_working (part after m.working)) (map told_lasting (part after m.lasting))
    (ordered_part told_working (λ e. refl) after m.working ow) (ordered_part told_lasting (λ e. refl) after m.lasting ol)
    (λ x y i j. apart_by m s x.xid y.xid (xid_eq x.xid y.xid) refl st (member_found told_working (λ e. refl) after m.working x i) (sym (ap (λ (o : Option Lasting). is_some o) (bare y.xid)) ∙ member_found told_lasting (λ e. refl) after m.lasting y j))) in
    same_members below below_transitive below_strict xs ys ordered (filter_pairwise (is_above after) (in_order (known_names s)) (ordered_pairwise (known_names s)))
    (λ z i. has_member z ys (sym (same_has m s after z st bare) ∙ member_has z xs i)) (λ z i. has_member z xs (same_has m s after z st bare ∙ member_has z ys i))

-- ---- the whole

told_again : (s : State) (bs : List KnownBranch) → AllByRecursion (IsTold s) bs → filter_map (told_of s) (map (λ b. b.xid) bs) ≡ bs
told_again s [] h = refl
told_again s (b ∷ bs) h = rw (h.0, told_again s bs h.1) refl

all_taken : {A : Type 0} (P : A → Type 0) (n : ℕ) (xs : List A) → AllByRecursion P xs → AllByRecursion P (take n xs)
all_taken P zero xs h = tt
all_taken P (suc n) [] h = tt
all_taken P (suc n) (x ∷ xs) h = (h.0, all_taken P n xs h.1)

pub known_same : (m : Branches) (s : State) (after : Option Triple) (n : ℕ) → IsSound s → BranchesStandFor m s → HasNoRooms m → IsOrdered xid_cmp m.working → IsOrdered xid_cmp m.lasting → take n (all_after after m) ≡ branches_after after n s
known_same m s after n h st bare ow ol =
    let bs = all_after after m in
    sym (told_again s (take n bs) (all_taken (IsTold s) n bs (all_told_of m s after h st bare ow ol)))
    ∙ ap (filter_map (told_of s)) (sym (take-map (λ (b : KnownBranch). b.xid) n bs) ∙ ap (take n) (same_names m s after st bare ow ol))
