-- Which XIDs are known by what records do, and that recovery lists just those that are known.
use Rattle.std.proofs.Common.{◌≡◌, Bool, true, false, ◌||◌, cond, List, [], ◌∷◌, ◌++◌, map, Option, Some, None, refl, ap, sym, ◌∙◌, subst, arith}
use Rattle.std.specs.Prelude.{find, fold}
use Rattle.std.specs.List.{list_any, AllByRecursion}
use Rattle.std.specs.BTreeSet.{insert_key}
use Rattle.std.specs.Ordering.{is_eq, match_ordering}
use Rattle.std.specs.declared.cmp.Ordering.{Ordering}
use Rattle.std.specs.declared.cmp.Ordering.TheVariants.{Less, Equal, Greater}
use Rattle.xa_codes.specs.declared.direction.Direction.{Direction}
use Rattle.xa_codes.specs.declared.direction.Direction.TheVariants as direction
use Rattle.xa_record.specs.declared.record.Record.{Record}
use Rattle.xa_record.specs.declared.record.Record.TheVariants as logged
use Rattle.xa_xid.specs.Triple.{Triple, xid_eq, xid_cmp}
use Rattle.xa_xid.proofs.Same.{xid_same}
use Rattle.xa_model.specs.State.{Decided, without}
use Rattle.xa_model.specs.Durable.{Durable, PreparedBranch, IsDurable, Pairwise, insert, is_prepared, is_decided, prepares_before, named_before}
use Rattle.xa_model.specs.Fold.{apply, complete, commit_prepared, prepared_as}
use Rattle.xa_model.specs.Listed.{lasting_names, listed}
use Rattle.xa_model.proofs.Xids.{cmp_is_eq}
use Rattle.xa_model.proofs.Lists.{without_all}
use Rattle.xa_model.proofs.Inserts.{all_imply, none_passes}
use Rattle.xa_model.proofs.Tests.{none_passed, below_apart, xid_back}
use Rattle.xa_model.proofs.Rows.{neither}
use Rattle.xa_model.proofs.OneForm.{complete_gone, complete_knows}

pub or_left : (a b : Bool) → a ≡ true → (a || b) ≡ true
or_left true b e = refl
or_left false b e = absurd (cc e)

pub or_right : (a b : Bool) → b ≡ true → (a || b) ≡ true
or_right true b e = refl
or_right false b e = e

pub both_false : (a b : Bool) → a ≡ false → b ≡ false → (a || b) ≡ false
both_false a b e f = rw (e, f) refl

-- members that take their place, leave, and are named

swapped : (a b c : Bool) → (a || (b || c)) ≡ (b || (a || c))
swapped true true c = refl
swapped true false c = refl
swapped false true c = refl
swapped false false c = refl

inserted_by : {A : Type 0} (p : A → Bool) (x y : A) (ys zs : List A) (c : Bool) → list_any p zs ≡ (p x || list_any p ys)
    → list_any p (cond c (y ∷ zs) (x ∷ y ∷ ys)) ≡ (p x || (p y || list_any p ys))
inserted_by p x y ys zs true rest = ap (λ b. p y || b) rest ∙ swapped (p y) (p x) (list_any p ys)
inserted_by p x y ys zs false rest = refl

any_inserted : {A : Type 0} (p : A → Bool) (before : A → A → Bool) (x : A) (xs : List A) → list_any p (insert before x xs) ≡ (p x || list_any p xs)
any_inserted p before x [] = refl
any_inserted p before x (y ∷ ys) = inserted_by p x y ys (insert before x ys) (before y x) (any_inserted p before x ys)

any_insert : {A : Type 0} (p : A → Bool) (before : A → A → Bool) (x : A) (xs : List A) → (p x || list_any p xs) ≡ true
    → list_any p (insert before x xs) ≡ true
any_insert p before x xs e = any_inserted p before x xs ∙ e

none_without : {A : Type 0} (p q : A → Bool) (xs : List A) → list_any q xs ≡ false → list_any q (without p xs) ≡ false
none_without p q xs e = none_passes q (without p xs) (without_all (λ x. q x ≡ false) p xs (none_passed q xs e))

or_parts_true : (a b : Bool) → (a || b) ≡ true → a ≡ false → b ≡ true
or_parts_true true b e f = absurd (cc f)
or_parts_true false b e f = e

left_by : {A : Type 0} (p q : A → Bool) (x : A) (xs ys : List A) (c : Bool) → p x ≡ c → (p x ≡ true → q x ≡ false) → list_any q (x ∷ xs) ≡ true
    → (list_any q xs ≡ true → list_any q ys ≡ true) → list_any q (cond c xs (x ∷ ys)) ≡ true
left_by p q x xs ys true is apart e rest = (or_parts_true (q x) (list_any q xs) e (apart is))
left_by p q x xs ys false is apart e rest = grind (arith, e, rest)

any_without : {A : Type 0} (p q : A → Bool) → ((x : A) → p x ≡ true → q x ≡ false) → (xs : List A) → list_any q xs ≡ true
    → list_any q (without p xs) ≡ true
any_without p q apart [] e = e
any_without p q apart (x ∷ xs) e = left_by p q x xs (without p xs) (p x) refl (apart x) e (any_without p q apart xs)

any_map : {A : Type 0} (f : A → Triple) (xid : Triple) (xs : List A) → list_any (λ x. xid_eq x xid) (map f xs) ≡ list_any (λ x. xid_eq (f x) xid) xs
any_map f xid [] = refl
any_map f xid (x ∷ xs) = ap (λ b. xid_eq (f x) xid || b) (any_map f xid xs)

grouped : (a b c : Bool) → (a || (b || c)) ≡ ((a || b) || c)
grouped true b c = refl
grouped false b c = refl

any_append : (p : Triple → Bool) (xs ys : List Triple) → list_any p (xs ++ ys) ≡ (list_any p xs || list_any p ys)
any_append p [] ys = refl
any_append p (x ∷ xs) ys = ap (λ b. p x || b) (any_append p xs ys) ∙ grouped (p x) (list_any p xs) (list_any p ys)

-- the XID is prepared, or decided

abbrev pub is_held : Triple → Durable → Bool
is_held xid d = is_prepared xid d.prepared || is_decided xid d.decided

-- the record ends what is known of the XID
abbrev pub ends : Triple → Record → Bool
ends xid (logged.Completed x direction) = xid_eq x xid
ends xid (logged.Forgotten x) = xid_eq x xid
ends xid _ = false

held_by : (a b c d : Bool) → (a ≡ true → c ≡ true) → (b ≡ true → d ≡ true) → (a || b) ≡ true → (c || d) ≡ true
held_by true b c d f g e = or_left c d (f refl)
held_by false b c d f g e = or_right c d (g e)

apart : (x xid y : Triple) → xid_eq x xid ≡ false → xid_eq y x ≡ true → xid_eq y xid ≡ false
apart x xid y other same = subst (λ (z : Triple). xid_eq z xid ≡ false) (sym (xid_same y x same)) other

prepared_stays : (xid x : Triple) (ps : List PreparedBranch) → xid_eq x xid ≡ false → is_prepared xid ps ≡ true
    → is_prepared xid (without (prepared_as x) ps) ≡ true
prepared_stays xid x ps other e = any_without (prepared_as x) (λ p. xid_eq p.xid xid) (λ p same. apart x xid p.xid other same) ps e

commits_held : (xid : Triple) (o : Option PreparedBranch) (d : Durable) → is_held xid d ≡ true → is_held xid (commit_prepared o d) ≡ true
commits_held xid None d h = h
commits_held xid (Some p) d h = h

completed_held : (xid x : Triple) (way : Direction) (d : Durable) → xid_eq x xid ≡ false → is_held xid d ≡ true
    → is_held xid (complete x way d) ≡ true
completed_held xid x direction.Commit d other h =
    commits_held xid (find (prepared_as x) d.prepared) (record d { prepared = without (prepared_as x) d.prepared })
    (held_by _ _ _ _ (prepared_stays xid x d.prepared other) (λ e. e) h)
completed_held xid x direction.Rollback d other h = held_by _ _ _ _ (prepared_stays xid x d.prepared other) (λ e. e) h

one_more : (xid : Triple) (e : Decided) (d : Durable) → (is_prepared xid d.prepared || (xid_eq e.xid xid || is_decided xid d.decided)) ≡ true
    → is_held xid (record d { decided = insert named_before e d.decided }) ≡ true
one_more xid e d h = held_by _ _ _ _ (λ q. q) (any_insert (λ x. xid_eq x.xid xid) named_before e d.decided) h

decided_by : (xid x : Triple) (way : Direction) (d : Durable) (c : Bool) → xid_eq x xid ≡ c → is_held xid d ≡ true
    → is_held xid (apply (logged.Decided x way) d) ≡ true
decided_by xid x way d true e h =
    one_more xid (record { xid = x; direction = way }) (complete x way d) (or_right _ _ (or_left _ _ e))
decided_by xid x way d false e h =
    one_more xid (record { xid = x; direction = way }) (complete x way d)
    (held_by _ _ _ _ (λ q. q) (or_right (xid_eq x xid) _) (completed_held xid x way d e h))

more_prepared : (xid : Triple) (p : PreparedBranch) (d : Durable) → (xid_eq p.xid xid || is_held xid d) ≡ true
    → is_held xid (record d { prepared = insert prepares_before p d.prepared }) ≡ true
more_prepared xid p d h =
    held_by _ _ _ _ (any_insert (λ x. xid_eq x.xid xid) prepares_before p d.prepared) (λ q. q) (sym (grouped (xid_eq p.xid xid) _ _) ∙ h)

-- a record leaves an XID known unless it ends it
pub applied_held : (xid : Triple) (r : Record) (d : Durable) → ends xid r ≡ false → is_held xid d ≡ true → is_held xid (apply r d) ≡ true
applied_held xid (logged.Opened boot) d other h = h
applied_held xid (logged.Prepared x t ws) d other h = more_prepared xid _ d (or_right _ _ h)
applied_held xid (logged.Committed x t ws) d other h = h
applied_held xid (logged.Completed x way) d other h = completed_held xid x way d other h
applied_held xid (logged.Decided x way) d other h = decided_by xid x way d (xid_eq x xid) refl h
applied_held xid (logged.Forgotten x) d other h =
    held_by _ _ _ _ (λ q. q) (any_without (λ e. xid_eq e.xid x) (λ e. xid_eq e.xid xid) (λ e same. apart x xid e.xid other same) d.decided) h
applied_held xid (logged.Base t ws) d other h = h
applied_held xid (logged.Held x t ws) d other h = more_prepared xid _ d (or_right _ _ h)
applied_held xid (logged.Known x way) d other h = one_more xid _ d (held_by _ _ _ _ (λ q. q) (or_right (xid_eq x xid) _) h)

-- and one that prepares it makes it known
pub prepared_held : (xid x : Triple) (d : Durable) (p : PreparedBranch) → xid_eq p.xid xid ≡ true
    → is_held xid (record d { prepared = insert prepares_before p d.prepared }) ≡ true
prepared_held xid x d p e = more_prepared xid p d (or_left _ _ e)

-- What isn't known

-- the record makes the XID known
abbrev pub adds : Triple → Record → Bool
adds xid (logged.Prepared x t ws) = xid_eq x xid
adds xid (logged.Decided x way) = xid_eq x xid
adds xid (logged.Held x t ws) = xid_eq x xid
adds xid (logged.Known x way) = xid_eq x xid
adds xid _ = false

commits_same : (xid : Triple) (o : Option PreparedBranch) (d : Durable) → is_held xid (commit_prepared o d) ≡ is_held xid d
commits_same xid None d = refl
commits_same xid (Some p) d = refl

left_free : (xid x : Triple) (d : Durable) → is_held xid d ≡ false → is_held xid (record d { prepared = without (prepared_as x) d.prepared }) ≡ false
left_free xid x d h =
    let both = neither (is_prepared xid d.prepared) (is_decided xid d.decided) h in
    both_false _ _ (none_without (prepared_as x) (λ p. xid_eq p.xid xid) d.prepared both.0) both.1

completed_free : (xid x : Triple) (way : Direction) (d : Durable) → is_held xid d ≡ false → is_held xid (complete x way d) ≡ false
completed_free xid x direction.Commit d h = commits_same xid (find (prepared_as x) d.prepared) _ ∙ left_free xid x d h
completed_free xid x direction.Rollback d h = left_free xid x d h

more_free : (xid : Triple) (p : PreparedBranch) (d : Durable) → xid_eq p.xid xid ≡ false → is_held xid d ≡ false
    → is_held xid (record d { prepared = insert prepares_before p d.prepared }) ≡ false
more_free xid p d other h =
    let both = neither (is_prepared xid d.prepared) (is_decided xid d.decided) h in
    both_false _ _ (any_inserted (λ x. xid_eq x.xid xid) prepares_before p d.prepared ∙ both_false _ _ other both.0) both.1

one_free : (xid : Triple) (e : Decided) (d : Durable) → xid_eq e.xid xid ≡ false → is_held xid d ≡ false
    → is_held xid (record d { decided = insert named_before e d.decided }) ≡ false
one_free xid e d other h =
    let both = neither (is_prepared xid d.prepared) (is_decided xid d.decided) h in
    both_false _ _ both.0 (any_inserted (λ x. xid_eq x.xid xid) named_before e d.decided ∙ both_false _ _ other both.1)

-- a record leaves an XID unknown unless it adds it
pub applied_free : (xid : Triple) (r : Record) (d : Durable) → adds xid r ≡ false → is_held xid d ≡ false → is_held xid (apply r d) ≡ false
applied_free xid (logged.Opened boot) d other h = h
applied_free xid (logged.Prepared x t ws) d other h = more_free xid _ d other h
applied_free xid (logged.Committed x t ws) d other h = h
applied_free xid (logged.Completed x way) d other h = completed_free xid x way d h
applied_free xid (logged.Decided x way) d other h = one_free xid (record { xid = x; direction = way }) (complete x way d) other (completed_free xid x way d h)
applied_free xid (logged.Forgotten x) d other h =
    let both = neither (is_prepared xid d.prepared) (is_decided xid d.decided) h in
    both_false _ _ both.0 (none_without (λ e. xid_eq e.xid x) (λ e. xid_eq e.xid xid) d.decided both.1)
applied_free xid (logged.Base t ws) d other h = h
applied_free xid (logged.Held x t ws) d other h = more_free xid _ d other h
applied_free xid (logged.Known x way) d other h = one_free xid _ d other h

-- a prepared XID isn't one that the operator completed

other_name : (xid x : Triple) (ps : List PreparedBranch) (c : Bool) → xid_eq x xid ≡ c → is_prepared xid ps ≡ true → is_prepared x ps ≡ false → c ≡ false
other_name xid x ps false e held free = refl
other_name xid x ps true e held free =
    absurd (cc (held, subst (λ (y : Triple). is_prepared y ps ≡ false) (xid_same x xid e) free))

undecided : (xid : Triple) (d : Durable) → IsDurable d → is_prepared xid d.prepared ≡ true → is_decided xid d.decided ≡ false
undecided xid d h held =
    none_passes (λ e. xid_eq e.xid xid) d.decided
    (all_imply (λ e. is_prepared e.xid d.prepared ≡ false) (λ e. xid_eq e.xid xid ≡ false)
    (λ e free. other_name xid e.xid d.prepared (xid_eq e.xid xid) refl held free) d.decided h.unknown)

unprepared_by : (xid : Triple) (d : Durable) (c : Bool) → is_prepared xid d.prepared ≡ c → IsDurable d → is_decided xid d.decided ≡ true → c ≡ false
unprepared_by xid d false e h decided = refl
unprepared_by xid d true e h decided = absurd (cc (decided, undecided xid d h e))

-- completed, it is neither

pub completed_gone : (xid : Triple) (way : Direction) (d : Durable) → IsDurable d → is_prepared xid d.prepared ≡ true → is_held xid (complete xid way d) ≡ false
completed_gone xid way d h held =
    both_false _ _ (complete_gone xid way d h) (ap (is_decided xid) (complete_knows xid way d) ∙ undecided xid d h held)

forgotten_by : (xid : Triple) (e : Decided) (es rest : List Decided) (c : Bool) → xid_eq e.xid xid ≡ c → AllByRecursion (λ f. named_before e f ≡ true) es
    → is_decided xid rest ≡ false → is_decided xid (cond c es (e ∷ rest)) ≡ false
forgotten_by xid e es rest true is behind none =
    none_passes (λ f. xid_eq f.xid xid) es
    (all_imply (λ f. named_before e f ≡ true) (λ f. xid_eq f.xid xid ≡ false)
    (λ f less. subst (λ (x : Triple). xid_eq f.xid x ≡ false) (xid_same e.xid xid is) (xid_back e.xid f.xid (below_apart e.xid f.xid less))) es behind)
forgotten_by xid e es rest false is behind none = both_false _ _ is none

forgotten : (xid : Triple) (es : List Decided) → Pairwise named_before es → is_decided xid (without (λ e. xid_eq e.xid xid) es) ≡ false
forgotten xid [] h = refl
forgotten xid (e ∷ es) h = forgotten_by xid e es (without (λ e. xid_eq e.xid xid) es) (xid_eq e.xid xid) refl h.0 (forgotten xid es h.1)

pub forgotten_gone : (xid : Triple) (d : Durable) → IsDurable d → is_decided xid d.decided ≡ true → is_held xid (apply (logged.Forgotten xid) d) ≡ false
forgotten_gone xid d h decided = both_false _ _ (unprepared_by xid d (is_prepared xid d.prepared) refl h decided) (forgotten xid d.decided h.decided)

-- recovery lists what is known

doubled : (a b : Bool) → (a || b) ≡ (a || (a || b))
doubled true b = refl
doubled false b = refl

key_by : (xid k x : Triple) (xs ys : List Triple) (o : Ordering) → xid_cmp k x ≡ o
    → list_any (λ y. xid_eq y xid) ys ≡ (xid_eq k xid || list_any (λ y. xid_eq y xid) xs)
    → list_any (λ y. xid_eq y xid) (match_ordering o (k ∷ x ∷ xs) (x ∷ xs) (x ∷ ys)) ≡ (xid_eq k xid || list_any (λ y. xid_eq y xid) (x ∷ xs))
key_by xid k x xs ys Less e rest = refl
key_by xid k x xs ys Equal e rest =
    let same : k ≡ x = xid_same k x (sym (cmp_is_eq k x) ∙ is_equal) in
    doubled (xid_eq x xid) (list_any (λ y. xid_eq y xid) xs)
    ∙ ap (λ (z : Triple). xid_eq z xid || list_any (λ y. xid_eq y xid) (x ∷ xs)) (sym same)
  where
    is_equal : is_eq (xid_cmp k x) ≡ true
    is_equal = rw e refl
key_by xid k x xs ys Greater e rest = ap (λ b. xid_eq x xid || b) rest ∙ swapped (xid_eq x xid) (xid_eq k xid) (list_any (λ y. xid_eq y xid) xs)

any_key : (xid k : Triple) (xs : List Triple)
    → list_any (λ y. xid_eq y xid) (insert_key xid_cmp xs k) ≡ (xid_eq k xid || list_any (λ y. xid_eq y xid) xs)
any_key xid k [] = refl
any_key xid k (x ∷ xs) = key_by xid k x xs (insert_key xid_cmp xs k) (xid_cmp k x) refl (any_key xid k xs)

or_false : (a : Bool) → a ≡ (a || false)
or_false true = refl
or_false false = refl

turned : (a b c : Bool) → ((a || b) || c) ≡ (b || (a || c))
turned a b c = sym (grouped a b c) ∙ swapped a b c

any_ordered : (xid : Triple) (xs seen : List Triple)
    → list_any (λ y. xid_eq y xid) (fold (insert_key xid_cmp) seen xs) ≡ (list_any (λ y. xid_eq y xid) seen || list_any (λ y. xid_eq y xid) xs)
any_ordered xid [] seen = or_false (list_any (λ y. xid_eq y xid) seen)
any_ordered xid (x ∷ xs) seen =
    any_ordered xid xs (insert_key xid_cmp seen x)
    ∙ ap (λ b. b || list_any (λ y. xid_eq y xid) xs) (any_key xid x seen)
    ∙ turned (xid_eq x xid) (list_any (λ y. xid_eq y xid) seen) (list_any (λ y. xid_eq y xid) xs)

both : (a b c d : Bool) → a ≡ c → b ≡ d → (a || b) ≡ (c || d)
both a b c d e f = rw (e, f) refl

pub listed_held : (xid : Triple) (d : Durable) → list_any (λ x. xid_eq x xid) (listed d) ≡ is_held xid d
listed_held xid d =
    any_ordered xid (lasting_names d) []
    ∙ any_append (λ x. xid_eq x xid) (map (λ p. p.xid) d.prepared) (map (λ e. e.xid) d.decided)
    ∙ both _ _ _ _ (any_map (λ (p : PreparedBranch). p.xid) xid d.prepared) (any_map (λ (e : Decided). e.xid) xid d.decided)
