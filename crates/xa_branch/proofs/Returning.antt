-- Branches that are restored one by one, and the states that they stand for then.
use Rattle.std.proofs.Common.{◌≡◌, ℕ, ◌+◌, ◌<◌, ◌≤◌, ◌^◌, ◌-◌, ◌==◌, Bool, true, false, cond, min, Option, Some, None, List, [], ◌∷◌, ◌++◌, length, refl, ap, sym, ◌∙◌, subst, arith}
use Rattle.std.specs.Prelude.{find, option_map, option_and_then, is_some}
use Rattle.std.specs.BTreeMap.{BTreeMap, get, btree_map_len}
use Rattle.std.specs.BTreeSet.{BTreeSet}
use Rattle.std.specs.List.{AllByRecursion, list_any}
use Rattle.std.specs.Option.{option_or}
use Rattle.std.proofs.lemmas.List.{length-append}
use Rattle.std.proofs.lemmas.List.Folds.{find-append}
use Rattle.xa_xid.specs.Triple.{Triple, xid_cmp, xid_eq}
use Rattle.xa_xid.proofs.Same.{xid_same, xid_eq_itself, xid_eq_same}
use Rattle.xa_model.specs.State.{State, Branch, Phase, Working, Prepared, Committed, Decided, count, name_of, is_known_as, known_of, known_count, decided_of, is_working}
use Rattle.xa_model.specs.Logging.{is_in_doubt}
use Rattle.xa_model.specs.Invariants.Sound.{IsSound}
use Rattle.xa_model.specs.Durable.{Durable, PreparedBranch, durable, is_prepared, is_decided, insert, named_before, by_name, writes_of}
use Rattle.xa_model.proofs.Ascending.{parts, add, parts-cons, parts_none, found_in, absent}
use Rattle.xa_model.proofs.Counts.{count_none, found_none, count_nowhere}
use Rattle.xa_model.proofs.Inserts.{none_passes}
use Rattle.xa_model.proofs.Lists.{found_passes, found_all}
use Rattle.xa_model.proofs.Remains.{held_of, held_as, held_named, in_doubt, once, working_held}
use Rattle.xa_model.proofs.Tests.{below_apart}
use Rattle.xa_model.proofs.Xids.{cmp_is_eq}
use Rattle.xa_branch.specs.declared.branches.Branches.{Branches}
use Rattle.xa_branch.specs.declared.lasting.Lasting.{Lasting}
use Rattle.xa_branch.specs.declared.lasting.Lasting.TheVariants as lasts
use Rattle.xa_branch.proofs.Rooms.{plainly, set_look}
use Rattle.xa_branch.specs.Branches.{working_in, lasting_at, lasting_in, lasting_by, lasting_among, lasting_known, prepared_among}
use Rattle.xa_branch.specs.Changes.{Sets, SetsTime}
use Rattle.xa_branch.specs.Restored.{HasRestored, RestoredStand, restored_by, restored_at}
use Rattle.xa_branch.specs.Due.{due_in, is_then}
use Rattle.xa_branch.proofs.Dues.{idle_phase as idle_phase_due}
use Rattle.xa_branch.proofs.Retimed.{is_held_at, held_last, held_times}
use Rattle.xa_branch.proofs.Timed.{begun_time}

-- one more, at the end

found_last : {A : Type 0} (name : A → Triple) (xs : List A) (x : A) (q : Triple) (c : Bool) → xid_eq (name x) q ≡ c → list_any (λ y. xid_eq (name y) (name x)) xs ≡ false
    → find (λ y. xid_eq (name y) q) (xs ++ x ∷ []) ≡ cond c (Some x) (find (λ y. xid_eq (name y) q) xs)
found_last name xs x q true e fresh =
    let new : list_any (λ y. xid_eq (name y) q) xs ≡ false = subst (λ (z : Triple). list_any (λ y. xid_eq (name y) z) xs ≡ false) (xid_same (name x) q e) fresh in
    let none : find (λ y. xid_eq (name y) q) xs ≡ None = found_none (λ y. xid_eq (name y) q) xs (count_nowhere (λ y. xid_eq (name y) q) xs new) in
    find-append (λ y. xid_eq (name y) q) xs (x ∷ []) ∙ rw (none, e) refl
found_last name xs x q false e fresh = find-append (λ y. xid_eq (name y) q) xs (x ∷ []) ∙ rw e (or_none (find (λ y. xid_eq (name y) q) xs))
  where
    or_none : {A : Type 0} (o : Option A) → option_or o None ≡ o
    or_none None = refl
    or_none (Some x) = refl

unfound : {A : Type 0} (name : A → Triple) (xs : List A) (xid q : Triple) → xid_eq xid q ≡ true → list_any (λ y. xid_eq (name y) xid) xs ≡ false → find (λ y. xid_eq (name y) q) xs ≡ None
unfound name xs xid q e fresh =
    let new : list_any (λ y. xid_eq (name y) q) xs ≡ false = subst (λ (z : Triple). list_any (λ y. xid_eq (name y) z) xs ≡ false) (xid_same xid q e) fresh in
    found_none (λ y. xid_eq (name y) q) xs (count_nowhere (λ y. xid_eq (name y) q) xs new)

one_longer : {A : Type 0} (xs : List A) (x : A) → length (xs ++ x ∷ []) ≡ length xs + 1
one_longer xs x = length-append xs (x ∷ [])

not_there : (m : Branches) (n moment : ℕ) (ps : List PreparedBranch) (ds : List Decided) (xid : Triple) → xid_eq xid xid ≡ true → is_prepared xid ps ≡ false → is_decided xid ds ≡ false → HasRestored m n moment ps ds → lasting_at m xid ≡ None
not_there m n moment ps ds xid itself a b h = h.lasting xid ∙ rw (unfound (λ p. p.xid) ps xid xid itself a, unfound (λ d. d.xid) ds xid xid itself b) refl

prepared_look : (m : Branches) (n moment : ℕ) (ps : List PreparedBranch) (ds : List Decided) (p : PreparedBranch) (q : Triple) (c : Bool) → xid_eq p.xid q ≡ c → HasRestored m n moment ps ds
    → cond c (Some (lasts.Prepared p.timestamp)) (lasting_at m q) ≡ restored_by (cond c (Some p) (find (λ x. xid_eq x.xid q) ps)) (find (λ d. xid_eq d.xid q) ds)
prepared_look m n moment ps ds p q true e h = refl
prepared_look m n moment ps ds p q false e h = h.lasting q

pub prepared_more : (m : Branches) (lasting : BTreeMap Triple Lasting) (ts : BTreeSet ℕ) (k n moment : ℕ) (ps : List PreparedBranch) (ds : List Decided) (p : PreparedBranch) → is_prepared p.xid ps ≡ false → is_decided p.xid ds ≡ false
    → HasRestored m n moment ps ds → Sets m.lasting p.xid (Some (lasts.Prepared p.timestamp)) lasting → btree_map_len m.lasting < 2 ^ 63 → k ≡ min (m.prepared + 1) (2 ^ 64 - 1) → SetsTime m.times p.timestamp true ts
    → HasRestored (record m { lasting = lasting; times = ts; prepared = k }) n moment (ps ++ p ∷ []) ds
prepared_more m lasting ts k n moment ps ds p a b h adds few more timed = record {
  boot = h.boot;
  given = h.given;
  moment = h.moment;
  working = h.working;
  lasting = λ q. set_look m lasting p.xid (Some (lasts.Prepared p.timestamp)) (rw h.working refl) adds q ∙ rw (cmp_is_eq p.xid q, found_last (λ x. x.xid) ps p q (xid_eq p.xid q) refl a) (prepared_look m n moment ps ds p q (xid_eq p.xid q) refl h);
  times = λ t.
      timed t ∙ ap (λ (q : Bool). cond (p.timestamp == t) true q) (h.times t) ∙ sym (held_last t ps p ∙ begun_time p.timestamp t (is_held_at t ps));
  due = h.due;
  number =
      let none : get xid_cmp m.lasting p.xid ≡ None = sym (plainly m p.xid (rw h.working refl)) ∙ not_there m n moment ps ds p.xid (xid_eq_itself p.xid) a b h in
      let counted = rw none at adds.number in
      omega (arith, counted, h.number, one_longer ps p);
  prepared = omega (arith, more, few, h.number, h.prepared, one_longer ps p);
  completed = h.completed;
}

completed_look : (m : Branches) (n moment : ℕ) (ps : List PreparedBranch) (ds : List Decided) (d : Decided) (q : Triple) (c : Bool) → xid_eq d.xid q ≡ c → is_prepared d.xid ps ≡ false → HasRestored m n moment ps ds
    → cond c (Some (lasts.Completed d.direction)) (lasting_at m q) ≡ restored_by (find (λ p. xid_eq p.xid q) ps) (cond c (Some d) (find (λ x. xid_eq x.xid q) ds))
completed_look m n moment ps ds d q true e a h = rw (unfound (λ p. p.xid) ps d.xid q e a) refl
completed_look m n moment ps ds d q false e a h = h.lasting q

pub completed_more : (m : Branches) (lasting : BTreeMap Triple Lasting) (k n moment : ℕ) (ps : List PreparedBranch) (ds : List Decided) (d : Decided) → is_prepared d.xid ps ≡ false → is_decided d.xid ds ≡ false
    → HasRestored m n moment ps ds → Sets m.lasting d.xid (Some (lasts.Completed d.direction)) lasting → btree_map_len m.lasting < 2 ^ 63 → k ≡ min (m.completed + 1) (2 ^ 64 - 1)
    → HasRestored (record m { lasting = lasting; completed = k }) n moment ps (ds ++ d ∷ [])
completed_more m lasting k n moment ps ds d a b h adds few more = record {
  boot = h.boot;
  given = h.given;
  moment = h.moment;
  working = h.working;
  lasting = λ q. set_look m lasting d.xid (Some (lasts.Completed d.direction)) (rw h.working refl) adds q ∙ rw (cmp_is_eq d.xid q, found_last (λ x. x.xid) ds d q (xid_eq d.xid q) refl b) (completed_look m n moment ps ds d q (xid_eq d.xid q) refl a h);
  times = h.times;
  due = h.due;
  number =
      let none : get xid_cmp m.lasting d.xid ≡ None = sym (plainly m d.xid (rw h.working refl)) ∙ not_there m n moment ps ds d.xid (xid_eq_itself d.xid) a b h in
      let counted = rw none at adds.number in
      omega (arith, counted, h.number, one_longer ds d);
  prepared = h.prepared;
  completed = omega (arith, more, few, h.number, h.completed, one_longer ds d);
}

-- what the operator completed, by name

inserted_by : (q : Decided → Bool) (x y : Decided) (ys : List Decided) (c a b : Bool) → q x ≡ a → q y ≡ b → (c ≡ true → a ≡ true → b ≡ true → false ≡ true) → find q (insert named_before x ys) ≡ cond a (Some x) (find q ys)
    → find q (cond c (y ∷ insert named_before x ys) (x ∷ y ∷ ys)) ≡ cond a (Some x) (cond b (Some y) (find q ys))
inserted_by q x y ys false a b e f apart ih = rw (e, f) refl
inserted_by q x y ys true true true e f apart ih = absurd (cc (apart refl refl refl))
inserted_by q x y ys true true false e f apart ih = rw (f, ih) refl
inserted_by q x y ys true false true e f apart ih = rw f refl
inserted_by q x y ys true false false e f apart ih = rw (f, ih) refl

names_apart : (xid : Triple) (x y : Decided) → named_before y x ≡ true → xid_eq x.xid xid ≡ true → xid_eq y.xid xid ≡ true → false ≡ true
names_apart xid x y less e f =
    let same : y.xid ≡ x.xid = xid_same y.xid xid f ∙ sym (xid_same x.xid xid e) in
    sym (below_apart y.xid x.xid less) ∙ xid_eq_same y.xid x.xid same

found_inserted : (xid : Triple) (x : Decided) (ys : List Decided) → find (λ d. xid_eq d.xid xid) (insert named_before x ys) ≡ cond (xid_eq x.xid xid) (Some x) (find (λ d. xid_eq d.xid xid) ys)
found_inserted xid x [] = refl
found_inserted xid x (y ∷ ys) =
    inserted_by (λ d. xid_eq d.xid xid) x y ys (named_before y x) (xid_eq x.xid xid) (xid_eq y.xid xid) refl refl (names_apart xid x y) (found_inserted xid x ys)

pub found_by_name : (xid : Triple) (ds : List Decided) → find (λ d. xid_eq d.xid xid) (by_name ds) ≡ find (λ d. xid_eq d.xid xid) ds
found_by_name xid [] = refl
found_by_name xid (d ∷ ds) = found_inserted xid d (by_name ds) ∙ ap (λ (o : Option Decided). cond (xid_eq d.xid xid) (Some d) o) (found_by_name xid ds)

inserted_length : {A : Type 0} (before : A → A → Bool) (x : A) (ys : List A) → length (insert before x ys) ≡ length ys + 1
inserted_length before x [] = refl
inserted_length before x (y ∷ ys) = length_by before x y ys (before y x) (inserted_length before x ys)
  where
    length_by : {A : Type 0} (before : A → A → Bool) (x y : A) (ys : List A) (c : Bool) → length (insert before x ys) ≡ length ys + 1 → length (cond c (y ∷ insert before x ys) (x ∷ y ∷ ys)) ≡ length (y ∷ ys) + 1
    length_by before x y ys true e = omega (arith, e)
    length_by before x y ys false e = omega arith

pub named_length : (ds : List Decided) → length (by_name ds) ≡ length ds
named_length [] = refl
named_length (d ∷ ds) = omega (arith, inserted_length named_before d (by_name ds), named_length ds)

-- as many branches are prepared as are held, and no others are known

held_length : (b : Branch) (phase : Phase) (xs : List PreparedBranch) (k : ℕ) → b.phase ≡ phase → length xs ≡ k → length (add (held_of b) xs) ≡ cond (is_in_doubt b.phase) 1 0 + k
held_length b (Working x work) xs k e same = rw e (omega (arith, same))
held_length b (Prepared x) xs k e same = rw e (omega (arith, same, one_longer xs (held_as x b)))
held_length b Committed xs k e same = rw e (omega (arith, same))

pub parts_length : (bs : List Branch) → length (parts held_of bs) ≡ prepared_among bs
parts_length [] = refl
parts_length (b ∷ bs) = ap length (parts-cons held_of b bs) ∙ held_length b b.phase (parts held_of bs) (prepared_among bs) refl (parts_length bs)

idle_one : (b : Branch) (phase : Phase) → b.phase ≡ phase → is_working phase ≡ false → is_some (name_of b.phase) ≡ is_in_doubt b.phase
idle_one b (Working x work) e idle = absurd (cc idle)
idle_one b (Prepared x) e idle = rw e refl
idle_one b Committed e idle = rw e refl

idle_count : (bs : List Branch) → AllByRecursion (λ b. is_working b.phase ≡ false) bs → known_count bs ≡ prepared_among bs
idle_count [] idle = refl
idle_count (b ∷ bs) idle = rw (idle_one b b.phase refl idle.0, idle_count bs idle.1) refl

-- what is kept of an XID is what lasts of it

none_lasting : (s : State) (xid : Triple) (o : Option Decided) → find (λ d. xid_eq d.xid xid) s.decided ≡ o → restored_by None o ≡ option_map lasts.Completed (decided_of s.decided xid)
none_lasting s xid None e = rw e refl
none_lasting s xid (Some d) e = rw e refl

some_lasting : (xid : Triple) (b : Branch) (phase : Phase) (d : Option Decided) → b.phase ≡ phase → is_known_as xid b ≡ true → is_working phase ≡ false → restored_by (Some (held_as xid b)) d ≡ lasting_by b.timestamp b.phase
some_lasting xid b (Working x work) d e named idle = absurd (cc idle)
some_lasting xid b (Prepared x) d e named idle = rw e refl
some_lasting xid b Committed d e named idle = let no : false ≡ true = rw e at named in absurd (cc no)

-- none is held of a branch that stands elsewhere
not_held : (xid : Triple) (bs : List Branch) → AllByRecursion (λ p. xid_eq p.xid xid ≡ false) (parts held_of bs) → find (λ p. xid_eq p.xid xid) (parts held_of bs) ≡ None
not_held xid bs none =
    found_none (λ p. xid_eq p.xid xid) (parts held_of bs) (count_nowhere (λ p. xid_eq p.xid xid) (parts held_of bs) (none_passes (λ p. xid_eq p.xid xid) (parts held_of bs) none))

some_counted : {A : Type 0} (y x : A) (n : ℕ) (o : Option A) (c : Bool) → cond c (Some x) o ≡ Some y → (o ≡ Some y → 1 ≤ n) → 1 ≤ cond c 1 0 + n
some_counted y x n o true e ih = omega arith
some_counted y x n o false e ih = let rest : 1 ≤ n = ih e in omega (arith, rest)

found_counted : {A : Type 0} (p : A → Bool) (y : A) (xs : List A) → find p xs ≡ Some y → 1 ≤ count p xs
found_counted p y [] e = absurd (cc e)
found_counted p y (x ∷ xs) e = some_counted y x (count p xs) (find p xs) (p x) e (found_counted p y xs)

undecided : (s : State) (xid : Triple) (b : Branch) → IsSound s → known_of s.branches xid ≡ Some b → find (λ d. xid_eq d.xid xid) s.decided ≡ None
undecided s xid b h e = found_none (λ d. xid_eq d.xid xid) s.decided (omega (arith, h.distinct xid, found_counted (is_known_as xid) b s.branches e))

working_lasts : (b : Branch) (phase : Phase) → b.phase ≡ phase → is_working phase ≡ true → lasting_by b.timestamp b.phase ≡ None
working_lasts b (Working x work) e works = rw e refl
working_lasts b (Prepared x) e works = absurd (cc works)
working_lasts b Committed e works = absurd (cc works)

known_lasts : (s : State) (xid : Triple) (b : Branch) (c : Bool) → is_working b.phase ≡ c → IsSound s → known_of s.branches xid ≡ Some b → restored_at (parts held_of s.branches) (by_name s.decided) xid ≡ lasting_in b
known_lasts s xid b true works h e =
    let none : find (λ p. xid_eq p.xid xid) (parts held_of s.branches) ≡ None = not_held xid s.branches
    (absent held_of (is_known_as xid) (λ p. xid_eq p.xid xid) (held_named xid) b s.branches (working_held b.timestamp (writes_of b.operations) b.phase works) (once s xid h) e) in
    rw (none, found_by_name xid s.decided, undecided s xid b h e) (sym (working_lasts b b.phase refl works))
known_lasts s xid b false works h e =
    let there : find (λ p. xid_eq p.xid xid) (parts held_of s.branches) ≡ Some (held_as xid b) =
    found_in held_of (is_known_as xid) (λ p. xid_eq p.xid xid) (held_named xid) b (held_as xid b) s.branches (in_doubt xid b s.branches e works) (once s xid h) e in
    rw there (some_lasting xid b b.phase (find (λ d. xid_eq d.xid xid) (by_name s.decided)) refl (found_passes (is_known_as xid) b s.branches e) works)

lasts_by : (s : State) (xid : Triple) (o : Option Branch) → IsSound s → known_of s.branches xid ≡ o → restored_at (parts held_of s.branches) (by_name s.decided) xid ≡ lasting_among o (decided_of s.decided xid)
lasts_by s xid None h e =
    let none : find (λ p. xid_eq p.xid xid) (parts held_of s.branches) ≡ None =
    not_held xid s.branches (parts_none held_of (is_known_as xid) (λ p. xid_eq p.xid xid) (held_named xid) s.branches (count_none (is_known_as xid) s.branches e)) in
    rw (none, found_by_name xid s.decided) (none_lasting s xid (find (λ d. xid_eq d.xid xid) s.decided) refl)
lasts_by s xid (Some b) h e = known_lasts s xid b (is_working b.phase) refl h e

-- what lasts of an XID is found in what the state would leave
pub found_lasting : (s : State) (xid : Triple) → IsSound s → restored_at (durable s).prepared (durable s).decided xid ≡ lasting_known s xid
found_lasting s xid h = lasts_by s xid (known_of s.branches xid) h refl

-- an XID that is in doubt isn't decided
prepared_by : (s : State) (xid : Triple) (p : PreparedBranch) (o : Option Branch) → IsSound s → known_of s.branches xid ≡ o → find (λ p. xid_eq p.xid xid) (parts held_of s.branches) ≡ Some p
    → find (λ d. xid_eq d.xid xid) (by_name s.decided) ≡ None
prepared_by s xid p (Some b) h e there = found_by_name xid s.decided ∙ undecided s xid b h e
prepared_by s xid p None h e there =
    let none : find (λ p. xid_eq p.xid xid) (parts held_of s.branches) ≡ None =
    not_held xid s.branches (parts_none held_of (is_known_as xid) (λ p. xid_eq p.xid xid) (held_named xid) s.branches (count_none (is_known_as xid) s.branches e)) in
    absurd (cc (none, there))

pub prepared_undecided : (s : State) (xid : Triple) (p : PreparedBranch) → IsSound s → find (λ p. xid_eq p.xid xid) (durable s).prepared ≡ Some p → find (λ d. xid_eq d.xid xid) (durable s).decided ≡ None
prepared_undecided s xid p h there = prepared_by s xid p (known_of s.branches xid) h refl there

-- and nothing is at work

idle_phase : (s : State) (xid : Triple) (b : Branch) (phase : Phase) → b.phase ≡ phase → is_working phase ≡ false → working_in s.associations xid b ≡ None
idle_phase s xid b (Working x work) e idle = absurd (cc idle)
idle_phase s xid b (Prepared x) e idle = rw e refl
idle_phase s xid b Committed e idle = rw e refl

idle_look : (s : State) (xid : Triple) (o : Option Branch) → AllByRecursion (λ b. is_working b.phase ≡ false) s.branches → known_of s.branches xid ≡ o → option_and_then (working_in s.associations xid) o ≡ None
idle_look s xid None idle e = refl
idle_look s xid (Some b) idle e = idle_phase s xid b b.phase refl (found_all (λ c. is_working c.phase ≡ false) (is_known_as xid) b s.branches idle e)

idle_due_look : (xid : Triple) (o : Option Branch) (bs : List Branch) → AllByRecursion (λ b. is_working b.phase ≡ false) bs → known_of bs xid ≡ o → option_and_then due_in o ≡ None
idle_due_look xid None bs idle e = refl
idle_due_look xid (Some b) bs idle e = idle_phase_due b.phase (found_all (λ c. is_working c.phase ≡ false) (is_known_as xid) b bs idle e)

pub restored_stand : RestoredStand
restored_stand m d next s h r =
    let sound : IsSound s = r.recoverable.sound in
    let ps : parts held_of s.branches ≡ d.prepared = ap (λ (x : Durable). x.prepared) r.lasts in
    let ds : by_name s.decided ≡ d.decided = ap (λ (x : Durable). x.decided) r.lasts in
    let prepared : m.prepared ≡ prepared_among s.branches = h.prepared ∙ (sym (ap length ps) ∙ parts_length s.branches) in
    let completed : m.completed ≡ length s.decided = h.completed ∙ (sym (ap length ds) ∙ named_length s.decided) in
    record {
      boot = h.boot ∙ sym r.boot;
      given = h.given ∙ sym r.given;
      moment = h.moment;
      working = λ xid. rw h.working (sym (idle_look s xid (known_of s.branches xid) r.idle refl));
      lasting = λ xid. h.lasting xid ∙ rw (← ps, ← ds) (found_lasting s xid sound);
      times = λ t. h.times t ∙ sym (ap (is_held_at t) ps) ∙ held_times t s.branches r.idle;
      due = λ t xid. rw h.due (sym (ap (λ (o : Option ℕ). is_then o t) (idle_due_look xid (known_of s.branches xid) s.branches r.idle refl)));
      known =
          let empty : btree_map_len m.working ≡ 0 = ap length h.working in
          omega (arith, empty, h.number, h.prepared, h.completed, prepared, completed, idle_count s.branches r.idle);
      prepared = prepared;
      completed = completed;
    }
