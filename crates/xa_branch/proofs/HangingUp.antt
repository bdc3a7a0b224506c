-- Known branches that stand for a state, after a session hangs up.
use Rattle.std.proofs.Common.{◌≡◌, ℕ, ◌+◌, ◌≤◌, Bool, true, false, not, ◌&&◌, ◌||◌, cond, Option, Some, None, List, [], ◌∷◌, length, refl, ap, sym, ◌∙◌, arith}
use Rattle.std.specs.Prelude.{find, filter, map, is_some, option_map, option_and_then}
use Rattle.std.specs.BTreeMap.{BTreeMap, get, btree_map_len}
use Rattle.std.specs.BTreeSet.{BTreeSet, contains}
use Rattle.std.specs.List.{list_any}
use Rattle.xa_codes.specs.declared.codes.TheConstants.{XA_RBCOMMFAIL}
use Rattle.xa_xid.specs.Triple.{Triple, xid_eq, xid_cmp}
use Rattle.xa_xid.proofs.Same.{xid_same}
use Rattle.xa_model.specs.State.{State, Branch, Phase, Working, Prepared, Committed, Association, Holder, Active, Suspended, Loose, count, name_of, is_with, is_active, is_own, is_suspended, is_known_as, known_of, known_count, decided_of, owns, works_in, suspends, active_of, Work}
use Rattle.xa_model.specs.Logging.{is_in_doubt}
use Rattle.xa_model.specs.Associations.{is_of_session, is_worked_by, marked_phase, with_mark, left_behind as left_by_session, hang_up_by}
use Rattle.xa_model.specs.Invariants.Sound.{IsSound}
use Rattle.xa_model.proofs.Counts.{count_less, count_nowhere, count_map}
use Rattle.xa_model.proofs.Lists.{found_passes}
use Rattle.xa_model.proofs.Marks.{left_keeps}
use Rattle.xa_model.proofs.Xids.{both_true, and_false}
use Rattle.xa_branch.specs.declared.branches.Branches.{Branches}
use Rattle.xa_branch.specs.declared.kind.Kind.TheVariants as kind
use Rattle.xa_branch.specs.declared.working.Working.{Working as Kept}
use Rattle.xa_branch.specs.Kinds.{kind_of, same_kind, is_as, held_as, own_kind}
use Rattle.xa_branch.proofs.Rooms.{as_hidden}
use Rattle.xa_branch.specs.Branches.{BranchesStandFor, kept_of, working_at, working_by, working_in, lasting_in}
use Rattle.xa_branch.specs.Due.{due_of, due_phase, due_in, due_named, due_kept, is_then, LosesAllDue}
use Rattle.xa_branch.specs.Changes.{LeavesAll, marked, less_one, left_behind}
use Rattle.xa_model.proofs.Leaving.{any_counts, none_counted}
use Rattle.xa_branch.proofs.Begun.{kept_same}
use Rattle.xa_branch.proofs.Lastings.{KeepsLasting, lasting_map, prepared_map, timed_map}
use Rattle.xa_branch.proofs.Dues.{kept_due}
use Rattle.xa_branch.proofs.Marking.{marked_keeps, marked_due}
use Rattle.xa_branch.proofs.Owners.{never}
use Rattle.xa_branch.proofs.Turning.{less}

-- Lists of which some members are left out, and lists in which each member changes

out_by : {A : Type 0} (p r : A → Bool) (x : A) (xs ys : List A) (c : Bool) → p x ≡ c → count r ys + count (λ y. p y && r y) xs ≡ count r xs
    → count r (cond (not c) (x ∷ ys) ys) + (cond (c && r x) 1 0 + count (λ y. p y && r y) xs) ≡ cond (r x) 1 0 + count r xs
out_by p r x xs ys true e rest = omega arith
out_by p r x xs ys false e rest = omega arith

-- what is counted is left out, or stays
count_out : {A : Type 0} (p r : A → Bool) (xs : List A) → count r (filter (λ x. not (p x)) xs) + count (λ x. p x && r x) xs ≡ count r xs
count_out p r [] = refl
count_out p r (x ∷ xs) = out_by p r x xs (filter (λ y. not (p y)) xs) (p x) refl (count_out p r xs)

count_as : {A : Type 0} (p q : A → Bool) (h : (x : A) → p x ≡ q x) (xs : List A) → count p xs ≡ count q xs
count_as p q h [] = refl
count_as p q h (x ∷ xs) = let rest : count p xs ≡ count q xs = count_as p q h xs in rw (h x, rest) refl

find_map_by : {A : Type 0} (p : A → Bool) (f : A → A) (x : A) (xs : List A) (c : Bool) → find p (map f xs) ≡ option_map f (find p xs)
    → cond c (Some (f x)) (find p (map f xs)) ≡ option_map f (cond c (Some x) (find p xs))
find_map_by p f x xs true rest = refl
find_map_by p f x xs false rest = rest

find_map : {A : Type 0} (p : A → Bool) (f : A → A) (h : (x : A) → p (f x) ≡ p x) (xs : List A) → find p (map f xs) ≡ option_map f (find p xs)
find_map p f h [] = refl
find_map p f h (x ∷ xs) = rw (h x) (find_map_by p f x xs (p x) (find_map p f h xs))

-- The session's own associations with an XID

own_active : (n : ℕ) (h : Holder) (b : Bool) → (is_own n h && (same_kind (kind_of h) kind.Active && b)) ≡ (is_active n h && b)
own_active n (Active m) b = refl
own_active n (Suspended m) b = and_false (is_own n (Suspended m)) false refl
own_active n Loose b = refl

own_suspended : (n : ℕ) (h : Holder) (b : Bool) → (is_own n h && (same_kind (kind_of h) kind.Suspended && b)) ≡ (is_suspended n h && b)
own_suspended n (Active m) b = and_false (is_own n (Active m)) false refl
own_suspended n (Suspended m) b = refl
own_suspended n Loose b = refl

own_loose : (n : ℕ) (h : Holder) (b : Bool) → (is_own n h && (same_kind (kind_of h) kind.Loose && b)) ≡ false
own_loose n (Active m) b = and_false (is_own n (Active m)) false refl
own_loose n (Suspended m) b = and_false (is_own n (Suspended m)) false refl
own_loose n Loose b = refl

owned_by : (n : ℕ) (h : Holder) (b : Bool) (o w u : ℕ) → o ≡ w + u → cond (is_own n h && b) 1 0 + o ≡ (cond (is_active n h && b) 1 0 + w) + (cond (is_suspended n h && b) 1 0 + u)
owned_by n (Active m) b o w u e = omega arith
owned_by n (Suspended m) b o w u e = omega arith
owned_by n Loose b o w u e = omega arith

-- the session is at work in it, or has suspended it
owned : (n : ℕ) (q : Triple) (held : List Association) → count (owns n q) held ≡ count (works_in n q) held + count (suspends n q) held
owned n q [] = refl
owned n q (a ∷ held) = owned_by n a.holder (xid_eq a.xid q) (count (owns n q) held) (count (works_in n q) held) (count (suspends n q) held) (owned n q held)

or_false : (b : Bool) → b ≡ (b || false)
or_false true = refl
or_false false = refl

works_by : (n : ℕ) (q : Triple) (a : Association) (held : List Association) (c : Bool) → cond c 1 0 + count (λ b. is_active n b.holder) held ≤ 1
    → (count (λ b. is_active n b.holder) held ≤ 1 → is_with q (active_of held n) ≡ list_any (works_in n q) held)
    → is_with q (option_map (λ b. b.xid) (cond c (Some a) (find (λ b. is_active n b.holder) held))) ≡ ((c && xid_eq a.xid q) || list_any (works_in n q) held)
works_by n q a held true one rest =
    let fewer : count (works_in n q) held ≤ count (λ b. is_active n b.holder) held =
    count_less (works_in n q) (λ b. is_active n b.holder) (λ b is. (both_true (is_active n b.holder) (xid_eq b.xid q) is).0) held in
    let nowhere : list_any (works_in n q) held ≡ false = none_counted (works_in n q) held (omega arith) in
    rw nowhere (or_false (xid_eq a.xid q))
works_by n q a held false one rest = rest (omega arith)

-- the session is at work for the branch of the only active association that it has
works_is : (n : ℕ) (q : Triple) (held : List Association) → count (λ a. is_active n a.holder) held ≤ 1 → is_with q (active_of held n) ≡ list_any (works_in n q) held
works_is n q [] one = refl
works_is n q (a ∷ held) one = works_by n q a held (is_active n a.holder) one (works_is n q held)

-- Associations after a hang-up

abbrev left_of : ℕ → List Association → List Association
left_of n held = filter (λ a. not (is_of_session n a)) held

-- How many of each kind are left with an XID: fewer by the session's own.
record IsLeft (n : ℕ) (q : Triple) (held : List Association) : Type 0 where
  active : held_as kind.Active (left_of n held) q + count (works_in n q) held ≡ held_as kind.Active held q
  suspended : held_as kind.Suspended (left_of n held) q + count (suspends n q) held ≡ held_as kind.Suspended held q
  loose : held_as kind.Loose (left_of n held) q ≡ held_as kind.Loose held q

is_left : (n : ℕ) (q : Triple) (held : List Association) → IsLeft n q held
is_left n q held = record {
  active =
      let own : count (λ a. is_of_session n a && is_as kind.Active q a) held ≡ count (works_in n q) held =
      count_as (λ a. is_of_session n a && is_as kind.Active q a) (works_in n q) (λ a. own_active n a.holder (xid_eq a.xid q)) held in
      omega (arith, own, count_out (is_of_session n) (is_as kind.Active q) held);
  suspended =
      let own : count (λ a. is_of_session n a && is_as kind.Suspended q a) held ≡ count (suspends n q) held =
      count_as (λ a. is_of_session n a && is_as kind.Suspended q a) (suspends n q) (λ a. own_suspended n a.holder (xid_eq a.xid q)) held in
      omega (arith, own, count_out (is_of_session n) (is_as kind.Suspended q) held);
  loose =
      let own : count (λ a. is_of_session n a && is_as kind.Loose q a) held ≡ 0 = never (λ a. is_of_session n a && is_as kind.Loose q a) (λ a. own_loose n a.holder (xid_eq a.xid q)) held in
      omega (arith, own, count_out (is_of_session n) (is_as kind.Loose q) held);
}

-- an XID that the session has no association with
same_left : (n : ℕ) (q : Triple) (held : List Association) (t : ℕ) (work : Work) → list_any (owns n q) held ≡ false → kept_of held q t work ≡ kept_of (left_of n held) q t work
same_left n q held t work none =
    let left = is_left n q held in
    let zero_ : count (owns n q) held ≡ 0 = count_nowhere (owns n q) held none in
    let split : count (owns n q) held ≡ count (works_in n q) held + count (suspends n q) held = owned n q held in
    let active : held_as kind.Active held q ≡ held_as kind.Active (left_of n held) q = omega (arith, left.active) in
    let suspended : held_as kind.Suspended held q ≡ held_as kind.Suspended (left_of n held) q = omega (arith, left.suspended) in
    kept_same t work (held_as kind.Active held q) (held_as kind.Suspended held q) (held_as kind.Loose held q) (held_as kind.Active (left_of n held) q) (held_as kind.Suspended (left_of n held) q)
    (held_as kind.Loose (left_of n held) q) active suspended (sym left.loose)

-- one that it has an association with, active or suspended
fewer_left : (n : ℕ) (q : Triple) (held : List Association) (t : ℕ) (work : Work) (d : Bool) → list_any (works_in n q) held ≡ d → count (owns n q) held ≤ 1 → list_any (owns n q) held ≡ true
    → less_one (cond d kind.Active kind.Suspended) (kept_of held q t work) ≡ kept_of (left_of n held) q t work
fewer_left n q held t work true works one any =
    let left = is_left n q held in
    let some : 1 ≤ count (works_in n q) held = any_counts (works_in n q) held works in
    let split : count (owns n q) held ≡ count (works_in n q) held + count (suspends n q) held = owned n q held in
    less kind.Active t work (held_as kind.Active held q) (held_as kind.Suspended held q) (held_as kind.Loose held q) (held_as kind.Active (left_of n held) q) (held_as kind.Suspended (left_of n held) q)
    (held_as kind.Loose (left_of n held) q) (omega (arith, left.active)) (omega (arith, left.suspended)) (omega (arith, left.loose))
fewer_left n q held t work false idle one any =
    let left = is_left n q held in
    let none : count (works_in n q) held ≡ 0 = count_nowhere (works_in n q) held idle in
    let some : 1 ≤ count (owns n q) held = any_counts (owns n q) held any in
    let split : count (owns n q) held ≡ count (works_in n q) held + count (suspends n q) held = owned n q held in
    less kind.Suspended t work (held_as kind.Active held q) (held_as kind.Suspended held q) (held_as kind.Loose held q) (held_as kind.Active (left_of n held) q) (held_as kind.Suspended (left_of n held) q)
    (held_as kind.Loose (left_of n held) q) (omega (arith, left.active)) (omega (arith, left.suspended)) (omega (arith, left.loose))

-- Branches after a hang-up

cond_none : (c : Bool) → ◌≡◌ {A = Option Kept} (cond c None None) None
cond_none true = refl
cond_none false = refl

behind_working : (n : ℕ) (q x : Triple) (held : List Association) (t : ℕ) (work : Work) (c d : Bool) → list_any (owns n q) held ≡ c → list_any (works_in n q) held ≡ d → count (owns n q) held ≤ 1
    → cond c (Some (left_behind (cond d kind.Active kind.Suspended) (kept_of held q t work))) (Some (kept_of held q t work))
    ≡ working_by (left_of n held) q t (cond c (marked_phase XA_RBCOMMFAIL (Working x work)) (Working x work))
behind_working n q x held t work true d any works one = ap (λ (w : Kept). Some (marked XA_RBCOMMFAIL w)) (fewer_left n q held t work d works one any)
behind_working n q x held t work false d none works one = ap Some (same_left n q held t work none)

behind_phase : (n : ℕ) (q : Triple) (held : List Association) (t : ℕ) (p : Phase) (d : Bool) → is_with q (name_of p) ≡ true → list_any (works_in n q) held ≡ d → count (owns n q) held ≤ 1
    → cond (list_any (owns n q) held) (option_map (left_behind (cond d kind.Active kind.Suspended)) (working_by held q t p)) (working_by held q t p)
    ≡ working_by (left_of n held) q t (cond (is_worked_by held n p) (marked_phase XA_RBCOMMFAIL p) p)
behind_phase n q held t (Working x work) d named works one =
    let any : list_any (owns n x) held ≡ list_any (owns n q) held = ap (λ (z : Triple). list_any (owns n z) held) (xid_same x q named) in
    rw any (behind_working n q x held t work (list_any (owns n q) held) d refl works one)
behind_phase n q held t (Prepared x) d named works one = cond_none (list_any (owns n q) held)
behind_phase n q held t Committed d named works one = cond_none (list_any (owns n q) held)

marked_or : (held : List Association) (q : Triple) (b : Branch) (c : Bool)
    → working_by held q b.timestamp (cond c (marked_phase XA_RBCOMMFAIL b.phase) b.phase) ≡ working_in held q (cond c (with_mark XA_RBCOMMFAIL b) b)
marked_or held q b true = refl
marked_or held q b false = refl

behind_in : (n : ℕ) (q : Triple) (held : List Association) (o : Option Branch) (d : Bool) → ((b : Branch) → o ≡ Some b → is_known_as q b ≡ true) → list_any (works_in n q) held ≡ d
    → count (owns n q) held ≤ 1
    → cond (list_any (owns n q) held) (option_map (left_behind (cond d kind.Active kind.Suspended)) (option_and_then (working_in held q) o)) (option_and_then (working_in held q) o)
    ≡ option_and_then (working_in (left_of n held) q) (option_map (left_by_session held n) o)
behind_in n q held None d named works one = cond_none (list_any (owns n q) held)
behind_in n q held (Some b) d named works one =
    behind_phase n q held b.timestamp b.phase d (named b refl) works one ∙ marked_or (left_of n held) q b (is_worked_by held n b.phase)

same_known : (held : List Association) (n : ℕ) (q : Triple) (b : Branch) → is_known_as q (left_by_session held n b) ≡ is_known_as q b
same_known held n q b = ap (λ (o : Option Triple). is_with q o) ((left_keeps held n).name b)

behind_look : (n : ℕ) (q : Triple) (held : List Association) (bs : List Branch) (d : Bool) → list_any (works_in n q) held ≡ d → count (owns n q) held ≤ 1
    → cond (list_any (owns n q) held) (option_map (left_behind (cond d kind.Active kind.Suspended)) (option_and_then (working_in held q) (known_of bs q))) (option_and_then (working_in held q) (known_of bs q))
    ≡ option_and_then (working_in (left_of n held) q) (known_of (map (left_by_session held n) bs) q)
behind_look n q held bs d works one =
    let found : known_of (map (left_by_session held n) bs) q ≡ option_map (left_by_session held n) (known_of bs q) =
    find_map (is_known_as q) (left_by_session held n) (same_known held n q) bs in
    behind_in n q held (known_of bs q) d (λ b e. found_passes (is_known_as q) b bs e) works one ∙ sym (ap (option_and_then (working_in (left_of n held) q)) found)

-- those that the session leaves behind don't run out of time

no_due : (c : Bool) → ◌≡◌ {A = Option ℕ} None (cond c None None)
no_due true = refl
no_due false = refl

behind_work : (n : ℕ) (x : Triple) (work : Work) (c : Bool) → due_phase (cond c (marked_phase XA_RBCOMMFAIL (Working x work)) (Working x work)) ≡ cond c None (due_of work)
behind_work n x work true = marked_due XA_RBCOMMFAIL (Working x work)
behind_work n x work false = refl

due_behind : (n : ℕ) (q : Triple) (held : List Association) (p : Phase) → is_with q (name_of p) ≡ true
    → due_phase (cond (is_worked_by held n p) (marked_phase XA_RBCOMMFAIL p) p) ≡ cond (list_any (owns n q) held) None (due_phase p)
due_behind n q held (Working x work) named =
    behind_work n x work (list_any (owns n x) held) ∙ ap (λ (z : Triple). cond (list_any (owns n z) held) None (due_of work)) (xid_same x q named)
due_behind n q held (Prepared x) named = no_due (list_any (owns n q) held)
due_behind n q held Committed named = no_due (list_any (owns n q) held)

phase_or : (b : Branch) (c : Bool) → due_in (cond c (with_mark XA_RBCOMMFAIL b) b) ≡ due_phase (cond c (marked_phase XA_RBCOMMFAIL b.phase) b.phase)
phase_or b true = refl
phase_or b false = refl

due_in_behind : (n : ℕ) (q : Triple) (held : List Association) (o : Option Branch) → ((b : Branch) → o ≡ Some b → is_known_as q b ≡ true)
    → option_and_then due_in (option_map (left_by_session held n) o) ≡ cond (list_any (owns n q) held) None (option_and_then due_in o)
due_in_behind n q held None named = no_due (list_any (owns n q) held)
due_in_behind n q held (Some b) named = phase_or b (is_worked_by held n b.phase) ∙ due_behind n q held b.phase (named b refl)

due_named_behind : (n : ℕ) (q : Triple) (held : List Association) (bs : List Branch) → due_named (map (left_by_session held n) bs) q ≡ cond (list_any (owns n q) held) None (due_named bs q)
due_named_behind n q held bs =
    ap (option_and_then due_in) (find_map (is_known_as q) (left_by_session held n) (same_known held n q) bs) ∙ due_in_behind n q held (known_of bs q) (λ b e. found_passes (is_known_as q) b bs e)

out_due : (c : Bool) (o : Option ℕ) (t : ℕ) → (is_then o t && not (c && is_then o t)) ≡ is_then (cond c None o) t
out_due c o t = by_test c (is_then o t) ∙ back c
  where
    by_test : (c b : Bool) → (b && not (c && b)) ≡ cond c false b
    by_test true true = refl
    by_test true false = refl
    by_test false true = refl
    by_test false false = refl

    back : (c : Bool) → cond c false (is_then o t) ≡ is_then (cond c None o) t
    back true = refl
    back false = refl

lasts_by : (b : Branch) (c : Bool) → lasting_in (cond c (with_mark XA_RBCOMMFAIL b) b) ≡ lasting_in b
lasts_by b true = (marked_keeps XA_RBCOMMFAIL).lasts b
lasts_by b false = refl

plain_by : (b : Branch) (c : Bool) → is_in_doubt (cond c (with_mark XA_RBCOMMFAIL b) b).phase ≡ is_in_doubt b.phase
plain_by b true = (marked_keeps XA_RBCOMMFAIL).plain b
plain_by b false = refl

time_by : (b : Branch) (c : Bool) → (cond c (with_mark XA_RBCOMMFAIL b) b).timestamp ≡ b.timestamp
time_by b true = refl
time_by b false = refl

behind_keeps : (held : List Association) (n : ℕ) → KeepsLasting (left_by_session held n)
behind_keeps held n = record { name = (left_keeps held n).name; lasts = λ b. lasts_by b (is_worked_by held n b.phase); plain = λ b. plain_by b (is_worked_by held n b.phase); time = λ b. time_by b (is_worked_by held n b.phase) }

still_some : (c : Bool) (f : Kept → Kept) (w : Option Kept) → is_some (cond c (option_map f w) w) ≡ is_some w
still_some true f None = refl
still_some true f (Some w) = refl
still_some false f w = refl

pub hung_up_stands : (m : Branches) (kept : BTreeMap Triple Kept) (due : BTreeSet (ℕ × Triple)) (s : State) (n : ℕ) (own : BTreeSet Triple) (active : Option Triple) → IsSound s
    → ((q : Triple) → contains xid_cmp own q ≡ list_any (owns n q) s.associations) → active ≡ active_of s.associations n → BranchesStandFor m s → LeavesAll m.working own active kept
    → LosesAllDue m.working m.due own due → BranchesStandFor (record m { working = kept; due = due }) (hang_up_by s n).after
hung_up_stands m kept due s n own active h owned_ active_ st all loses = record {
  boot = st.boot;
  given = st.given;
  moment = st.moment;
  working = λ q.
      let works : list_any (works_in n q) s.associations ≡ is_with q active = sym (ap (is_with q) active_ ∙ works_is n q s.associations (h.active n)) in
      all.at q
      ∙ ap (λ (o : Option Kept). cond (contains xid_cmp own q) (option_map (left_behind (own_kind active q)) o) o) (st.working q)
      ∙ rw (owned_ q) (behind_look n q s.associations s.branches (is_with q active) works (h.own n q));
  known =
      let names : known_count (map (left_by_session s.associations n) s.branches) ≡ known_count s.branches =
      count_map (left_by_session s.associations n) (λ b. is_some (name_of b.phase)) (λ b. ap (λ (o : Option Triple). is_some o) ((left_keeps s.associations n).name b)) s.branches in
      ap (λ (k : ℕ). k + (m.prepared + m.completed)) all.number ∙ st.known ∙ ap (λ (k : ℕ). k + length s.decided) (sym names);
  lasting = λ q.
      as_hidden (working_at m q) (get xid_cmp kept q) (get xid_cmp m.lasting q)
      (ap (λ (o : Option Kept). is_some o) (all.at q) ∙ still_some (contains xid_cmp own q) (left_behind (own_kind active q)) (working_at m q))
      ∙ st.lasting q ∙ sym (lasting_map (left_by_session s.associations n) (behind_keeps s.associations n) q (decided_of s.decided q) s.branches);
  times = λ t. st.times t ∙ sym (timed_map (left_by_session s.associations n) (behind_keeps s.associations n) t s.branches);
  due = λ t q.
      loses t q
      ∙ ap (λ (a : Bool). a && not (contains xid_cmp own q && is_then (due_kept (working_at m q)) t)) (st.due t q)
      ∙ ap (λ (o : Option ℕ). is_then (due_named s.branches q) t && not (contains xid_cmp own q && is_then o t)) (kept_due m s q (st.working q))
      ∙ ap (λ (c : Bool). is_then (due_named s.branches q) t && not (c && is_then (due_named s.branches q) t)) (owned_ q)
      ∙ out_due (list_any (owns n q) s.associations) (due_named s.branches q) t
      ∙ sym (ap (λ (o : Option ℕ). is_then o t) (due_named_behind n q s.associations s.branches));
  prepared = st.prepared ∙ sym (prepared_map (left_by_session s.associations n) (behind_keeps s.associations n) s.branches);
  completed = st.completed;
}
