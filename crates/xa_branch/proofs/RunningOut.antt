-- Branches that run out of time at a moment, one after another.
use Rattle.std.proofs.Common.{◌≡◌, ℕ, ℤ, ◌+◌, ◌-◌, ◌^◌, ◌<◌, ◌≤◌, ◌==◌, Bool, true, false, not, ◌&&◌, ◌||◌, cond, min, Option, Some, None, List, [], ◌∷◌, refl, ap, sym, ◌∙◌, subst, arith}
use Rattle.std.specs.Prelude.{find, map, is_some, is_none, option_map, option_and_then, nat_lt}
use Rattle.std.specs.BTreeMap.{BTreeMap}
use Rattle.std.specs.BTreeSet.{BTreeSet}
use Rattle.std.specs.List.{AllByRecursion}
use Rattle.std.proofs.lemmas.Bool.Decides.{nat_tests}
use Rattle.xa_codes.specs.declared.codes.TheConstants.{XA_RBTIMEOUT}
use Rattle.xa_xid.specs.Triple.{Triple}
use Rattle.xa_xid.proofs.Same.{xid_eq_itself}
use Rattle.xa_model.specs.State.{State, Branch, Phase, Working, Prepared, Committed, count, name_of, is_with, is_known_as, known_of, known_count, change}
use Rattle.xa_model.specs.Associations.{or_mark, with_mark, marked_phase}
use Rattle.xa_model.specs.Invariants.Sound.{IsSound}
use Rattle.xa_model.specs.TimeLimits.{runs_out, runs_out_in, timed_out, ticked}
use Rattle.xa_model.proofs.Counts.{count_less, count_same, found_none}
use Rattle.xa_branch.specs.declared.branches.Branches.{Branches}
use Rattle.xa_branch.specs.declared.working.Working.{Working as Kept}
use Rattle.xa_branch.specs.Branches.{BranchesStandFor, working_at}
use Rattle.xa_branch.specs.Changes.{Sets, marked}
use Rattle.xa_branch.specs.Due.{due_phase, due_in, due_named, is_then, due_among, LosesDue, PopsDue, NoneDue}
use Rattle.xa_branch.proofs.Finding.{found_turned}
use Rattle.xa_branch.proofs.Marking.{marked_stands, marked_name}

-- A branch runs out of time by a moment, or doesn't, as it is kept

over_by : (mark : Option ℤ) (none low : Bool) (sum t moment : ℕ) → cond (is_some mark || none) None (cond low (Some sum) None) ≡ Some t → t ≤ moment
    → (is_none mark && (not none && not (nat_lt moment sum))) ≡ true
over_by (Some code) none low sum t moment e come = absurd (cc e)
over_by None true low sum t moment e come = absurd (cc e)
over_by None false false sum t moment e come = absurd (cc e)
over_by None false true sum t moment e come =
    let same : sum ≡ t = cc e in
    let late : nat_lt moment sum ≡ false = grind (arith, nat_tests, same, come) in
    rw late refl

over : (p : Phase) (t moment : ℕ) → due_phase p ≡ Some t → t ≤ moment → runs_out_in moment p ≡ true
over (Working x work) t moment e come = over_by work.mark (work.limit == 0) (nat_lt (work.start + work.limit) (2 ^ 64)) (work.start + work.limit) t moment e come
over (Prepared x) t moment e come = absurd (cc e)
over Committed t moment e come = absurd (cc e)

late_by : (moment sum : ℕ) → nat_lt moment sum ≡ false → sum ≤ moment
late_by moment sum f = grind (arith, nat_tests, f)

under_at : (sum moment : ℕ) (c d : Bool) → nat_lt moment sum ≡ c → nat_lt sum (2 ^ 64) ≡ d → moment < 2 ^ 64 → not c ≡ true → (cond d (Some sum) None ≡ Some sum) × (sum ≤ moment)
under_at sum moment true d f g small out = absurd (cc out)
under_at sum moment false true f g small out = (refl, late_by moment sum f)
under_at sum moment false false f g small out = absurd (omega (arith, late_by moment sum f, late_by sum (2 ^ 64) g, small))

under_by : (mark : Option ℤ) (none : Bool) (sum moment : ℕ) → moment < 2 ^ 64 → (is_none mark && (not none && not (nat_lt moment sum))) ≡ true
    → (cond (is_some mark || none) None (cond (nat_lt sum (2 ^ 64)) (Some sum) None) ≡ Some sum) × (sum ≤ moment)
under_by (Some code) none sum moment small out = absurd (cc out)
under_by None true sum moment small out = absurd (cc out)
under_by None false sum moment small out = under_at sum moment (nat_lt moment sum) (nat_lt sum (2 ^ 64)) refl refl small out

-- when the branch at work runs out of time
abbrev end_of : Phase → ℕ
end_of (Working x work) = work.start + work.limit
end_of (Prepared x) = 0
end_of Committed = 0

under : (p : Phase) (moment : ℕ) → moment < 2 ^ 64 → runs_out_in moment p ≡ true → (due_phase p ≡ Some (end_of p)) × (end_of p ≤ moment)
under (Working x work) moment small out =
    under_by work.mark (work.limit == 0) (work.start + work.limit) moment small out
under (Prepared x) moment small out = absurd (cc out)
under Committed moment small out = absurd (cc out)

-- a marked one doesn't

no_mark : (o : Option ℤ) (code : ℤ) → is_none (or_mark o code) ≡ false
no_mark None code = refl
no_mark (Some other) code = refl

marked_under : (moment : ℕ) (code : ℤ) (p : Phase) → runs_out_in moment (marked_phase code p) ≡ false
marked_under moment code (Working x work) = rw (no_mark work.mark code) refl
marked_under moment code (Prepared x) = refl
marked_under moment code Committed = refl

timed_by : (moment : ℕ) (b : Branch) (c d : Bool) → runs_out moment b ≡ c → c ≡ true → runs_out moment (with_mark XA_RBTIMEOUT b) ≡ d → d ≡ false → timed_out moment (with_mark XA_RBTIMEOUT b) ≡ timed_out moment b
timed_by moment b c d e is f isnt = rw (e, is, f, isnt) refl

-- One is marked, and leaves those that run out of time

map_by : {A B : Type 0} (p : A → Bool) (f : A → A) (g : A → B) (y x : A) (xs ys : List A) (c : Bool) → g (f y) ≡ g y → cond c (Some x) (find p xs) ≡ Some y → (find p xs ≡ Some y → map g ys ≡ map g xs)
    → map g (cond c (f x ∷ xs) (x ∷ ys)) ≡ g x ∷ map g xs
map_by p f g y x xs ys true same e rest = let is : x ≡ y = cc e in rw is (ap (λ z. z ∷ map g xs) same)
map_by p f g y x xs ys false same e rest = ap (λ zs. g x ∷ zs) (rest e)

map_found : {A B : Type 0} (p : A → Bool) (f : A → A) (g : A → B) (y : A) (xs : List A) → g (f y) ≡ g y → find p xs ≡ Some y → map g (change p f xs) ≡ map g xs
map_found p f g y [] same e = refl
map_found p f g y (x ∷ xs) same e = map_by p f g y x xs (change p f xs) (p x) same e (map_found p f g y xs same)

then_is : (o : Option ℕ) (t : ℕ) → is_then o t ≡ true → o ≡ Some t
then_is None t e = absurd (cc e)
then_is (Some u) t e = let same : u ≡ t = grind (arith, nat_tests, e) in ap Some same

found_by : (o : Option Branch) (t : ℕ) → option_and_then due_in o ≡ Some t → (b : Branch) × (o ≡ Some b) × (due_in b ≡ Some t)
found_by None t e = absurd (cc e)
found_by (Some b) t e = (b, refl, e)

-- So many branches of the state were marked up to now.
pub record Ran (moment : ℕ) (m : Branches) (s : State) (n : ℕ) : Type 0 where
  pub bs : List Branch
  pub stands : BranchesStandFor m (record s { branches = bs })
  pub distinct : (q : Triple) → count (is_known_as q) bs ≤ 1
  pub same : map (timed_out moment) bs ≡ map (timed_out moment) s.branches
  pub number : n + count (runs_out moment) bs ≡ count (runs_out moment) s.branches

pub ran_none : (moment : ℕ) (m : Branches) (s : State) → IsSound s → BranchesStandFor m s → Ran moment m s 0
ran_none moment m s h st = record { bs = s.branches; stands = st; distinct = λ q. omega (arith, h.distinct q); same = refl; number = omega arith }

named_by : (p : Phase) (moment : ℕ) → runs_out_in moment p ≡ true → is_some (name_of p) ≡ true
named_by (Working x work) moment e = refl
named_by (Prepared x) moment e = absurd (cc e)
named_by Committed moment e = absurd (cc e)

few : (moment : ℕ) (bs : List Branch) → count (runs_out moment) bs ≤ known_count bs
few moment bs = count_less (runs_out moment) (λ b. is_some (name_of b.phase)) (λ b e. named_by b.phase moment e) bs

pub ran_more : (moment : ℕ) (m : Branches) (working : BTreeMap Triple Kept) (due : BTreeSet (ℕ × Triple)) (s : State) (xid : Triple) (n k : ℕ) → IsSound s → PopsDue moment m.due xid due
    → Sets m.working xid (option_map (marked XA_RBTIMEOUT) (working_at m xid)) working → k ≡ min (n + 1) (2 ^ 64 - 1) → Ran moment m s n → Ran moment (record m { working = working; due = due }) s k
ran_more moment m working due s xid n k h pops sets more ran =
    let named : due_named ran.bs xid ≡ Some pops.at = then_is (due_named ran.bs xid) pops.at (sym (ran.stands.due pops.at xid) ∙ pops.there) in
    let found = found_by (known_of ran.bs xid) pops.at named in
    let b : Branch = found.0 in
    let out : runs_out moment b ≡ true = over b.phase pops.at moment found.2 pops.come in
    let in_ : runs_out moment (with_mark XA_RBTIMEOUT b) ≡ false = marked_under moment XA_RBTIMEOUT b.phase in
    let bs : List Branch = change (is_known_as xid) (with_mark XA_RBTIMEOUT) ran.bs in
    let fewer : count (runs_out moment) bs + 1 ≡ count (runs_out moment) ran.bs =
    let turned = found_turned (is_known_as xid) (runs_out moment) (with_mark XA_RBTIMEOUT) b ran.bs found.1 in
    let counted = rw (out, in_) at turned in
    omega (arith, counted) in
    record {
      bs = bs;
      stands = marked_stands m working due (record s { branches = ran.bs }) xid XA_RBTIMEOUT ran.stands sets (subst (λ (o : Option ℕ). LosesDue m.due xid o due) (sym named) pops.loses);
      distinct = λ q.
          let names : count (is_known_as q) bs ≡ count (is_known_as q) ran.bs =
          count_same (is_known_as xid) (with_mark XA_RBTIMEOUT) (is_known_as q) (λ c. ap (λ (o : Option Triple). is_with q o) (marked_name XA_RBTIMEOUT c.phase)) ran.bs in
          omega (arith, names, ran.distinct q);
      same =
          map_found (is_known_as xid) (with_mark XA_RBTIMEOUT) (timed_out moment) b ran.bs
          (timed_by moment b (runs_out moment b) (runs_out moment (with_mark XA_RBTIMEOUT b)) refl out refl in_) found.1
          ∙ ran.same;
      number = omega (arith, more, fewer, ran.number, few moment s.branches, h.known);
    }

-- No more run out of time

head_by : (moment : ℕ) (b : Branch) (bs : List Branch) (p : Phase) → b.phase ≡ p → ((q : Triple) (c : Branch) → known_of (b ∷ bs) q ≡ Some c → runs_out moment c ≡ false) → runs_out_in moment b.phase ≡ false
head_by moment b bs (Working x work) e none = none x b (rw (e, xid_eq_itself x) refl)
head_by moment b bs (Prepared x) e none = rw e refl
head_by moment b bs Committed e none = rw e refl

tail_by : (moment : ℕ) (b c : Branch) (bs : List Branch) (q : Triple) (d : Bool) → cond d 1 0 + count (is_known_as q) bs ≤ 1 → known_of bs q ≡ Some c → (cond d (Some b) (known_of bs q) ≡ Some c → runs_out moment c ≡ false)
    → runs_out moment c ≡ false
tail_by moment b c bs q true one e none =
    let nowhere : known_of bs q ≡ None = found_none (is_known_as q) bs (omega (arith, one)) in
    absurd (cc (e, nowhere))
tail_by moment b c bs q false one e none = none e

less_by : (d : Bool) (n : ℕ) → cond d 1 0 + n ≤ 1 → n ≤ 1
less_by true n e = omega (arith, e)
less_by false n e = omega (arith, e)

quiet : (moment : ℕ) (bs : List Branch) → ((q : Triple) → count (is_known_as q) bs ≤ 1) → ((q : Triple) (c : Branch) → known_of bs q ≡ Some c → runs_out moment c ≡ false) → AllByRecursion (λ b. runs_out moment b ≡ false) bs
quiet moment [] one none = tt
quiet moment (b ∷ bs) one none = (
  head_by moment b bs b.phase refl none,
  quiet moment bs (λ q. less_by (is_known_as q b) (count (is_known_as q) bs) (one q)) (λ q c e. tail_by moment b c bs q (is_known_as q b) (one q) e (none q c)),
)

quiet_count : (moment : ℕ) (bs : List Branch) → AllByRecursion (λ b. runs_out moment b ≡ false) bs → count (runs_out moment) bs ≡ 0
quiet_count moment [] all = refl
quiet_count moment (b ∷ bs) all = let rest : count (runs_out moment) bs ≡ 0 = quiet_count moment bs all.1 in rw (all.0, rest) refl

same_by : (moment : ℕ) (b : Branch) (c : Bool) → c ≡ false → cond c (with_mark XA_RBTIMEOUT b) b ≡ b
same_by moment b true e = absurd (cc e)
same_by moment b false e = refl

quiet_map : (moment : ℕ) (bs : List Branch) → AllByRecursion (λ b. runs_out moment b ≡ false) bs → map (timed_out moment) bs ≡ bs
quiet_map moment [] all = refl
quiet_map moment (b ∷ bs) all = ap (λ (c : Branch). c ∷ map (timed_out moment) bs) (same_by moment b (runs_out moment b) all.0) ∙ ap (λ (cs : List Branch). b ∷ cs) (quiet_map moment bs all.1)

-- one that does is due
out_by : (moment : ℕ) (m : Branches) (s : State) (bs : List Branch) (q : Triple) (b : Branch) (d : Bool) → moment < 2 ^ 64 → BranchesStandFor m (record s { branches = bs }) → NoneDue moment m.due → known_of bs q ≡ Some b
    → runs_out moment b ≡ d → d ≡ false
out_by moment m s bs q b true small st none e out =
    let at = under b.phase moment small out in
    let named : due_named bs q ≡ Some (end_of b.phase) = ap (option_and_then due_in) e ∙ at.0 in
    let itself : (end_of b.phase == end_of b.phase) ≡ true = grind (arith, nat_tests) in
    let there : due_among m.due (end_of b.phase) q ≡ true = st.due (end_of b.phase) q ∙ ap (λ (o : Option ℕ). is_then o (end_of b.phase)) named ∙ itself in
    absurd (omega (arith, none (end_of b.phase) q there, at.1))
out_by moment m s bs q b false small st none e out = refl

pub all_quiet : (moment : ℕ) (m : Branches) (s : State) (n : ℕ) → moment < 2 ^ 64 → NoneDue moment m.due → (ran : Ran moment m s n) → AllByRecursion (λ b. runs_out moment b ≡ false) ran.bs
all_quiet moment m s n small none ran =
    quiet moment ran.bs ran.distinct (λ q b e. out_by moment m s ran.bs q b (runs_out moment b) small ran.stands none e refl)

pub ran_all : (moment : ℕ) (m : Branches) (s : State) (n : ℕ) → moment < 2 ^ 64 → NoneDue moment m.due → Ran moment m s n → n ≡ count (runs_out moment) s.branches
ran_all moment m s n small none ran =
    let zero : count (runs_out moment) ran.bs ≡ 0 = quiet_count moment ran.bs (all_quiet moment m s n small none ran) in
    omega (arith, zero, ran.number)

moved : (t : ℕ) (m : Branches) (s : State) → BranchesStandFor m s → BranchesStandFor (record m { moment = t }) (record s { moment = t })
moved t m s st = record {
  boot = st.boot;
  given = st.given;
  moment = refl;
  working = st.working;
  lasting = st.lasting;
  times = st.times;
  due = st.due;
  known = st.known;
  prepared = st.prepared;
  completed = st.completed;
}

pub ran_stands : (moment : ℕ) (m : Branches) (s : State) (n : ℕ) → moment < 2 ^ 64 → NoneDue moment m.due → Ran moment m s n → BranchesStandFor (record m { moment = moment }) (ticked s moment)
ran_stands moment m s n small none ran =
    let same : ran.bs ≡ map (timed_out moment) s.branches = sym (quiet_map moment ran.bs (all_quiet moment m s n small none ran)) ∙ ran.same in
    subst (λ (bs : List Branch). BranchesStandFor (record m { moment = moment }) (record s { moment = moment; branches = bs })) same (moved moment m (record s { branches = ran.bs }) ran.stands)
