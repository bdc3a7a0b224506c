-- How many of the records that were lost survived, by what was read again.
use Rattle.std.proofs.Common.{◌≡◌, ◌⊎◌, inl, inr, ⊎_elim, ◌+◌, ◌-◌, ◌<◌, ◌≤◌, ℕ, zero, suc, false, List, [], ◌∷◌, ◌++◌, map, length, take, drop, Some, refl, ap, sym, ◌∙◌, subst, arith}
use Rattle.std.specs.Prelude.{option_map, get_or}
use Rattle.std.specs.List.{AllByRecursion}
use Rattle.std.proofs.lemmas.List.{map-append, length-map, length-append}
use Rattle.xa_disk.specs.declared.disk.Disk.{Ghosts}
use Rattle.xa_record.specs.Spelling.{spelled}
use Rattle.xa_record.specs.declared.record.Record.{Record}
use Rattle.xa_record.specs.declared.record.Record.TheVariants as logged
use Rattle.xa_log.specs.Believed.Group.{group_bytes}
use Rattle.xa_log.specs.Believed.LogView.{LogView}
use Rattle.xa_model.specs.State.{State}
use Rattle.xa_model.specs.Fold.{sizes}
use Rattle.xa_model.specs.Logging.{applied}
use Rattle.xa_model.specs.Invariants.Loggable.{IsRecoverable, MayFollow, is_boot}
use Rattle.xa_model.specs.Restarting.{looked, with_first}
use Rattle.xa_model.proofs.Booted.{settles_group}
use Rattle.xa_manager.specs.Rereading.{IsFate, Found}

-- ---- there are no more than were lost

few : (k : ℕ) (rs : List Record) (s t : State) → option_map looked (with_first k rs s) ≡ Some t → k ≤ length rs
few zero rs s t e = omega arith
few (suc k) [] s t e = absurd (cc e)
few (suc k) (r ∷ rs) s t e = let h = few k rs (applied r s) t e in omega (arith, h)

many_within : (k : ℕ) (s t : State) → IsFate k s t → k ≤ length s.open_records
many_within k s t fate = few k s.open_records s t fate

pub none_survives : (k : ℕ) (s t : State) → s.open_records ≡ [] → IsFate k s t → 0 ≡ k
none_survives k s t none fate = omega (arith, many_within k s t fate, ap length none)

-- with none that was lost the state is as it was, but that it was looked at
pub none_found : (rs : List Record) (s t : State) (k : ℕ) → rs ≡ [] → option_map looked (with_first k rs s) ≡ Some t → looked s ≡ t
none_found [] s t zero none e = cc e
none_found [] s t (suc k) none e = absurd (cc e)
none_found (r ∷ rs) s t k none e = absurd (cc none)

-- a boot's record survived where the boot that was logged last is that one
pub record IsBootFate (k : ℕ) (t : State) (last : ℕ) : Type 0 where
  pub missed : (t.logged_boot ≡ last → ⊥) → k ≡ 0
  pub found : t.logged_boot ≡ last → k ≡ 1

is_state : (s t : State) → Some s ≡ Some t → s ≡ t
is_state s t e = cc e

boot_by : (k : ℕ) (s t : State) (last : ℕ) → s.logged_boot < last → option_map looked (with_first k (logged.Opened last ∷ []) s) ≡ Some t → IsBootFate k t last
boot_by zero s t last less e =
    let same : s.logged_boot ≡ t.logged_boot = ap (λ (x : State). x.logged_boot) (is_state (looked s) t e) in
    record { missed = λ other. refl; found = λ is. absurd (omega (arith, same, is, less)) }
boot_by (suc zero) s t last less e =
    let same : last ≡ t.logged_boot = ap (λ (x : State). x.logged_boot) (is_state (looked (applied (logged.Opened last) s)) t e) in
    record { missed = λ other. absurd (other (sym same)); found = λ is. refl }
boot_by (suc (suc k)) s t last less e = absurd (cc e)

pub boot_survives : (k : ℕ) (s t : State) (last : ℕ) → IsRecoverable s → s.open_records ≡ logged.Opened last ∷ [] → IsFate k s t → IsBootFate k t last
boot_survives k s t last h open_is fate =
    let follow : MayFollow s (logged.Opened last ∷ []) = subst (λ (rs : List Record). MayFollow s rs) open_is h.open_records in
    boot_by k s t last follow.0.may (subst (λ (rs : List Record). option_map looked (with_first k rs s) ≡ Some t) open_is fate)

-- ---- of a group, by the log's bytes

pub bytes_both : (xs ys : List (List ℕ)) → group_bytes (xs ++ ys) ≡ group_bytes xs + group_bytes ys
bytes_both [] ys = omega arith
bytes_both (x ∷ xs) ys = omega (arith, bytes_both xs ys)

bytes_of : (rs : List Record) → group_bytes (map spelled rs) ≡ sizes rs
bytes_of [] = refl
bytes_of (r ∷ rs) = omega (arith, bytes_of rs)

take_few : (k : ℕ) (rs : List Record) → k ≤ length rs → length (take k rs) ≡ k
take_few zero rs h = refl
take_few (suc k) [] h = absurd (omega (arith, h))
take_few (suc k) (r ∷ rs) h = let rest = take_few k rs (omega (arith, h)) in omega (arith, rest)

-- the bodies are those that stood before, and those of the records that survived
pub record IsSplit (bodies : List (List ℕ)) (from to many : ℕ) : Type 0 where
  pub earlier : List (List ℕ)
  pub later : List (List ℕ)
  pub both : bodies ≡ earlier ++ later
  pub bytes : to - from ≡ group_bytes later
  pub many_is : length later ≡ many

pub found_split : {D : Type 0} (disks : Ghosts D) (bodies : List (List ℕ)) (log : LogView D) (s : State) (f : Found disks bodies log s)
    → AllByRecursion (λ (r : Record). is_boot r ≡ false) s.open_records → IsSplit bodies s.end log.end f.many
found_split disks bodies log s f others =
    let kept = take f.many s.open_records in
    let records : f.records ≡ f.earlier ++ kept = f.settled ∙ settles_group f.many s.open_records f.earlier s others in
    let both : bodies ≡ map spelled f.earlier ++ map spelled kept = f.spelled_as ∙ (ap (λ (rs : List Record). map spelled rs) records ∙ map-append spelled f.earlier kept) in
    let whole : sizes f.records ≡ group_bytes (map spelled f.earlier) + group_bytes (map spelled kept) =
    sym (bytes_of f.records) ∙ (ap group_bytes (sym f.spelled_as) ∙ (ap group_bytes both ∙ bytes_both (map spelled f.earlier) (map spelled kept))) in
    let before = bytes_of f.earlier in
    record {
      earlier = map spelled f.earlier;
      later = map spelled kept;
      both = both;
      bytes = omega (arith, f.end, f.backs.end, f.stood.end, whole, before);
      many_is = length-map kept spelled ∙ take_few f.many s.open_records (many_within f.many s f.state f.fate);
    }

-- ---- counted from the last one on

one_more : (a b : ℕ) → a ≤ suc b → (a ≤ b) ⊎ (a ≡ suc b)
one_more zero b h = inl (omega arith)
one_more (suc zero) zero h = inr refl
one_more (suc (suc a)) zero h = absurd (omega (arith, h))
one_more (suc a) (suc b) h = ⊎_elim (λ less. inl (omega (arith, less))) (λ same. inr (ap suc same)) (one_more a b (omega (arith, h)))

first_of : (xs : List (List ℕ)) (i : ℕ) → i < length xs → group_bytes (drop i xs) ≡ 36 + length (get_or xs i []) + group_bytes (drop (suc i) xs)
first_of [] i h = absurd (omega (arith, h))
first_of (x ∷ xs) zero h = omega arith
first_of (x ∷ xs) (suc i) h = first_of xs i (omega (arith, h))

no_more : (xs : List (List ℕ)) (i : ℕ) → group_bytes (drop i xs) ≤ group_bytes xs
no_more xs zero = omega arith
no_more [] (suc i) = omega arith
no_more (x ∷ xs) (suc i) = let rest = no_more xs i in omega (arith, rest)

inside : (xs ys : List (List ℕ)) (i : ℕ) → length xs ≤ i → group_bytes (drop i (xs ++ ys)) ≤ group_bytes ys
inside [] ys i h = no_more ys i
inside (x ∷ xs) ys zero h = absurd (omega (arith, h))
inside (x ∷ xs) ys (suc i) h = inside xs ys i (omega (arith, h))

exactly : (xs ys : List (List ℕ)) (i : ℕ) → length xs ≡ i → drop i (xs ++ ys) ≡ ys
exactly [] ys zero h = refl
exactly [] ys (suc i) h = absurd (omega (arith, h))
exactly (x ∷ xs) ys zero h = absurd (omega (arith, h))
exactly (x ∷ xs) ys (suc i) h = exactly xs ys i (omega (arith, h))

-- what is left to count, and what was counted
pub record IsLeft (bodies earlier later : List (List ℕ)) (first left : ℕ) : Type 0 where
  pub within : length earlier ≤ first
  pub sum : left + group_bytes (drop first bodies) ≡ group_bytes later

all_dropped : (xs : List (List ℕ)) → group_bytes (drop (length xs) xs) ≡ 0
all_dropped [] = refl
all_dropped (x ∷ xs) = all_dropped xs

pub left_first : (bodies earlier later : List (List ℕ)) (first bytes : ℕ) → first ≡ length bodies → bodies ≡ earlier ++ later → bytes ≡ group_bytes later
    → IsLeft bodies earlier later first bytes
left_first bodies earlier later first bytes all both e =
    let none : group_bytes (drop first bodies) ≡ 0 = ap (λ (i : ℕ). group_bytes (drop i bodies)) all ∙ all_dropped bodies in record {
      within = omega (arith, all, ap length both, length-append earlier later);
      sum = omega (arith, e, none);
    }

pub left_next : (bodies earlier later : List (List ℕ)) (first left size : ℕ) → bodies ≡ earlier ++ later → suc first ≤ length bodies → 1 ≤ left
    → size ≡ 36 + length (get_or bodies first []) → IsLeft bodies earlier later (suc first) left → IsLeft bodies earlier later first (left - size)
left_next bodies earlier later first left size both some more is l = by (one_more (length earlier) first l.within)
  where
    by : (length earlier ≤ first) ⊎ (length earlier ≡ suc first) → IsLeft bodies earlier later first (left - size)
    by (inr at) =
        let rest : group_bytes (drop (suc first) bodies) ≡ group_bytes later =
        ap (λ (x : List (List ℕ)). group_bytes (drop (suc first) x)) both ∙ ap group_bytes (exactly earlier later (suc first) at) in
        absurd (omega (arith, rest, l.sum, more))
    by (inl within) =
        let split = first_of bodies first some in
        let fits : group_bytes (drop first bodies) ≤ group_bytes later =
        subst (λ (x : List (List ℕ)). group_bytes (drop first x) ≤ group_bytes later) (sym both) (inside earlier later first within) in
        record { within = within; sum = omega (arith, split, fits, l.sum, is) }

short : (xs ys : List (List ℕ)) (i : ℕ) → length xs < i → i ≤ length (xs ++ ys) → group_bytes (drop i (xs ++ ys)) ≡ group_bytes ys → ⊥
short [] [] zero h k e = omega (arith, h)
short [] [] (suc i) h k e = omega (arith, k)
short [] (y ∷ ys) zero h k e = omega (arith, h)
short [] (y ∷ ys) (suc i) h k e = let rest = no_more ys i in omega (arith, e, rest)
short (x ∷ xs) ys zero h k e = omega (arith, h)
short (x ∷ xs) ys (suc i) h k e = short xs ys i (omega (arith, h)) (omega (arith, k)) e

-- nothing is left, or no body
pub left_last : (bodies earlier later : List (List ℕ)) (first left : ℕ) → bodies ≡ earlier ++ later → first ≤ length bodies → IsLeft bodies earlier later first left
    → (left ≡ 0) ⊎ (first ≡ 0) → length bodies - first ≡ length later
left_last bodies earlier later first left both within l (inr none) = omega (arith, ap length both, length-append earlier later, none, l.within)
left_last bodies earlier later first left both within l (inl none) = by (one_more (suc (length earlier)) first (omega (arith, l.within)))
  where
    by : (suc (length earlier) ≤ first) ⊎ (suc (length earlier) ≡ suc first) → length bodies - first ≡ length later
    by (inr same) = omega (arith, ap length both, length-append earlier later, same)
    by (inl less) = absurd (short earlier later first (omega (arith, less)) (omega (arith, ap length both, within))
        (sym (ap (λ (x : List (List ℕ)). group_bytes (drop first x)) both) ∙ omega (arith, none, l.sum)))
