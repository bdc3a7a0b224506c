-- What each change of a chain's versions keeps, and what it stands for, whichever index it is at.
use Rattle.std.proofs.Common.{◌≡◌, ℕ, zero, suc, ◌<◌, ◌≤◌, Bool, true, false, not, ◌&&◌, List, [], ◌∷◌, length, get_or, Option, None, refl, ap, subst, arith}
use Rattle.std.specs.Prelude.{nat_le, ◌==◌}
use Rattle.std.specs.List.{list_any, AllByRecursion as Each}
use Rattle.std.proofs.lemmas.Bool.Decides.{nat_tests}
use Rattle.mv_chain.specs.declared.fate.Fate.{Fate}
use Rattle.mv_chain.specs.declared.fate.Fate.TheVariants.{Committed, RolledBack}
use Rattle.mv_chain.specs.declared.version.Version.{Version}
use Rattle.mv_chain.specs.Accesses.{Written, Answered, seen, is_busy, is_late, decided, IsUndecided, IsUnsettled, read_by}
use Rattle.mv_chain.specs.Chain.{base, StandsFor, IsBefore, IsChain, IsIndex, is_marked, marked, unread, may_install, installed, settled}
use Rattle.mv_chain.proofs.Chains.{index_within, shows_none, chain_removed, chain_inserted, index_new, new_after, none_pending}
use Rattle.mv_chain.proofs.Exact.{marked_some, marked_nothing, installed_own, installed_new, committed_own, rolled_back_own, settled_nothing}
use Rattle.mv_chain.proofs.Kept.{raised_chain, raised_stands, replaced_chain, replaced_stands, committed_chain, committed_stands, own_decided}
use Rattle.mv_chain.proofs.Stands.{base_index, stands_free, stands_inserted, stands_untouched, stands_rolled_back}

-- each timestamp has its index
pub index_for : (t : ℕ) (vs : List Version) → IsChain vs → (i : ℕ) × IsIndex t i vs
index_for t [] c = (zero, tt)
index_for t (v ∷ vs) c = at (nat_le v.timestamp t) refl (index_for t vs c.2)
  where
    above : (xs : List Version) → t < v.timestamp → Each (IsBefore v) xs → IsIndex t zero xs
    above [] lt h = tt
    above (x ∷ xs) lt h = (omega (arith, lt, h.0.0), above xs lt h.1)

    at : (q : Bool) → nat_le v.timestamp t ≡ q → (i : ℕ) × IsIndex t i vs → (i : ℕ) × IsIndex t i (v ∷ vs)
    at true e rest = (suc rest.0, (grind (arith, nat_tests, e), rest.1))
    at false e rest = let lt : t < v.timestamp = grind (arith, nat_tests, e) in (zero, (lt, above vs lt c.0))

pub chain_marked : (from reader : ℕ) (vs : List Version) → IsChain vs → IsChain (marked from reader vs)
chain_marked from reader vs c = at (index_for reader vs c)
  where
    at : (i : ℕ) × IsIndex reader i vs → IsChain (marked from reader vs)
    at (zero, h) = subst IsChain (marked_nothing from reader vs h (ap (λ s. s.from) (shows_none reader vs h))) c
    at (suc i, h) = subst IsChain (marked_some from reader i vs base c h) (raised_chain vs i from reader _ base c h refl)

pub marked_stands : (from reader : ℕ) (vs : List Version) → IsChain vs → (key : List ℕ) (low : ℕ) (ws : List Written) (rs : List Answered) → StandsFor key low ws rs vs → low ≤ reader → from ≡ (seen key reader ws).from → is_busy reader (seen key reader ws) ≡ false → StandsFor key low ws (read_by reader key from ∷ rs) (marked from reader vs)
marked_stands from reader vs c key low ws rs s le source free = at (index_for reader vs c)
  where
    at : (i : ℕ) × IsIndex reader i vs → StandsFor key low ws (read_by reader key from ∷ rs) (marked from reader vs)
    at (zero, h) = absurd (base_index low reader vs le h s.based)
    at (suc i, h) =
        subst (λ (xs : List Version). StandsFor key low ws (read_by reader key from ∷ rs) xs) (marked_some from reader i vs base c h)
        (raised_stands vs i from reader _ base c h refl key low ws rs s le source free)

-- where a write may go: to its branch's own version, or to a new one
pub data Goes (t : ℕ) (vs : List Version) : Type 0 where
  to_own : (i : ℕ) → IsIndex t (suc i) vs → (get_or vs i base).timestamp ≡ t → (get_or vs i base).pending ≡ true → Goes t vs
  to_new : (i : ℕ) → IsIndex t i vs → Each (λ v. v.timestamp ≡ t → ⊥) vs → Goes t vs

no_decided : (t i : ℕ) (vs : List Version) → i < length vs → list_any (λ v. (v.timestamp == t) && not v.pending) vs ≡ false → (get_or vs i base).timestamp ≡ t → (get_or vs i base).pending ≡ true
no_decided t i [] lt none own = absurd (omega arith)
no_decided t zero (v ∷ vs) lt none own = grind (arith, nat_tests, none, own)
no_decided t (suc i) (v ∷ vs) lt none own = no_decided t i vs (omega arith) (grind (arith, none)) own

goes : (t : ℕ) (vs : List Version) → IsChain vs → may_install t vs ≡ true → Goes t vs
goes t vs c free = at (index_for t vs c)
  where
    none : list_any (λ v. (v.timestamp == t) && not v.pending) vs ≡ false
    none = grind (arith, free)

    at : (i : ℕ) × IsIndex t i vs → Goes t vs
    at (zero, h) = to_new zero h (index_new t zero vs c h (λ j d e own. omega (arith, e)))
    at (suc i, h) = here ((get_or vs i base).timestamp == t) refl
      where
        lt : i < length vs
        lt = index_within t i vs h

        here : (q : Bool) → ((get_or vs i base).timestamp == t) ≡ q → Goes t vs
        here true e = let is : (get_or vs i base).timestamp ≡ t = grind (arith, nat_tests, e) in to_own i h is (no_decided t i vs lt none is)
        here false e = to_new (suc i) h (index_new t (suc i) vs c h (new_after vs t (suc i) base (omega arith) lt (λ is. grind (arith, nat_tests, e, is))))

in_time : (t : ℕ) (vs : List Version) → may_install t vs ≡ true → is_marked t vs ≡ false
in_time t vs free = grind (arith, free)

pub chain_installed : (t : ℕ) (value : Option (List ℕ)) (vs : List Version) → IsChain vs → IsChain (installed t value vs)
chain_installed t value vs c = at (may_install t vs) refl
  where
    at : (q : Bool) → may_install t vs ≡ q → IsChain (installed t value vs)
    at false e = rw e c
    at true e = to (goes t vs c e)
      where
        to : Goes t vs → IsChain (installed t value vs)
        to (to_own i h is p) = subst IsChain (installed_own t i value vs _ base (index_within t i vs h) c (in_time t vs e) is p refl) (replaced_chain vs i t _ base value c h refl)
        to (to_new i h none) = subst IsChain (installed_new t i value vs (in_time t vs e) h none) (chain_inserted t i vs (unread t value) refl refl c h none (in_time t vs e))

pub installed_stands : (t : ℕ) (value : Option (List ℕ)) (vs : List Version) → IsChain vs → (key : List ℕ) (low : ℕ) (ws : List Written) (rs : List Answered) → StandsFor key low ws rs vs → IsUnsettled t low ws → is_late key t rs ≡ false → StandsFor key low (record { timestamp = t; key = key; value = value; fate = None } ∷ ws) rs (installed t value vs)
installed_stands t value vs c key low ws rs s u timely = to (goes t vs c free)
  where
    free : may_install t vs ≡ true
    free = stands_free key low t ws rs vs c s u timely

    Left : List Version → Type 0
    Left xs = StandsFor key low (record { timestamp = t; key = key; value = value; fate = None } ∷ ws) rs xs

    to : Goes t vs → StandsFor key low (record { timestamp = t; key = key; value = value; fate = None } ∷ ws) rs (installed t value vs)
    to (to_own i h is p) =
        subst Left (installed_own t i value vs _ base (index_within t i vs h) c (in_time t vs free) is p refl)
        (replaced_stands vs i t _ base value c h is p refl key low ws rs s u.above)
    to (to_new i h none) =
        subst Left (installed_new t i value vs (in_time t vs free) h none)
        (stands_inserted key low ws rs vs i (unread t value) refl refl none u.above s)

-- whether the branch has a pending version
pub data Own (t : ℕ) (vs : List Version) : Type 0 where
  has_own : (i : ℕ) → IsIndex t (suc i) vs → (get_or vs i base).timestamp ≡ t → (get_or vs i base).pending ≡ true → Own t vs
  no_own : Each (λ v. v.timestamp ≡ t → v.pending ≡ false) vs → Own t vs

own_of : (t : ℕ) (vs : List Version) → IsChain vs → Own t vs
own_of t vs c = at (index_for t vs c)
  where
    at : (i : ℕ) × IsIndex t i vs → Own t vs
    at (zero, h) = no_own (none_pending t vs (index_new t zero vs c h (λ j d e own. omega (arith, e))))
    at (suc i, h) = here ((get_or vs i base).timestamp == t) refl (get_or vs i base).pending refl
      where
        lt : i < length vs
        lt = index_within t i vs h

        here : (q : Bool) → ((get_or vs i base).timestamp == t) ≡ q → (p : Bool) → (get_or vs i base).pending ≡ p → Own t vs
        here true e true p = has_own i h (grind (arith, nat_tests, e)) p
        here true e false p = no_own (own_decided t i vs base lt c (grind (arith, nat_tests, e)) p)
        here false e p q = no_own (none_pending t vs (index_new t (suc i) vs c h (new_after vs t (suc i) base (omega arith) lt (λ is. grind (arith, nat_tests, e, is)))))

pub chain_settled : (t : ℕ) (fate : Fate) (vs : List Version) → IsChain vs → IsChain (settled t fate vs)
chain_settled t fate vs c = to fate (own_of t vs c)
  where
    to : (f : Fate) → Own t vs → IsChain (settled t f vs)
    to f (no_own h) = subst IsChain (settled_nothing t f vs h) c
    to Committed (has_own i h is p) = subst IsChain (committed_own t i vs _ base (index_within t i vs h) c is refl) (committed_chain vs i t _ base c h refl)
    to RolledBack (has_own i h is p) = subst IsChain (rolled_back_own t i vs base (index_within t i vs h) c is p) (chain_removed i vs c)

pub settled_stands : (t : ℕ) (fate : Fate) (vs : List Version) → IsChain vs → (key : List ℕ) (low : ℕ) (ws : List Written) (rs : List Answered) → StandsFor key low ws rs vs → IsUndecided t ws → StandsFor key low (decided t fate ws) rs (settled t fate vs)
settled_stands t fate vs c key low ws rs s all_undecided = to fate (own_of t vs c)
  where
    to : (f : Fate) → Own t vs → StandsFor key low (decided t f ws) rs (settled t f vs)
    to f (no_own h) = subst (λ (xs : List Version). StandsFor key low (decided t f ws) rs xs) (settled_nothing t f vs h) (stands_untouched key low t f ws rs vs h s all_undecided)
    to Committed (has_own i h is p) =
        subst (λ (xs : List Version). StandsFor key low (decided t Committed ws) rs xs) (committed_own t i vs _ base (index_within t i vs h) c is refl)
        (committed_stands vs i t _ base c h is p refl key low ws rs s all_undecided)
    to RolledBack (has_own i h is p) =
        subst (λ (xs : List Version). StandsFor key low (decided t RolledBack ws) rs xs) (rolled_back_own t i vs base (index_within t i vs h) c is p)
        (stands_rolled_back key low t ws rs vs i base (index_within t i vs h) c all_undecided is p s)

-- a branch that has committed writes no more
pub decided_refuses : (t i : ℕ) (vs : List Version) → i < length vs → (get_or vs i base).timestamp ≡ t → (get_or vs i base).pending ≡ false → may_install t vs ≡ false
decided_refuses t i vs lt own p = grind (arith, there i vs lt own p)
  where
    there : (i : ℕ) (vs : List Version) → i < length vs → (get_or vs i base).timestamp ≡ t → (get_or vs i base).pending ≡ false → list_any (λ v. (v.timestamp == t) && not v.pending) vs ≡ true
    there i [] lt own p = absurd (omega arith)
    there zero (v ∷ vs) lt own p = grind (arith, nat_tests, own, p)
    there (suc i) (v ∷ vs) lt own p = grind (arith, there i vs (omega arith) own p)
