-- What is pruned isn't seen, nor is a write late by it.
use Rattle.std.proofs.Common.{◌≡◌, ℕ, zero, suc, ◌<◌, ◌≤◌, Bool, true, false, not, ◌||◌, ◌&&◌, List, [], ◌∷◌, ◌++◌, length, get_or, take, drop, refl, sym, ap, ◌∙◌, max, arith}
use Rattle.std.specs.Prelude.{if◌then◌else◌, nat_le}
use Rattle.std.specs.List.{AllByRecursion as Each, remove}
use Rattle.std.proofs.lemmas.Bool.Decides.{nat_tests}
use Rattle.mv_chain.specs.declared.version.Version.{Version}
use Rattle.mv_chain.specs.Accesses.{Written, Answered, stands, AreWhole}
use Rattle.mv_chain.specs.Chain.{base, as_written, shows_without, is_marked, has_base, StandsFor, IsBefore, IsChain, IsIndex, pruned}
use Rattle.mv_chain.proofs.Seen.{undecided_pending}
use Rattle.mv_chain.proofs.Chains.{pending_shown}

above_base : (gone : ℕ → Bool) (low t n m : ℕ) (vs : List Version) → low ≤ t → has_base low vs ≡ true → Each (λ w. (n < w.timestamp) × (m ≤ w.timestamp)) vs → (n < (shows_without gone t vs).from) × (m ≤ low)
above_base gone low t n m [] le b h = absurd (cc)
above_base gone low t n m (v ∷ vs) le b h = at (has_base low vs) refl (λ e. above_base gone low t n m vs le e h.1)
  where
    at : (q : Bool) → has_base low vs ≡ q → (has_base low vs ≡ true → (n < (shows_without gone t vs).from) × (m ≤ low)) → (n < (shows_without gone t (v ∷ vs)).from) × (m ≤ low)
    at true e rest = let r = rest e in (grind (arith, nat_tests, r.0, h.0.0), r.1)
    at false e rest = (grind (arith, nat_tests, h.0.0, e, b), grind (arith, nat_tests, h.0.1, e, b))

shows_pruned : (gone : ℕ → Bool) (low t : ℕ) (vs : List Version) → low ≤ t → IsChain vs → shows_without gone t (pruned low vs) ≡ shows_without gone t vs
shows_pruned gone low t [] le c = refl
shows_pruned gone low t (v ∷ vs) le c = at (not v.pending && has_base low vs) refl (shows_pruned gone low t vs le c.2)
  where
    at : (q : Bool) → (not v.pending && has_base low vs) ≡ q → shows_without gone t (pruned low vs) ≡ shows_without gone t vs → shows_without gone t (pruned low (v ∷ vs)) ≡ shows_without gone t (v ∷ vs)
    at true e rest =
        let above = above_base gone low t v.timestamp v.mark vs le (grind (arith, e)) c.0 in
        grind (arith, nat_tests, above.0, e, rest)
    at false e rest = grind (arith, nat_tests, e, rest)

marked_pruned : (low t : ℕ) (vs : List Version) → low ≤ t → IsChain vs → is_marked t (pruned low vs) ≡ is_marked t vs
marked_pruned low t [] le c = refl
marked_pruned low t (v ∷ vs) le c = at (not v.pending && has_base low vs) refl (marked_pruned low t vs le c.2)
  where
    at : (q : Bool) → (not v.pending && has_base low vs) ≡ q → is_marked t (pruned low vs) ≡ is_marked t vs → is_marked t (pruned low (v ∷ vs)) ≡ is_marked t (v ∷ vs)
    at true e rest =
        let above = above_base (λ x. false) low t v.timestamp v.mark vs le (grind (arith, e)) c.0 in
        grind (arith, nat_tests, above.1, e, rest)
    at false e rest = grind (arith, nat_tests, e, rest)

pub base_pruned : (low : ℕ) (vs : List Version) → has_base low (pruned low vs) ≡ has_base low vs
base_pruned low [] = refl
base_pruned low (v ∷ vs) = grind (arith, nat_tests, base_pruned low vs)

pub base_up : (low high : ℕ) (vs : List Version) → low ≤ high → has_base low vs ≡ true → has_base high vs ≡ true
base_up low high [] le h = h
base_up low high (v ∷ vs) le h = grind (arith, nat_tests, base_up low high vs le)

each_pruned : (P : Version → Type 0) (low : ℕ) (vs : List Version) → Each P vs → Each P (pruned low vs)
each_pruned P low [] h = tt
each_pruned P low (v ∷ vs) h = at (not v.pending && has_base low vs) refl (each_pruned P low vs h.1)
  where
    at : (q : Bool) → (not v.pending && has_base low vs) ≡ q → Each P (pruned low vs) → Each P (pruned low (v ∷ vs))
    at true e rest = rw e rest
    at false e rest = rw e (h.0, rest)

pub chain_pruned : (low : ℕ) (vs : List Version) → IsChain vs → IsChain (pruned low vs)
chain_pruned low [] c = tt
chain_pruned low (v ∷ vs) c = at (not v.pending && has_base low vs) refl (chain_pruned low vs c.2)
  where
    at : (q : Bool) → (not v.pending && has_base low vs) ≡ q → IsChain (pruned low vs) → IsChain (pruned low (v ∷ vs))
    at true e rest = rw e rest
    at false e rest = rw e (each_pruned _ low vs c.0, c.1, rest)

-- where no version counts, none does once some are gone
under : (gone : ℕ → Bool) (low t n : ℕ) (vs : List Version) → Each (λ w. n < w.timestamp) vs → (shows_without gone t vs).from ≤ n → shows_without gone t (pruned low vs) ≡ shows_without gone t vs
under gone low t n [] h le = refl
under gone low t n (w ∷ ws) h le = at (stands gone w.timestamp (as_written w).fate && nat_le w.timestamp t) refl (not w.pending && has_base low ws) refl (λ e. under gone low t n ws h.1 e)
  where
    at : (p : Bool) → (stands gone w.timestamp (as_written w).fate && nat_le w.timestamp t) ≡ p → (q : Bool) → (not w.pending && has_base low ws) ≡ q
        → ((shows_without gone t ws).from ≤ n → shows_without gone t (pruned low ws) ≡ shows_without gone t ws) → shows_without gone t (pruned low (w ∷ ws)) ≡ shows_without gone t (w ∷ ws)
    at true e q f ih = absurd (grind (arith, nat_tests, e, le, h.0))
    at false e q f ih = grind (arith, nat_tests, e, f, ih (grind (arith, nat_tests, e, le)))

-- an undecided branch's own version stays
pub own_pruned : (gone : ℕ → Bool) (low t : ℕ) (vs : List Version) → IsChain vs → (shows_without gone t vs).pending ≡ true → shows_without gone t (pruned low vs) ≡ shows_without gone t vs
own_pruned gone low t [] c h = refl
own_pruned gone low t (v ∷ vs) c h = at ((stands gone v.timestamp (as_written v).fate && nat_le v.timestamp t) && nat_le (shows_without gone t vs).from v.timestamp) refl v.pending refl (has_base low vs) refl (λ e. own_pruned gone low t vs c.2 e)
  where
    later : (xs : List Version) → Each (IsBefore v) xs → Each (λ w. v.timestamp < w.timestamp) xs
    later [] a = tt
    later (x ∷ xs) a = (a.0.0, later xs a.1)

    at : (q : Bool) → ((stands gone v.timestamp (as_written v).fate && nat_le v.timestamp t) && nat_le (shows_without gone t vs).from v.timestamp) ≡ q → (p : Bool) → v.pending ≡ p → (b : Bool) → has_base low vs ≡ b
        → ((shows_without gone t vs).pending ≡ true → shows_without gone t (pruned low vs) ≡ shows_without gone t vs) → shows_without gone t (pruned low (v ∷ vs)) ≡ shows_without gone t (v ∷ vs)
    at true e false f b g ih = absurd (cc (sym (rw e at h) ∙ (pending_shown v ∙ f)))
    at true e true f b g ih =
        let same = under gone low t v.timestamp vs (later vs c.0) (grind (arith, nat_tests, e)) in
        rw (f, same) refl
    at false e true f b g ih = let same = ih (rw e at h) in rw (f, same) refl
    at false e false f true g ih = let same = ih (rw e at h) in rw (e, f, g) same
    at false e false f false g ih = let same = ih (rw e at h) in rw (f, g, same) refl

-- a higher base stays one
base_left : (low high : ℕ) (vs : List Version) → low ≤ high → has_base high vs ≡ true → has_base high (pruned low vs) ≡ true
base_left low high [] le h = h
base_left low high (v ∷ vs) le h = at (not v.pending && has_base low vs) refl (base_left low high vs le)
  where
    at : (q : Bool) → (not v.pending && has_base low vs) ≡ q → (has_base high vs ≡ true → has_base high (pruned low vs) ≡ true) → has_base high (pruned low (v ∷ vs)) ≡ true
    at true e rest = rw e (rest (base_up low high vs le (grind (arith, e))))
    at false e rest = rw e (here (has_base high vs) refl)
      where
        here : (b : Bool) → has_base high vs ≡ b → has_base high (v ∷ pruned low vs) ≡ true
        here true f = let r = rest f in grind (arith, r)
        here false f = grind (arith, h, f)

pub stands_pruned : (key : List ℕ) (before low : ℕ) (ws : List Written) (rs : List Answered) (vs : List Version) → IsChain vs → AreWhole ws → StandsFor key before ws rs vs → StandsFor key (max before low) ws rs (pruned low vs)
stands_pruned key before low ws rs vs c whole s =
    record {
      seen = λ gone t up. shows_pruned gone low t vs (omega (arith, up)) c ∙ s.seen gone t (omega (arith, up));
      own = λ gone t g o.
          let same = s.own gone t g o in
          own_pruned gone low t vs c (ap (λ r. r.pending) same ∙ (undecided_pending gone key t ws (whole t key o) g o).1) ∙ same;
      late = λ t up. marked_pruned low t vs (omega (arith, up)) c ∙ s.late t (omega (arith, up));
      based = base_left low (max before low) vs (omega arith) (base_up before (max before low) vs (omega arith) s.based);
    }

-- above low nothing goes
unpruned : (low : ℕ) (vs : List Version) → IsIndex low zero vs → (pruned low vs ≡ vs) × (has_base low vs ≡ false)
unpruned low [] h = (refl, refl)
unpruned low (v ∷ vs) h =
    let rest = unpruned low vs h.1 in
    (rw (rest.1, rest.0) (kept (not v.pending)), grind (arith, nat_tests, h.0, rest.1))
  where
    kept : (x : Bool) → (if x && false then vs else v ∷ vs) ≡ v ∷ vs
    kept true = refl
    kept false = refl

index_dropped : (low i : ℕ) (vs : List Version) → IsIndex low i vs → IsIndex low zero (drop i vs)
index_dropped low zero vs h = h
index_dropped low (suc i) [] h = absurd h
index_dropped low (suc i) (v ∷ vs) h = index_dropped low i vs h.1

index_below : (low i : ℕ) (vs : List Version) → IsIndex low i vs → (k : ℕ) → k < i → (get_or vs k base).timestamp ≤ low
index_below low zero vs h k lt = absurd (omega arith)
index_below low (suc i) [] h k lt = absurd h
index_below low (suc i) (v ∷ vs) h zero lt = h.0
index_below low (suc i) (v ∷ vs) h (suc k) lt = index_below low i vs h.1 k (omega arith)

index_length : (low i : ℕ) (vs : List Version) → IsIndex low i vs → i ≤ length vs
index_length low zero vs h = omega arith
index_length low (suc i) [] h = absurd h
index_length low (suc i) (v ∷ vs) h = let rest = index_length low i vs h.1 in omega (arith, rest)

-- from this index on the versions are pruned
pub record IsPrunedTo (low left : ℕ) (based : Bool) (old cur : List Version) : Type 0 where
  pub within : left ≤ length old
  pub below : (k : ℕ) → k < left → (get_or old k base).timestamp ≤ low
  pub items : cur ≡ take left old ++ pruned low (drop left old)
  pub told : based ≡ has_base low (drop left old)

split : (i : ℕ) (vs : List Version) → take i vs ++ drop i vs ≡ vs
split zero vs = refl
split (suc i) [] = refl
split (suc i) (v ∷ vs) = ap (λ xs. v ∷ xs) (split i vs)

pub pruned_begins : (low i : ℕ) (vs : List Version) → IsIndex low i vs → IsPrunedTo low i false vs vs
pruned_begins low i vs h =
    let above = unpruned low (drop i vs) (index_dropped low i vs h) in
    record {
      within = index_length low i vs h;
      below = index_below low i vs h;
      items = sym (split i vs) ∙ ap (λ xs. take i vs ++ xs) (sym above.0);
      told = sym above.1;
    }

-- one step of the loop, from the back
at_end : (xs ys : List Version) (k : ℕ) (d : Version) → k < length xs → get_or (take (suc k) xs ++ ys) k d ≡ get_or xs k d
at_end [] ys k d lt = absurd (omega arith)
at_end (x ∷ xs) ys zero d lt = refl
at_end (x ∷ xs) ys (suc k) d lt = at_end xs ys k d (omega arith)

removed_end : (xs ys : List Version) (k : ℕ) → k < length xs → remove (take (suc k) xs ++ ys) k ≡ take k xs ++ ys
removed_end [] ys k lt = absurd (omega arith)
removed_end (x ∷ xs) ys zero lt = refl
removed_end (x ∷ xs) ys (suc k) lt = ap (λ zs. x ∷ zs) (removed_end xs ys k (omega arith))

kept_end : (xs ys : List Version) (k : ℕ) (d : Version) → k < length xs → take (suc k) xs ++ ys ≡ take k xs ++ get_or xs k d ∷ ys
kept_end [] ys k d lt = absurd (omega arith)
kept_end (x ∷ xs) ys zero d lt = refl
kept_end (x ∷ xs) ys (suc k) d lt = ap (λ zs. x ∷ zs) (kept_end xs ys k d (omega arith))

drop_at : (xs : List Version) (k : ℕ) (d : Version) → k < length xs → drop k xs ≡ get_or xs k d ∷ drop (suc k) xs
drop_at [] k d lt = absurd (omega arith)
drop_at (x ∷ xs) zero d lt = refl
drop_at (x ∷ xs) (suc k) d lt = drop_at xs k d (omega arith)

pub pruned_step : (low k : ℕ) (old cur new : List Version) (b b2 : Bool) → IsPrunedTo low (suc k) b old cur → new ≡ (if not (get_or cur k base).pending && b then remove cur k else cur) → b2 ≡ (not (get_or cur k base).pending || b) → IsPrunedTo low k b2 old new
pruned_step low k old cur new b b2 s n f =
    record {
      within = omega (arith, s.within);
      below = λ j lt. s.below j (omega (arith, lt));
      items = n ∙ rw (v, at) (one (not (get_or old k base).pending) b s.told);
      told = f ∙ rw (v, at, ← s.told) (tests (get_or old k base).pending);
    }
  where
    lt : k < length old
    lt = omega (arith, s.within)

    v : get_or cur k base ≡ get_or old k base
    v = ap (λ xs. get_or xs k base) s.items ∙ at_end old (pruned low (drop (suc k) old)) k base lt

    at : drop k old ≡ get_or old k base ∷ drop (suc k) old
    at = drop_at old k base lt

    one : (x y : Bool) → y ≡ has_base low (drop (suc k) old) → (if x && y then remove cur k else cur) ≡ take k old ++ (if x && has_base low (drop (suc k) old) then pruned low (drop (suc k) old) else get_or old k base ∷ pruned low (drop (suc k) old))
    one true true y = rw (← y) (ap (λ xs. remove xs k) s.items ∙ removed_end old (pruned low (drop (suc k) old)) k lt)
    one true false y = rw (← y) (s.items ∙ kept_end old (pruned low (drop (suc k) old)) k base lt)
    one false q y = s.items ∙ kept_end old (pruned low (drop (suc k) old)) k base lt

    under_low : nat_le (get_or old k base).timestamp low ≡ true
    under_low = grind (arith, nat_tests, s.below k (omega arith))

    tests : (p : Bool) → (not p || b) ≡ ((nat_le (get_or old k base).timestamp low && not p) || b)
    tests p = rw under_low refl
