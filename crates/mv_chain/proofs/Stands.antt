-- Each call keeps what a chain stands for.
use Rattle.std.proofs.Common.{◌≡◌, ℕ, zero, suc, ◌<◌, ◌≤◌, Bool, true, false, not, ◌&&◌, List, [], ◌∷◌, length, get_or, set, Option, None, refl, sym, ap, ◌∙◌, max, arith}
use Rattle.std.specs.Prelude.{if◌then◌else◌, bytes_eq, nat_le, ◌==◌}
use Rattle.std.specs.List.{list_any, AllByRecursion as Each, insert, remove}
use Rattle.std.proofs.lemmas.Bool.Decides.{nat_tests}
use Rattle.mv_chain.specs.declared.fate.Fate.{Fate}
use Rattle.mv_chain.specs.declared.fate.Fate.TheVariants.{Committed, RolledBack}
use Rattle.mv_chain.specs.declared.version.Version.{Version}
use Rattle.mv_chain.specs.Accesses.{Written, Answered, shown, seen_of, seen_without, stands, nobody, deciding, decided, is_late, IsUndecided, IsUnsettled, has_undecided, seen, absent, read_by}
use Rattle.mv_chain.specs.Chain.{as_written, shows, shows_without, has_base, StandsFor, IsBefore, IsChain, IsIndex, may_install, fresh}
use Rattle.mv_chain.proofs.Seen.{and_gone, but_not, cleared, seen_rolled_back, seen_committed, still_undecided, undecided_seen, seen_undecided}
use Rattle.mv_chain.proofs.Chains.{index_within, shows_none, shows_inserted, marked_inserted, marked_set, writes_set, shows_replaced, shows_committed, shows_removed, marked_removed}
use Rattle.std.specs.Cmp.Lexicographic.{bytes_decides}

pub key_itself : (key : List ℕ) → bytes_eq key key ≡ true
key_itself key = (bytes_decides key key).1 refl

base_set : (low i : ℕ) (vs : List Version) (w d : Version) → i < length vs → w.timestamp ≡ (get_or vs i d).timestamp → (w.pending ≡ true → (get_or vs i d).pending ≡ true) → has_base low vs ≡ true → has_base low (set vs i w) ≡ true
base_set low i [] w d lt e p h = absurd (omega arith)
base_set low zero (v ∷ vs) w d lt e p h = grind (arith, nat_tests)
base_set low (suc i) (v ∷ vs) w d lt e p h = grind (arith, nat_tests, base_set low i vs w d (omega arith) e p)

base_inserted : (low i : ℕ) (vs : List Version) (w : Version) → has_base low vs ≡ true → has_base low (insert vs i w) ≡ true
base_inserted low zero vs w h = grind (arith, nat_tests)
base_inserted low (suc i) [] w h = grind (arith, nat_tests)
base_inserted low (suc i) (v ∷ vs) w h = grind (arith, nat_tests, base_inserted low i vs w)

base_removed : (low i : ℕ) (vs : List Version) (d : Version) → i < length vs → (get_or vs i d).pending ≡ true → has_base low vs ≡ true → has_base low (remove vs i) ≡ true
base_removed low i [] d lt p h = absurd (omega arith)
base_removed low zero (v ∷ vs) d lt p h = grind (arith, nat_tests)
base_removed low (suc i) (v ∷ vs) d lt p h = grind (arith, nat_tests, base_removed low i vs d (omega arith) p)

-- a chain with a base has a version up to each reader
pub base_index : (low t : ℕ) (vs : List Version) → low ≤ t → IsIndex t zero vs → has_base low vs ≡ true → ⊥
base_index low t [] le h b = absurd (cc)
base_index low t (v ∷ vs) le h b = base_index low t vs le h.1 (grind (arith, nat_tests))

pub stands_marked : (key : List ℕ) (low : ℕ) (ws : List Written) (rs : List Answered) (vs : List Version) (i reader : ℕ) (w d : Version) → IsChain vs → IsIndex reader (suc i) vs → as_written w ≡ as_written (get_or vs i d) → w.pending ≡ (get_or vs i d).pending → w.mark ≡ max (get_or vs i d).mark reader → StandsFor key low ws rs vs → StandsFor key low ws (read_by reader key w.timestamp ∷ rs) (set vs i w)
stands_marked key low ws rs vs i reader w d c h same p m s =
    record {
      seen = λ gone t le. ap (λ xs. seen_of (λ k. true) gone t xs) (writes_set i vs w d lt same) ∙ s.seen gone t le;
      own = λ gone t g o. ap (λ xs. seen_of (λ k. true) gone t xs) (writes_set i vs w d lt same) ∙ s.own gone t g o;
      late = λ t le. rw (key_itself key, marked_set t i reader vs w d lt (ap (λ x. x.timestamp) same) m, s.late t le) refl;
      based = base_set low i vs w d lt (ap (λ x. x.timestamp) same) (λ q. sym p ∙ q) s.based;
    }
  where
    lt : i < length vs
    lt = index_within reader i vs h

-- a branch is shown what its key had before it wrote that again
shown_before : (key : List ℕ) (low n : ℕ) (value : Option (List ℕ)) (ws : List Written) (rs : List Answered) (vs : List Version) (gone : ℕ → Bool) (t : ℕ) → StandsFor key low ws rs vs → low ≤ n → gone t ≡ false
    → has_undecided key t (record { timestamp = n; key = key; value = value; fate = None } ∷ ws) ≡ true → shows_without gone t vs ≡ seen_without gone key t ws
shown_before key low n value ws rs vs gone t s le g o = at (n == t) refl
  where
    at : (x : Bool) → (n == t) ≡ x → shows_without gone t vs ≡ seen_without gone key t ws
    at true e = let same : n ≡ t = grind (arith, nat_tests, e) in s.seen gone t (omega (arith, le, same))
    at false e = s.own gone t g (grind (arith, o, e))

pub stands_inserted : (key : List ℕ) (low : ℕ) (ws : List Written) (rs : List Answered) (vs : List Version) (i : ℕ) (w : Version) → w.mark ≡ 0 → w.pending ≡ true → Each (λ v. v.timestamp ≡ w.timestamp → ⊥) vs → low ≤ w.timestamp → StandsFor key low ws rs vs → StandsFor key low (record { timestamp = w.timestamp; key = key; value = w.value; fate = None } ∷ ws) rs (insert vs i w)
stands_inserted key low ws rs vs i w m p new above s =
    record {
      seen = λ gone t le. shows_inserted (λ x. stands gone x.timestamp x.fate && nat_le x.timestamp t) i vs w new ∙ rw (p, key_itself key, s.seen gone t le) refl;
      own = λ gone t g o. shows_inserted (λ x. stands gone x.timestamp x.fate && nat_le x.timestamp t) i vs w new ∙ rw (p, key_itself key, shown_before key low w.timestamp w.value ws rs vs gone t s above g o) refl;
      late = λ t le. marked_inserted t i vs w m ∙ s.late t le;
      based = base_inserted low i vs w s.based;
    }

pub stands_replaced : (key : List ℕ) (low : ℕ) (ws : List Written) (rs : List Answered) (vs : List Version) (i : ℕ) (w d : Version) → i < length vs → IsChain vs → (get_or vs i d).timestamp ≡ w.timestamp → (get_or vs i d).pending ≡ true → w.pending ≡ true → w.mark ≡ (get_or vs i d).mark → low ≤ w.timestamp → StandsFor key low ws rs vs → StandsFor key low (record { timestamp = w.timestamp; key = key; value = w.value; fate = None } ∷ ws) rs (set vs i w)
stands_replaced key low ws rs vs i w d lt c e p q m above s =
    record {
      seen = λ gone t le. shows_replaced gone t i vs w d lt c e p q ∙ rw (q, key_itself key, s.seen gone t le) refl;
      own = λ gone t g o. shows_replaced gone t i vs w d lt c e p q ∙ rw (q, key_itself key, shown_before key low w.timestamp w.value ws rs vs gone t s above g o) refl;
      late = λ t le. marked_set t i 0 vs w d lt (sym e) (omega arith) ∙ grind (arith, nat_tests, s.late t le);
      based = base_set low i vs w d lt (sym e) (λ _. p) s.based;
    }

pub stands_committed : (key : List ℕ) (low ts : ℕ) (ws : List Written) (rs : List Answered) (vs : List Version) (i : ℕ) (w d : Version) → i < length vs → IsChain vs → IsUndecided ts ws → (get_or vs i d).timestamp ≡ ts → (get_or vs i d).pending ≡ true → w.timestamp ≡ ts → w.value ≡ (get_or vs i d).value → w.pending ≡ false → w.mark ≡ (get_or vs i d).mark → StandsFor key low ws rs vs → StandsFor key low (decided ts Committed ws) rs (set vs i w)
stands_committed key low ts ws rs vs i w d lt c all_undecided e p e2 v q m s =
    record {
      seen = λ gone t le. shows_committed gone t ts i vs w d lt c e p same ∙ (ap (cleared ts) (s.seen (but_not ts gone) t le) ∙ sym (seen_committed (λ k. bytes_eq key k) gone t ts ws all_undecided));
      own = λ gone t g o.
          let k = still_undecided key t ts Committed ws o in
          shows_committed gone t ts i vs w d lt c e p same ∙ (ap (cleared ts) (s.own (but_not ts gone) t (rw (k.0, g) refl) k.1) ∙ sym (seen_committed (λ k. bytes_eq key k) gone t ts ws all_undecided));
      late = λ t le. marked_set t i 0 vs w d lt (e2 ∙ sym e) (omega arith) ∙ grind (arith, nat_tests, s.late t le);
      based = base_set low i vs w d lt (e2 ∙ sym e) (λ r. absurd (cc)) s.based;
    }
  where
    same : as_written w ≡ deciding ts Committed (as_written (get_or vs i d))
    same = grind (arith, nat_tests)

-- a pending version was read by its own branch alone
pub own_mark : (i : ℕ) (vs : List Version) (d : Version) → i < length vs → IsChain vs → (get_or vs i d).pending ≡ true → (get_or vs i d).mark ≤ (get_or vs i d).timestamp
own_mark i [] d lt c p = absurd (omega arith)
own_mark zero (v ∷ vs) d lt c p = c.1 p
own_mark (suc i) (v ∷ vs) d lt c p = own_mark i vs d (omega arith) c.2 p

pub stands_rolled_back : (key : List ℕ) (low ts : ℕ) (ws : List Written) (rs : List Answered) (vs : List Version) (i : ℕ) (d : Version) → i < length vs → IsChain vs → IsUndecided ts ws → (get_or vs i d).timestamp ≡ ts → (get_or vs i d).pending ≡ true → StandsFor key low ws rs vs → StandsFor key low (decided ts RolledBack ws) rs (remove vs i)
stands_rolled_back key low ts ws rs vs i d lt c all_undecided e p s =
    record {
      seen = λ gone t le. shows_removed gone t ts i vs d lt c e p ∙ (s.seen (and_gone ts gone) t le ∙ sym (seen_rolled_back (λ k. bytes_eq key k) gone t ts ws all_undecided));
      own = λ gone t g o.
          let k = still_undecided key t ts RolledBack ws o in
          shows_removed gone t ts i vs d lt c e p ∙ (s.own (and_gone ts gone) t (rw (k.0, g) refl) k.1 ∙ sym (seen_rolled_back (λ k. bytes_eq key k) gone t ts ws all_undecided));
      late = λ t le. marked_removed t i vs d lt (own_mark i vs d lt c p) ∙ s.late t le;
      based = base_removed low i vs d lt p s.based;
    }

-- a branch without a pending version here shows the same whether it is gone or not
untouched_alike : (f g : ℕ → Bool) (t ts : ℕ) (vs : List Version) → ((x : ℕ) → (x == ts) ≡ false → f x ≡ g x) → Each (λ v. v.timestamp ≡ ts → v.pending ≡ false) vs → shows_without f t vs ≡ shows_without g t vs
untouched_alike f g t ts [] same none = refl
untouched_alike f g t ts (v ∷ vs) same none = rw (stays v.pending refl (v.timestamp == ts) refl, untouched_alike f g t ts vs same none.1) refl
  where
    stays : (p : Bool) → v.pending ≡ p → (q : Bool) → (v.timestamp == ts) ≡ q → stands f v.timestamp (as_written v).fate ≡ stands g v.timestamp (as_written v).fate
    stays false e q h = rw e refl
    stays true e false h = rw (e, same v.timestamp h) refl
    stays true e true h = absurd (grind (arith, nat_tests, e, h, none.0))

untouched_cleared : (gone : ℕ → Bool) (t ts : ℕ) (vs : List Version) → Each (λ v. v.timestamp ≡ ts → v.pending ≡ false) vs → cleared ts (shows_without gone t vs) ≡ shows_without gone t vs
untouched_cleared gone t ts [] none = refl
untouched_cleared gone t ts (v ∷ vs) none = at ((stands gone v.timestamp (as_written v).fate && nat_le v.timestamp t) && nat_le (shows_without gone t vs).from v.timestamp) (untouched_cleared gone t ts vs none.1)
  where
    own : (p q : Bool) → v.pending ≡ p → (v.timestamp == ts) ≡ q → cleared ts (shown (as_written v)) ≡ shown (as_written v)
    own false q e h = rw e refl
    own true false e h = rw (e, h) refl
    own true true e h = absurd (grind (arith, nat_tests, e, h, none.0))

    at : (x : Bool) → cleared ts (shows_without gone t vs) ≡ shows_without gone t vs → cleared ts (if x then shown (as_written v) else shows_without gone t vs) ≡ (if x then shown (as_written v) else shows_without gone t vs)
    at true rest = own v.pending (v.timestamp == ts) refl refl
    at false rest = rest

-- a branch that has no pending version here: its fate changes nothing
pub stands_untouched : (key : List ℕ) (low ts : ℕ) (fate : Fate) (ws : List Written) (rs : List Answered) (vs : List Version) → Each (λ v. v.timestamp ≡ ts → v.pending ≡ false) vs → StandsFor key low ws rs vs → IsUndecided ts ws → StandsFor key low (decided ts fate ws) rs vs
stands_untouched key low ts Committed ws rs vs none s all_undecided =
    record {
      seen = λ gone t le.
          sym (untouched_cleared gone t ts vs none)
          ∙ (ap (cleared ts) (untouched_alike gone (but_not ts gone) t ts vs (λ x e. rw e refl) none ∙ s.seen (but_not ts gone) t le) ∙ sym (seen_committed (λ k. bytes_eq key k) gone t ts ws all_undecided));
      own = λ gone t g o.
          let k = still_undecided key t ts Committed ws o in
          sym (untouched_cleared gone t ts vs none)
          ∙ (ap (cleared ts) (untouched_alike gone (but_not ts gone) t ts vs (λ x e. rw e refl) none ∙ s.own (but_not ts gone) t (rw (k.0, g) refl) k.1) ∙ sym (seen_committed (λ k. bytes_eq key k) gone t ts ws all_undecided));
      late = s.late;
      based = s.based;
    }
stands_untouched key low ts RolledBack ws rs vs none s all_undecided =
    record {
      seen = λ gone t le.
          untouched_alike gone (and_gone ts gone) t ts vs (λ x e. rw e refl) none
          ∙ (s.seen (and_gone ts gone) t le ∙ sym (seen_rolled_back (λ k. bytes_eq key k) gone t ts ws all_undecided));
      own = λ gone t g o.
          let k = still_undecided key t ts RolledBack ws o in
          untouched_alike gone (and_gone ts gone) t ts vs (λ x e. rw e refl) none
          ∙ (s.own (and_gone ts gone) t (rw (k.0, g) refl) k.1 ∙ sym (seen_rolled_back (λ k. bytes_eq key k) gone t ts ws all_undecided));
      late = s.late;
      based = s.based;
    }

-- a write that isn't late, by a branch that is undecided, may be installed
pub stands_free : (key : List ℕ) (low ts : ℕ) (ws : List Written) (rs : List Answered) (vs : List Version) → IsChain vs → StandsFor key low ws rs vs → IsUnsettled ts low ws → is_late key ts rs ≡ false → may_install ts vs ≡ true
stands_free key low ts ws rs vs c s u l = rw (s.late ts u.above, l) (at (list_any (λ v. (v.timestamp == ts) && not v.pending) vs) refl)
  where
    above : (v : Version) (xs : List Version) → v.timestamp ≡ ts → Each (IsBefore v) xs → IsIndex ts zero xs
    above v [] e h = tt
    above v (x ∷ xs) e h = (omega (arith, h.0.0, e), above v xs e h.1)

    decided_here : (xs : List Version) → IsChain xs → list_any (λ v. (v.timestamp == ts) && not v.pending) xs ≡ true → ((shows ts xs).from ≡ ts) × ((shows ts xs).pending ≡ false)
    decided_here [] c h = absurd (cc)
    decided_here (v ∷ xs) c h = at ((v.timestamp == ts) && not v.pending) refl (λ g. decided_here xs c.2 g)
      where
        at : (q : Bool) → ((v.timestamp == ts) && not v.pending) ≡ q → (list_any (λ v. (v.timestamp == ts) && not v.pending) xs ≡ true → ((shows ts xs).from ≡ ts) × ((shows ts xs).pending ≡ false)) → ((shows ts (v ∷ xs)).from ≡ ts) × ((shows ts (v ∷ xs)).pending ≡ false)
        at true q ih =
            let own : v.timestamp ≡ ts = grind (arith, nat_tests, q) in
            let none = shows_none ts xs (above v xs own c.0) in
            (grind (arith, nat_tests, q, own, none), grind (arith, nat_tests, q, own, none))
        at false q ih =
            let r = ih (grind (arith, h, q)) in
            let other : (v.timestamp == ts) ≡ false = apart (v.timestamp == ts) refl r.0 in
            (grind (arith, nat_tests, other, r.0), grind (arith, nat_tests, other, r.0, r.1))
          where
            apart : (y : Bool) → (v.timestamp == ts) ≡ y → (shows ts xs).from ≡ ts → (v.timestamp == ts) ≡ false
            apart false e f = e
            apart true e f =
                let own : v.timestamp ≡ ts = grind (arith, nat_tests, e) in
                let none = shows_none ts xs (above v xs own c.0) in
                let zero_is : 0 ≡ ts = sym (ap (λ r. r.from) none) ∙ f in
                absurd (omega (arith, u.positive, zero_is))

    at : (q : Bool) → list_any (λ v. (v.timestamp == ts) && not v.pending) vs ≡ q → not q ≡ true
    at false e = refl
    at true e =
        let here = decided_here vs c e in
        let same : shows ts vs ≡ seen key ts ws = s.seen nobody ts u.above in
        let own = undecided_seen key ts ws u.all_undecided (seen_undecided key ts ws u.positive u.all_undecided (sym (ap (λ r. r.from) same) ∙ here.0)) in
        absurd (cc (here.1, same, own.1))

-- a key that nobody wrote or read
pub stands_fresh : (key : List ℕ) (low : ℕ) → StandsFor key low [] [] fresh
stands_fresh key low = record { seen = λ gone t le. either (nat_le 0 t); own = λ gone t g o. absurd (cc o); late = λ t le. grind (arith, nat_tests); based = grind (arith, nat_tests) }
  where
    either : (x : Bool) → (if x && true then absent else absent) ≡ absent
    either true = refl
    either false = refl
