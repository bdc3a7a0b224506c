-- The branch's last write of each key is what it sees there.
use Rattle.std.proofs.Common.{◌≡◌, ℕ, Bool, true, false, ◌&&◌, List, [], ◌∷◌, ◌++◌, map, Option, None, Some, refl, sym, ap, ◌∙◌, subst, arith}
use Rattle.std.specs.Prelude.{if◌then◌else◌, ◌==◌, bytes_eq, nat_le, fold, Vec, Result, Ok, Err, IfOk}
use Rattle.std.specs.List.{AllByRecursion as Each}
use Rattle.std.specs.List.Sorted.{IsStrictlySortedBy}
use Rattle.std.specs.BTreeMap.{is_at}
use Rattle.std.specs.Map.{lookup, keys_of}
use Rattle.std.specs.Cmp.Lexicographic.{slice_cmp}
use Rattle.std.specs.Ordering.{nat_cmp, is_eq}
use Rattle.std.specs.declared.alloc.Global.{Global}
use Rattle.std.specs.declared.alloc.AllocError.{AllocError}
use Rattle.std.specs.declared.cmp.Ordering.TheVariants.{Less}
use Rattle.std.proofs.lemmas.Bool.Decides.{nat_tests}
use Rattle.std.proofs.lemmas.List.Sums.{fold-append}
use Rattle.std.proofs.lemmas.Map.Text.{is_eq-slice_cmp}
use Rattle.std.proofs.lemmas.Slice.Eq.{bytes_eq-Decides}
use Rattle.xa_codes.specs.declared.write.Write.{Write}
use Rattle.slab.specs.Slab.{Slab, get as chain_in}
use Rattle.mv_chain.specs.declared.pool.Pool.{Pool}
use Rattle.mv_chain.specs.declared.chain.Chain.{Chain}
use Rattle.mv_chain.specs.Accesses.{Written, nobody, seen, stands, shown, has_undecided, IsUndecided}
use Rattle.mv_chain.specs.Chain.{shows, StandsFor as ChainStandsFor}
use Rattle.mv_rules.specs.declared.own.Own.{Own}
use Rattle.mv_rules.specs.declared.records.Records.{Records}
use Rattle.mv_rules.specs.Accesses.{Accesses, last_write, listed_value, IsAscending}
use Rattle.mv_rules.specs.Held.{shown_in}
use Rattle.mv_rules.specs.Own.{is_listed}
use Rattle.mv_rules.specs.Records.{StandsFor, index_of, chain_at, own_of}
use Rattle.mv_rules.specs.Collected.{as_write, collecting, collected}
use Rattle.mv_chain.proofs.Seen.{seen_upto, undecided_seen}
use Rattle.mv_rules.proofs.Tests.{same_key}

-- the entries of a map in order are writes in order
pub ascending_entries : (es : List (List ℕ × Option (List ℕ))) → IsStrictlySortedBy (slice_cmp nat_cmp) (keys_of es) → IsAscending (map as_write es)
unfolding IsStrictlySortedBy
ascending_entries [] h = tt
ascending_entries (e ∷ es) h = (each es h.0, ascending_entries es h.1)
  where
    each : (xs : List (List ℕ × Option (List ℕ))) → Each (λ k. slice_cmp nat_cmp e.0 k ≡ Less) (keys_of xs) → Each (λ x. slice_cmp nat_cmp e.0 x.key ≡ Less) (map as_write xs)
    each [] a = tt
    each (x ∷ xs) a = (a.0, each xs a.1)

pub listed_entries : (q : List ℕ) (es : List (List ℕ × Option (List ℕ))) → listed_value q (map as_write es) ≡ lookup (is_at (slice_cmp nat_cmp q)) es
listed_entries q [] = refl
listed_entries q (e ∷ es) = rw (is_eq-slice_cmp q e.0, listed_entries q es) refl

-- the last write of a branch that is undecided is what it sees
last_unwritten : (q : List ℕ) (ts : ℕ) (ws : List Written) → IsUndecided ts ws → has_undecided q ts ws ≡ false → last_write q ts ws ≡ None
last_unwritten q ts [] o h = refl
last_unwritten q ts (w ∷ ws) o h = at (bytes_eq q w.key) refl (w.timestamp == ts) refl (last_unwritten q ts ws o.1 (grind (arith, h)))
  where
    at : (x : Bool) → bytes_eq q w.key ≡ x → (y : Bool) → (w.timestamp == ts) ≡ y → last_write q ts ws ≡ None → last_write q ts (w ∷ ws) ≡ None
    at false e y f ih = rw e ih
    at true e false f ih = rw (e, f) ih
    at true e true f ih = absurd (grind (arith, nat_tests, h, e, f, o.0))

last_written : (q : List ℕ) (ts : ℕ) (ws : List Written) → IsUndecided ts ws → has_undecided q ts ws ≡ true → last_write q ts ws ≡ Some (seen q ts ws).value
last_written q ts [] o h = absurd (cc)
last_written q ts (w ∷ ws) o h = at (bytes_eq q w.key) refl (w.timestamp == ts) refl (λ e. last_written q ts ws o.1 e)
  where
    at : (x : Bool) → bytes_eq q w.key ≡ x → (y : Bool) → (w.timestamp == ts) ≡ y → (has_undecided q ts ws ≡ true → last_write q ts ws ≡ Some (seen q ts ws).value) → last_write q ts (w ∷ ws) ≡ Some (seen q ts (w ∷ ws)).value
    at false e y f ih = let r = ih (grind (arith, h, e)) in rw e r
    at true e false f ih =
        let all_undecided : has_undecided q ts ws ≡ true = grind (arith, h, e, f) in
        let own = undecided_seen q ts ws o.1 all_undecided in
        let skips : (nat_le w.timestamp ts && nat_le (seen q ts ws).from w.timestamp) ≡ false = grind (arith, nat_tests, f, own.0) in
        rw (e, f) (ih all_undecided ∙ ap Some (passed (stands nobody w.timestamp w.fate) (nat_le w.timestamp ts) (nat_le (seen q ts ws).from w.timestamp) skips))
      where
        passed : (a b c : Bool) → (b && c) ≡ false → (seen q ts ws).value ≡ (if (a && b) && c then shown w else seen q ts ws).value
        passed false b c n = refl
        passed true false c n = refl
        passed true true false n = refl
        passed true true true n = absurd (cc)
    at true e true f ih =
        let own : w.timestamp ≡ ts = grind (arith, nat_tests, f) in
        let fate = o.0 own in
        let b = seen_upto nobody q ts ws in
        let counts : ((stands nobody w.timestamp w.fate && nat_le w.timestamp ts) && nat_le (seen q ts ws).from w.timestamp) ≡ true = grind (arith, nat_tests, own, fate, b) in
        rw (e, f) (ap Some (ap (λ (x : Bool). (if x then shown w else seen q ts ws).value) (sym counts)))

-- where no key of the list is asked for, and where one is
collected_none : (r : Records) (ts : ℕ) (q : List ℕ) (own : List Own) (best : Option (Option (List ℕ))) → index_of q r ≡ None → Each (λ o. index_of o.key r ≡ Some o.index) own → fold (collecting ts r.pool r.chains q) best own ≡ best
collected_none r ts q [] best none named = refl
collected_none r ts q (o ∷ own) best none named = rw (apart (bytes_eq o.key q) refl) (collected_none r ts q own best none named.1)
  where
    apart : (x : Bool) → bytes_eq o.key q ≡ x → bytes_eq o.key q ≡ false
    apart false e = e
    apart true e = let bad : None ≡ Some o.index = sym none ∙ (ap (λ k. index_of k r) (sym (same_key o.key q e)) ∙ named.0) in absurd (cc)

collected_some : (r : Records) (ts : ℕ) (q : List ℕ) (i : ℕ) (own : List Own) (best : Option (Option (List ℕ))) → ((a b : List ℕ) (j : ℕ) → index_of a r ≡ Some j → index_of b r ≡ Some j → a ≡ b) → index_of q r ≡ Some i → Each (λ o. index_of o.key r ≡ Some o.index) own
    → fold (collecting ts r.pool r.chains q) best own ≡ (if is_listed i own then Some (shows ts (chain_at i r)).value else best)
collected_some r ts q i [] best apart here named = refl
collected_some r ts q i (o ∷ own) best apart here named = at (bytes_eq o.key q) refl (λ b. collected_some r ts q i own b apart here named.1)
  where
    at : (x : Bool) → bytes_eq o.key q ≡ x → ((b : Option (Option (List ℕ))) → fold (collecting ts r.pool r.chains q) b own ≡ (if is_listed i own then Some (shows ts (chain_at i r)).value else b)) → fold (collecting ts r.pool r.chains q) best (o ∷ own) ≡ (if is_listed i (o ∷ own) then Some (shows ts (chain_at i r)).value else best)
    at true e rest =
        let one : Some o.index ≡ Some i = sym named.0 ∙ (ap (λ k. index_of k r) (same_key o.key q e) ∙ here) in
        let index : o.index ≡ i = cc in
        let hit : (i == o.index) ≡ true = grind (arith, nat_tests, index) in
        let value : Some (shows ts (chain_at o.index r)).value ≡ Some (shows ts (chain_at i r)).value = ap (λ j. Some (shows ts (chain_at j r)).value) index in
        rw (e, hit) (rest (Some (shows ts (chain_at o.index r)).value) ∙ either (is_listed i own) value)
      where
        either : (x : Bool) → Some (shows ts (chain_at o.index r)).value ≡ Some (shows ts (chain_at i r)).value → (if x then Some (shows ts (chain_at i r)).value else Some (shows ts (chain_at o.index r)).value) ≡ Some (shows ts (chain_at i r)).value
        either true v = refl
        either false v = v
    at false e rest =
        let miss : (i == o.index) ≡ false = differ (i == o.index) refl in
        rw (e, miss) (rest best)
      where
        differ : (y : Bool) → (i == o.index) ≡ y → (i == o.index) ≡ false
        differ false f = f
        differ true f =
            let index : o.index ≡ i = grind (arith, nat_tests, f) in
            let k : o.key ≡ q = apart o.key q i (named.0 ∙ ap Some index) here in
            let t : bytes_eq o.key q ≡ true = (bytes_eq-Decides o.key q).1 k in
            absurd (grind (arith, t, e))

-- what is collected from the branch's list is its last write of each key
pub collected_is : (h : Accesses) (r : Records) (ts : ℕ) (q : List ℕ) → StandsFor h r → IsUndecided ts h.writes → collected ts r.pool r.chains q (own_of ts r) ≡ last_write q ts h.writes
collected_is h r ts q s u = at (index_of q r) refl
  where
    at : (p : Option ℕ) → index_of q r ≡ p → collected ts r.pool r.chains q (own_of ts r) ≡ last_write q ts h.writes
    at None e = collected_none r ts q (own_of ts r) None e (s.lists.named ts) ∙ sym (last_unwritten q ts h.writes u (s.lists.unindexed ts q e))
    at (Some i) e = collected_some r ts q i (own_of ts r) None s.chains.apart e (s.lists.named ts) ∙ listed (is_listed i (own_of ts r)) refl
      where
        listed : (x : Bool) → is_listed i (own_of ts r) ≡ x → (if is_listed i (own_of ts r) then Some (shows ts (chain_at i r)).value else None) ≡ last_write q ts h.writes
        listed false l = rw l (sym (last_unwritten q ts h.writes u (sym (s.lists.listed ts q i e) ∙ l)))
        listed true l =
            let c : ChainStandsFor q h.low h.writes h.reads (chain_at i r) = rw e at (s.chains.chains q) in
            let same : shows ts (chain_at i r) ≡ seen q ts h.writes = c.own nobody ts refl (sym (s.lists.listed ts q i e) ∙ l) in
            rw (l, same) (sym (last_written q ts h.writes u (sym (s.lists.listed ts q i e) ∙ l)))

-- one more key is collected
pub collected_more : (ts : ℕ) (pool : Pool) (chains : Slab Chain) (key : List ℕ) (own : List Own) (o : Own) (old new : Option (Option (List ℕ))) (k : List ℕ) (v : Option (List ℕ)) → new ≡ (if is_eq (slice_cmp nat_cmp k key) then Some v else old) → k ≡ o.key → v ≡ (shows ts (shown_in pool (chain_in chains o.index))).value → old ≡ collected ts pool chains key own → new ≡ collected ts pool chains key (own ++ o ∷ [])
collected_more ts pool chains key own o old new k v e ek ev before =
    e ∙ (rw (is_eq-slice_cmp k key, ek, ev, before) refl ∙ sym (fold-append (collecting ts pool chains key) None own (o ∷ [])))

-- what the list of writes is, for what is asked of it
pub writes_result : (r : Result (Vec Write Global) AllocError) (es : List (List ℕ × Option (List ℕ))) (Claim : List Write → Type 0) → IfOk r (λ v. v.items ≡ map as_write es) → Claim (map as_write es) → IfOk r (λ v. Claim v.items)
writes_result (Ok v) es Claim items f = subst Claim (sym items) f
writes_result (Err e) es Claim items f = tt
