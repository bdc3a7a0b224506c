-- What each change at an index keeps, and what it stands for.
use Rattle.std.proofs.Common.{◌≡◌, ℕ, zero, suc, ◌<◌, ◌≤◌, Bool, true, false, not, ◌||◌, ◌&&◌, List, [], ◌∷◌, length, get_or, set, Option, None, refl, sym, ap, ◌∙◌, subst, max, arith}
use Rattle.std.specs.Prelude.{◌==◌}
use Rattle.std.specs.List.{AllByRecursion as Each}
use Rattle.std.proofs.lemmas.Bool.Decides.{nat_tests}
use Rattle.mv_chain.specs.declared.fate.Fate.TheVariants.{Committed}
use Rattle.mv_chain.specs.declared.version.Version.{Version}
use Rattle.mv_chain.specs.Accesses.{Written, Answered, shown, seen, is_busy, nobody, decided, IsUndecided, read_by}
use Rattle.mv_chain.specs.Chain.{as_written, may_read, StandsFor, IsBefore, IsChain, IsIndex, raised}
use Rattle.mv_chain.proofs.Chains.{each_at, pending_shown, none_own, none_pending, chain_set, index_within, shows_last}
use Rattle.mv_chain.proofs.Exact.{set_itself}
use Rattle.mv_chain.proofs.Stands.{own_mark, stands_marked, stands_replaced, stands_committed}

pub raised_chain : (vs : List Version) (i from reader : ℕ) (w d : Version) → IsChain vs → IsIndex reader (suc i) vs → w ≡ raised from reader (get_or vs i d) → IsChain (set vs i w)
raised_chain vs i from reader w d c h e = at (may_read from reader (get_or vs i d)) refl
  where
    lt : i < length vs
    lt = index_within reader i vs h

    at : (q : Bool) → may_read from reader (get_or vs i d) ≡ q → IsChain (set vs i w)
    at false q = subst IsChain (sym (set_itself i vs w d lt (e ∙ rw q refl))) c
    at true q =
        let is : w ≡ record (get_or vs i d) { mark = max (get_or vs i d).mark reader } = e ∙ rw q refl in
        chain_set i reader vs w d h c (ap (λ v. v.timestamp) is) (omega (arith, ap (λ v. v.mark) is)) (λ p. own (sym (ap (λ v. v.pending) is) ∙ p) is)
      where
        own : (get_or vs i d).pending ≡ true → w ≡ record (get_or vs i d) { mark = max (get_or vs i d).mark reader } → w.mark ≤ w.timestamp
        own p is =
            let low = own_mark i vs d lt c p in
            let from_is : (get_or vs i d).timestamp ≡ from = grind (arith, nat_tests, q) in
            let reader_is : from ≡ reader = grind (arith, nat_tests, q, p) in
            omega (arith, low, from_is, reader_is, ap (λ v. v.mark) is, ap (λ v. v.timestamp) is)

answered : (pending p : Bool) (stamp from f reader : ℕ) → stamp ≡ from → pending ≡ p → from ≡ f → (p && not (f == reader)) ≡ false → ((stamp == from) && (not pending || (from == reader))) ≡ true
answered true true stamp from f reader e q g b = grind (arith, nat_tests, e, g, b)
answered true false stamp from f reader e q g b = absurd (cc)
answered false p stamp from f reader e q g b = grind (arith, nat_tests, e)

pub raised_stands : (vs : List Version) (i from reader : ℕ) (w d : Version) → IsChain vs → IsIndex reader (suc i) vs → w ≡ raised from reader (get_or vs i d) → (key : List ℕ) (low : ℕ) (ws : List Written) (rs : List Answered) → StandsFor key low ws rs vs → low ≤ reader → from ≡ (seen key reader ws).from → is_busy reader (seen key reader ws) ≡ false → StandsFor key low ws (read_by reader key from ∷ rs) (set vs i w)
raised_stands vs i from reader w d c h e key low ws rs s le source free =
    subst (λ (f : ℕ). StandsFor key low ws (read_by reader key f ∷ rs) (set vs i w)) stamp (stands_marked key low ws rs vs i reader w d c h (ap as_written is) (ap (λ v. v.pending) is) (ap (λ v. v.mark) is) s)
  where
    found : shown (as_written (get_or vs i d)) ≡ seen key reader ws
    found = sym (shows_last reader i vs d c h) ∙ s.seen nobody reader le

    from_is : (get_or vs i d).timestamp ≡ from
    from_is = ap (λ r. r.from) found ∙ sym source

    pending_is : (get_or vs i d).pending ≡ (seen key reader ws).pending
    pending_is = sym (pending_shown (get_or vs i d)) ∙ ap (λ r. r.pending) found

    test : may_read from reader (get_or vs i d) ≡ true
    test = answered (get_or vs i d).pending (seen key reader ws).pending (get_or vs i d).timestamp from (seen key reader ws).from reader from_is pending_is source free

    is : w ≡ record (get_or vs i d) { mark = max (get_or vs i d).mark reader }
    is = e ∙ rw test refl

    stamp : w.timestamp ≡ from
    stamp = ap (λ v. v.timestamp) is ∙ from_is

-- a write in place of the branch's own
pub replaced_chain : (vs : List Version) (i ts : ℕ) (w d : Version) (value : Option (List ℕ)) → IsChain vs → IsIndex ts (suc i) vs → w ≡ record (get_or vs i d) { value = value } → IsChain (set vs i w)
replaced_chain vs i ts w d value c h e =
    chain_set i ts vs w d h c (ap (λ v. v.timestamp) e) (omega (arith, ap (λ v. v.mark) e)) (λ p. omega (arith, own_mark i vs d (index_within ts i vs h) c (sym (ap (λ v. v.pending) e) ∙ p), ap (λ v. v.mark) e, ap (λ v. v.timestamp) e))

pub replaced_stands : (vs : List Version) (i ts : ℕ) (w d : Version) (value : Option (List ℕ)) → IsChain vs → IsIndex ts (suc i) vs → (get_or vs i d).timestamp ≡ ts → (get_or vs i d).pending ≡ true → w ≡ record (get_or vs i d) { value = value } → (key : List ℕ) (low : ℕ) (ws : List Written) (rs : List Answered) → StandsFor key low ws rs vs → low ≤ ts → StandsFor key low (record { timestamp = ts; key = key; value = value; fate = None } ∷ ws) rs (set vs i w)
replaced_stands vs i ts w d value c h own p e key low ws rs s above =
    let stands = stands_replaced key low ws rs vs i w d (index_within ts i vs h) c (sym (ap (λ v. v.timestamp) e)) p (ap (λ v. v.pending) e ∙ p) (ap (λ v. v.mark) e) (omega (arith, above, own, ap (λ v. v.timestamp) e)) s in
    subst (λ (x : Written). StandsFor key low (x ∷ ws) rs (set vs i w)) (ap (λ (v : Version). record { timestamp = v.timestamp; key = key; value = v.value; fate = None }) e ∙ ap (λ (t : ℕ). record { timestamp = t; key = key; value = value; fate = None }) own) stands

-- a branch's version once its branch has committed
pub committed_chain : (vs : List Version) (i ts : ℕ) (w d : Version) → IsChain vs → IsIndex ts (suc i) vs → w ≡ record (get_or vs i d) { pending = false } → IsChain (set vs i w)
committed_chain vs i ts w d c h e =
    chain_set i ts vs w d h c (ap (λ v. v.timestamp) e) (omega (arith, ap (λ v. v.mark) e)) (λ p. absurd (cc (p, ap (λ (v : Version). v.pending) e)))

pub committed_stands : (vs : List Version) (i ts : ℕ) (w d : Version) → IsChain vs → IsIndex ts (suc i) vs → (get_or vs i d).timestamp ≡ ts → (get_or vs i d).pending ≡ true → w ≡ record (get_or vs i d) { pending = false } → (key : List ℕ) (low : ℕ) (ws : List Written) (rs : List Answered) → StandsFor key low ws rs vs → IsUndecided ts ws → StandsFor key low (decided ts Committed ws) rs (set vs i w)
committed_stands vs i ts w d c h own p e key low ws rs s all_undecided =
    stands_committed key low ts ws rs vs i w d (index_within ts i vs h) c all_undecided own p (ap (λ v. v.timestamp) e ∙ own) (ap (λ v. v.value) e) (ap (λ v. v.pending) e) (ap (λ v. v.mark) e) s

-- a branch without a pending version
pub own_decided : (ts i : ℕ) (vs : List Version) (d : Version) → i < length vs → IsChain vs → (get_or vs i d).timestamp ≡ ts → (get_or vs i d).pending ≡ false → Each (λ v. v.timestamp ≡ ts → v.pending ≡ false) vs
own_decided ts i [] d lt c e p = tt
own_decided ts zero (v ∷ vs) d lt c e p = ((λ own. p), none_pending ts vs (none_own v ts vs e c.0))
own_decided ts (suc i) (v ∷ vs) d lt c e p =
    let above = each_at (IsBefore v) vs i d (omega arith) c.0 in
    ((λ own. absurd (omega (arith, above.0, e, own))), own_decided ts i vs d (omega arith) c.2 e p)
