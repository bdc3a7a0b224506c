-- What is kept of each key once one chain is pruned or forgotten, and that to tidy a key twice is to tidy it once.
use Rattle.std.proofs.Common.{◌≡◌, ◌≢◌, ℕ, ◌<◌, ◌≤◌, ◌⊎◌, inl, inr, Bool, true, false, ◌||◌, ◌&&◌, not, ◌==◌, List, [], ◌∷◌, ◌++◌, length, Option, Some, None, refl, sym, ap, ◌∙◌, subst, arith}
use Rattle.std.specs.Prelude.{is_some, nat_le, option_map, bytes_eq, slice_get, if◌then◌else◌}
use Rattle.std.specs.BTreeMap.{BTreeMap}
use Rattle.slab.specs.Slab.{get as chain_in, SameValues}
use Rattle.mv_chain.specs.declared.version.Version.{Version}
use Rattle.mv_chain.specs.declared.pool.Pool.{Pool}
use Rattle.mv_chain.specs.declared.chain.Chain.{Chain}
use Rattle.mv_chain.specs.Chain.{fresh, shows, has_base, pruned, StandsFor as ChainStandsFor}
use Rattle.mv_chain.specs.Accesses.{absent, nobody, seen}
use Rattle.mv_chain.specs.Idle.{is_idle}
use Rattle.mv_chain.specs.Pool.{versions_of, IsKept, LeavesOthers, LeavesOthersAt}
use Rattle.mv_rules.specs.declared.records.Records.{Records}
use Rattle.mv_rules.specs.declared.own.Own.{Own}
use Rattle.mv_rules.specs.declared.own.Notes.{Notes}
use Rattle.mv_rules.specs.declared.answers.Got.{Got}
use Rattle.mv_rules.specs.Accesses.{Accesses, answer_of}
use Rattle.mv_rules.specs.Held.{IsHeld, Changes}
use Rattle.mv_rules.specs.Records.{StandsFor, ChainsStandFor, index_of, chain_at}
use Rattle.mv_rules.specs.Tidy.{kept_of, names, is_due, due, not_due, forgotten, tidied, tidied_if, KeepsAll, has_read}
use Rattle.mv_rules.proofs.Frames.{shown_elsewhere, shown_grown}
use Rattle.mv_rules.proofs.Changed.{with_chain, changes_at, before_at, after_at}
use Rattle.mv_chain.proofs.Pruned.{base_pruned}
use Rattle.mv_rules.proofs.Tests.{same_key, keys_differ}
use Rattle.mv_rules.proofs.Indices.{IsAdded}

abbrev kept_at : Option ℕ → Records → Option (List Version)
kept_at o r = option_map (λ i. chain_at i r) o

-- the others stay
elsewhere : (h : Accesses) (r r2 : Records) (key q : List ℕ) (i : ℕ) → index_of key r ≡ Some i → bytes_eq q key ≡ false → index_of q r2 ≡ index_of q r → Changes i r.pool r.chains r2.pool r2.chains → ChainsStandFor h r → kept_of q r2 ≡ kept_of q r
elsewhere h r r2 key q i here d same change s = ap (λ o. kept_at o r2) same ∙ at (index_of q r) refl
  where
    at : (o : Option ℕ) → index_of q r ≡ o → kept_at o r2 ≡ kept_at o r
    at None e = refl
    at (Some j) e = ap Some (shown_elsewhere i j r.pool r2.pool r.chains r2.chains change s.held (λ n. keys_differ q key d (s.apart q key i (e ∙ ap Some n) here)))

-- nothing changes
pub forgets_nothing : (r : Records) (key : List ℕ) (low : ℕ) → forgotten low (kept_of key r) ≡ kept_of key r → (q : List ℕ) → kept_of q r ≡ (if bytes_eq q key then forgotten low (kept_of q r) else kept_of q r)
forgets_nothing r key low same q = at (bytes_eq q key) refl
  where
    at : (x : Bool) → bytes_eq q key ≡ x → kept_of q r ≡ (if x then forgotten low (kept_of q r) else kept_of q r)
    at false e = refl
    at true e = subst (λ (k : List ℕ). kept_of k r ≡ forgotten low (kept_of k r)) (sym (same_key q key e)) (sym same)

pub prunes_nothing : (r : Records) (key : List ℕ) (low : ℕ) → kept_of key r ≡ None → (q : List ℕ) → kept_of q r ≡ (if bytes_eq q key then option_map (pruned low) (kept_of q r) else kept_of q r)
prunes_nothing r key low none q = at (bytes_eq q key) refl
  where
    at : (x : Bool) → bytes_eq q key ≡ x → kept_of q r ≡ (if x then option_map (pruned low) (kept_of q r) else kept_of q r)
    at false e = refl
    at true e =
        let here : kept_of q r ≡ None = ap (λ k. kept_of k r) (same_key q key e) ∙ none in
        here ∙ sym (ap (option_map (pruned low)) here)

pub not_idle : (r : Records) (key : List ℕ) (i low : ℕ) → index_of key r ≡ Some i → is_idle low (chain_at i r) ≡ false → forgotten low (kept_of key r) ≡ kept_of key r
not_idle r key i low here busy =
    let is : kept_of key r ≡ Some (chain_at i r) = ap (λ o. kept_at o r) here in
    ap (forgotten low) is ∙ (rw busy refl ∙ sym is)

-- a key is forgotten
pub kept_forgotten : (h : Accesses) (r r2 : Records) (key : List ℕ) (i low : ℕ) → index_of key r ≡ Some i → is_idle low (chain_at i r) ≡ true → index_of key r2 ≡ None → ((q : List ℕ) → bytes_eq q key ≡ false → index_of q r2 ≡ index_of q r) → Changes i r.pool r.chains r2.pool r2.chains → ChainsStandFor h r
    → (q : List ℕ) → kept_of q r2 ≡ (if bytes_eq q key then forgotten low (kept_of q r) else kept_of q r)
kept_forgotten h r r2 key i low here idle gone_ same change s q = at (bytes_eq q key) refl
  where
    at : (x : Bool) → bytes_eq q key ≡ x → kept_of q r2 ≡ (if x then forgotten low (kept_of q r) else kept_of q r)
    at false e = elsewhere h r r2 key q i here e (same q e) change s
    at true e =
        let is : q ≡ key = same_key q key e in
        let after : kept_of q r2 ≡ None = ap (λ o. kept_at o r2) (ap (λ k. index_of k r2) is ∙ gone_) in
        let before : kept_of q r ≡ Some (chain_at i r) = ap (λ o. kept_at o r) (ap (λ k. index_of k r) is ∙ here) in
        after ∙ sym (ap (forgotten low) before ∙ rw idle refl)

-- one chain changes
pub kept_changed : (h : Accesses) (r r2 : Records) (key : List ℕ) (i : ℕ) (f : List Version → List Version) → index_of key r ≡ Some i → ((q : List ℕ) → index_of q r2 ≡ index_of q r) → Changes i r.pool r.chains r2.pool r2.chains → chain_at i r2 ≡ f (chain_at i r) → ChainsStandFor h r
    → (q : List ℕ) → kept_of q r2 ≡ (if bytes_eq q key then option_map f (kept_of q r) else kept_of q r)
kept_changed h r r2 key i f here same change there s q = at (bytes_eq q key) refl
  where
    at : (x : Bool) → bytes_eq q key ≡ x → kept_of q r2 ≡ (if x then option_map f (kept_of q r) else kept_of q r)
    at false e = elsewhere h r r2 key q i here e (same q) change s
    at true e =
        let is : q ≡ key = same_key q key e in
        let was : index_of q r ≡ Some i = ap (λ k. index_of k r) is ∙ here in
        let after : kept_of q r2 ≡ Some (chain_at i r2) = ap (λ o. kept_at o r2) (same q ∙ was) in
        let before : kept_of q r ≡ Some (chain_at i r) = ap (λ o. kept_at o r) was in
        after ∙ (ap Some there ∙ sym (ap (option_map f) before))

-- one chain is as it was
pub same_kept : (r r2 : Records) (key : List ℕ) → ((q : List ℕ) → kept_of q r2 ≡ (if bytes_eq q key then option_map (λ vs. vs) (kept_of q r) else kept_of q r)) → KeepsAll r r2
same_kept r r2 key is q = is q ∙ at (bytes_eq q key) (kept_of q r)
  where
    at : (x : Bool) (o : Option (List Version)) → (if x then option_map (λ vs. vs) o else o) ≡ o
    at true None = refl
    at true (Some vs) = refl
    at false o = refl

module _ (h : Accesses) (r : Records) (key : List ℕ) (i : ℕ) (a b : Chain) (p2 : Pool) (notes : BTreeMap ℕ Notes) (s : StandsFor h r) (here : index_of key r ≡ Some i) (there : chain_in r.chains i ≡ Some a) (leaves : LeavesOthers r.pool a p2 b) (keeps : IsKept r.pool a → IsKept p2 b) where
  pub kept_with : (f : List Version → List Version) → (IsKept r.pool a → versions_of p2 b ≡ f (versions_of r.pool a)) → (q : List ℕ) → kept_of q (with_chain r i p2 b notes) ≡ (if bytes_eq q key then option_map f (kept_of q r) else kept_of q r)
  kept_with f is =
      kept_changed h r (with_chain r i p2 b notes) key i f here (λ q. refl) (changes_at h r key i a b p2 notes s here there leaves keeps)
      (after_at h r key i a b p2 notes s here there leaves keeps ∙ (is (s.chains.held.kept i a there) ∙ ap f (sym (before_at h r key i a b p2 notes s here there leaves keeps)))) s.chains

  -- it is as it was
  pub same_with : (IsKept r.pool a → versions_of p2 b ≡ versions_of r.pool a) → KeepsAll r (with_chain r i p2 b notes)
  same_with is = same_kept r (with_chain r i p2 b notes) key (kept_with (λ vs. vs) is)

-- to prune twice is to prune once
pub pruned_twice : (low : ℕ) (vs : List Version) → pruned low (pruned low vs) ≡ pruned low vs
pruned_twice low [] = refl
pruned_twice low (v ∷ vs) = at (not v.pending && has_base low vs) refl (pruned_twice low vs)
  where
    at : (x : Bool) → (not v.pending && has_base low vs) ≡ x → pruned low (pruned low vs) ≡ pruned low vs → pruned low (if x then pruned low vs else v ∷ pruned low vs) ≡ (if x then pruned low vs else v ∷ pruned low vs)
    at true e rest = rest
    at false e rest =
        let stays : (not v.pending && has_base low (pruned low vs)) ≡ false = ap (λ y. not v.pending && y) (base_pruned low vs) ∙ e in
        rw (stays, rest) refl

pub tidied_twice : (low : ℕ) (kept : Option (List Version)) → tidied low (tidied low kept) ≡ tidied low kept
tidied_twice low None = refl
tidied_twice low (Some vs) = at (is_idle low (pruned low vs)) refl
  where
    at : (x : Bool) → is_idle low (pruned low vs) ≡ x → tidied low (if x then None else Some (pruned low vs)) ≡ (if x then None else Some (pruned low vs))
    at true e = refl
    at false e = rw (pruned_twice low vs, e) refl

or_more : (low : ℕ) (x y : Bool) (kept : Option (List Version)) → tidied_if low (x || y) kept ≡ tidied_if low y (tidied_if low x kept)
or_more low true true kept = sym (tidied_twice low kept)
or_more low true false kept = refl
or_more low false y kept = refl

pub names_both : (q : List ℕ) (xs ys : List Own) → names q (xs ++ ys) ≡ (names q xs || names q ys)
names_both q [] ys = refl
names_both q (o ∷ xs) ys = at (bytes_eq q o.key) (names_both q xs ys)
  where
    at : (x : Bool) → names q (xs ++ ys) ≡ (names q xs || names q ys) → (x || names q (xs ++ ys)) ≡ ((x || names q xs) || names q ys)
    at true rest = refl
    at false rest = rest

-- the keys of one list, and then those of another
pub tidied_both : (low : ℕ) (q : List ℕ) (xs ys : List Own) (kept : Option (List Version)) → tidied_if low (names q (xs ++ ys)) kept ≡ tidied_if low (names q ys) (tidied_if low (names q xs) kept)
tidied_both low q xs ys kept = ap (λ x. tidied_if low x kept) (names_both q xs ys) ∙ or_more low (names q xs) (names q ys) kept

-- one more key
pub tidied_one : (low : ℕ) (q : List ℕ) (done : List Own) (o : Own) (kept before middle after : Option (List Version)) → before ≡ tidied_if low (names q done) kept
    → middle ≡ (if bytes_eq q o.key then option_map (pruned low) before else before) → after ≡ (if bytes_eq q o.key then forgotten low middle else middle)
    → after ≡ tidied_if low (names q (done ++ o ∷ [])) kept
tidied_one low q done o kept before middle after was pruned_ forgot =
    at (bytes_eq q o.key) pruned_ forgot ∙ sym (tidied_both low q done (o ∷ []) kept ∙ (ap (tidied_if low (names q (o ∷ []))) (sym was) ∙ one (bytes_eq q o.key)))
  where
    at : (x : Bool) → middle ≡ (if x then option_map (pruned low) before else before) → after ≡ (if x then forgotten low middle else middle) → after ≡ tidied_if low x before
    at true p f = f ∙ ap (forgotten low) p
    at false p f = f ∙ p

    one : (x : Bool) → tidied_if low (x || false) before ≡ tidied_if low x before
    one true = refl
    one false = refl

-- what was noted for one branch, and then the rest
pub tidied_three : (low : ℕ) (q : List ℕ) (ds rs rest all : List Own) (kept first second : Option (List Version)) → all ≡ ds ++ rs ++ rest → first ≡ tidied_if low (names q ds) kept → second ≡ tidied_if low (names q rs) first
    → tidied_if low (names q rest) second ≡ tidied_if low (names q all) kept
tidied_three low q ds rs rest all kept first second is one two =
    ap (tidied_if low (names q rest)) (two ∙ (ap (tidied_if low (names q rs)) one ∙ sym (tidied_both low q ds rs kept)))
    ∙ (sym (tidied_both low q (ds ++ rs) rest kept) ∙ ap (λ (xs : List Own). tidied_if low (names q xs) kept) (sym is))

-- nothing is due where the first note isn't
pub none_due : (low : ℕ) (es : List (ℕ × Notes)) → ((e : ℕ × Notes) → slice_get es 0 ≡ Some e → is_due low e ≡ false) → (due low es ≡ []) × (es ≡ not_due low es)
none_due low [] first = (refl, refl)
none_due low (e ∷ es) first = let f = first e refl in (rw f refl, rw f refl)

pub is_not_due : (low ts : ℕ) (n : Notes) (es : List (ℕ × Notes)) (e : ℕ × Notes) → slice_get es 0 ≡ Some (ts, n) → slice_get es 0 ≡ Some e → (nat_le ts low ≡ false) ⊎ ((length n.written.items == 0) ≡ false) → is_due low e ≡ false
is_not_due low ts n es e first here why =
    let both : Some (ts, n) ≡ Some e = sym first ∙ here in
    let same : (ts, n) ≡ e = cc both in
    subst (λ (x : ℕ × Notes). is_due low x ≡ false) same (at why)
  where
    none : (x : Bool) → (x && false) ≡ false
    none true = refl
    none false = refl

    at : (nat_le ts low ≡ false) ⊎ ((length n.written.items == 0) ≡ false) → is_due low (ts, n) ≡ false
    at (inl e) = rw e refl
    at (inr e) = rw e (none (nat_le ts low))

pub has_first : (es : List (ℕ × Notes)) (e : ℕ × Notes) → slice_get es 0 ≡ Some e → 0 < length es
has_first [] e here = absurd (cc here)
has_first (x ∷ es) e here = omega arith

pub none_left : (low : ℕ) (es : List (ℕ × Notes)) → due low (not_due low es) ≡ []
none_left low [] = refl
none_left low (e ∷ es) = at (is_due low e) refl (none_left low es)
  where
    at : (x : Bool) → is_due low e ≡ x → due low (not_due low es) ≡ [] → due low (if x then not_due low es else e ∷ es) ≡ []
    at true d rest = rest
    at false d rest = rw d refl

-- where the code leaves every chain as it was
pub keeps_alike : (r r2 : Records) → ((q : List ℕ) → index_of q r2 ≡ index_of q r) → SameValues r.chains r2.chains → LeavesOthersAt r.pool [] r2.pool [] → IsHeld r.pool r.chains → KeepsAll r r2
keeps_alike r r2 indices same leaves held q = ap (λ o. kept_at o r2) (indices q) ∙ at (index_of q r)
  where
    at : (o : Option ℕ) → kept_at o r2 ≡ kept_at o r
    at None = refl
    at (Some i) = ap Some (shown_grown r.pool r2.pool r.chains r2.chains i same leaves held)

-- a key is added
pub kept_added : (h : Accesses) (r r2 : Records) (key : List ℕ) (new : ℕ) → index_of key r ≡ None → IsAdded r r2 key new → ChainsStandFor h r
    → (q : List ℕ) → kept_of q r2 ≡ (if bytes_eq q key then Some fresh else kept_of q r)
kept_added h r r2 key new none added s q = at (bytes_eq q key) refl
  where
    other : (j : ℕ) → index_of q r ≡ Some j → j ≢ new
    other j e same = absurd (cc (s.within q j e, ap (λ k. is_some (chain_in r.chains k)) same, ap is_some added.vacant))

    stays : (o : Option ℕ) → index_of q r ≡ o → kept_at o r2 ≡ kept_at o r
    stays None e = refl
    stays (Some j) e = ap Some (shown_elsewhere new j r.pool r2.pool r.chains r2.chains added.change s.held (other j e))

    at : (x : Bool) → bytes_eq q key ≡ x → kept_of q r2 ≡ (if x then Some fresh else kept_of q r)
    at true e =
        let here : index_of q r2 ≡ Some new = added.found q ∙ rw e refl in
        ap (λ o. kept_at o r2) here ∙ ap Some added.at_new
    at false e =
        let here : index_of q r2 ≡ index_of q r = added.found q ∙ rw e refl in
        ap (λ o. kept_at o r2) here ∙ stays (index_of q r) refl

-- a key that was made and is forgotten again
pub unmade : (r made used left : Records) (key : List ℕ) → kept_of key r ≡ None → ((q : List ℕ) → kept_of q made ≡ (if bytes_eq q key then Some fresh else kept_of q r)) → KeepsAll made used → ((q : List ℕ) → kept_of q left ≡ (if bytes_eq q key then forgotten 0 (kept_of q used) else kept_of q used)) → KeepsAll r left
unmade r made used left key none begun same over q = over q ∙ (rw same (at (bytes_eq q key) refl (begun q)))
  where
    at : (x : Bool) → bytes_eq q key ≡ x → kept_of q made ≡ (if x then Some fresh else kept_of q r) → (if x then forgotten 0 (kept_of q made) else kept_of q made) ≡ kept_of q r
    at true e b = ap (forgotten 0) b ∙ sym (ap (λ k. kept_of k r) (same_key q key e) ∙ none)
    at false e b = b

pub absent_kept : (r : Records) (key : List ℕ) → index_of key r ≡ None → kept_of key r ≡ None
absent_kept r key none = ap (λ o. kept_at o r) none

-- a key that nobody wrote is read
pub fresh_shows : (t : ℕ) → shows t fresh ≡ absent
fresh_shows t = at (nat_le 0 t)
  where
    at : (x : Bool) → (if x && nat_le 0 0 then absent else absent) ≡ absent
    at true = refl
    at false = refl

pub reads_unwritten : (h : Accesses) (r : Records) (key : List ℕ) (t : ℕ) (got : Got) → StandsFor h r → index_of key r ≡ None → h.low ≤ t → has_read got ≡ false → got ≡ answer_of t (seen key t h.writes) → ⊥
reads_unwritten h r key t got s none le unread answer =
    let here : ChainStandsFor key h.low h.writes h.reads fresh = rw none at (s.chains.chains key) in
    let shown : absent ≡ seen key t h.writes = sym (fresh_shows t) ∙ here.seen nobody t le in
    let is : got ≡ answer_of t absent = answer ∙ ap (answer_of t) (sym shown) in
    absurd (cc (unread, ap has_read is))
