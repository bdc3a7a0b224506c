-- Where each key's chain stands after a key is added, and after one chain is changed.
use Rattle.std.proofs.Common.{◌≡◌, ℕ, ◌≤◌, Bool, true, false, List, [], ◌∷◌, length, Option, None, Some, refl, sym, ap, ◌∙◌, subst, inl, inr, ◌⊎◌, arith}
use Rattle.std.specs.Prelude.{if◌then◌else◌, bytes_eq, ◌==◌, IsSome, is_some, ◌≢◌, Vec}
use Rattle.std.specs.List.{AllByRecursion as Each}
use Rattle.std.specs.BTreeMap.{insert_entry, is_at}
use Rattle.std.specs.Map.{lookup}
use Rattle.std.specs.Cmp.Lexicographic.{slice_cmp}
use Rattle.std.specs.Ordering.{nat_cmp, is_eq}
use Rattle.std.specs.declared.cmp.Ordering.{Ordering}
use Rattle.std.specs.declared.cmp.Ordering.TheVariants.{Less, Equal, Greater}
use Rattle.std.proofs.lemmas.Map.Text.{is_eq-slice_cmp}
use Rattle.std.proofs.lemmas.Bool.Decides.{nat_tests}
use Rattle.std.proofs.lemmas.Slice.Eq.{bytes_eq-Decides}
use Rattle.slab.specs.Slab.{get as chain_in, SameValues}
use Rattle.mv_chain.specs.Pool.{LeavesOthersAt}
use Rattle.mv_chain.specs.declared.version.Version.{Version}
use Rattle.mv_chain.specs.Accesses.{Written, Answered, Seen, nobody, seen, is_busy, has_undecided, read_by}
use Rattle.mv_chain.specs.Chain.{fresh, shows, StandsFor as ChainStandsFor}
use Rattle.mv_rules.specs.declared.records.Records.{Records}
use Rattle.mv_rules.specs.declared.own.Own.{Own}
use Rattle.mv_rules.specs.declared.answers.Got.{Got}
use Rattle.mv_rules.specs.declared.answers.Got.TheVariants.{Value, Absent, Busy, Memory}
use Rattle.mv_rules.specs.Accesses.{Accesses, reads_after}
use Rattle.mv_rules.specs.Held.{Changes}
use Rattle.mv_rules.specs.Own.{is_listed}
use Rattle.mv_rules.specs.Records.{StandsFor, ChainsStandFor, index_of, chain_at, chain_of_index, ListsStandFor, own_of}
use Rattle.mv_rules.proofs.Frames.{shown_elsewhere, held_changed, shown_grown, held_grown}
use Rattle.mv_rules.proofs.Tests.{same_key}
use Rattle.mv_rules.proofs.Ties.{bytes_eq_swapped}

abbrev pub found_at : {Y : Type 0} → List ℕ → List (Vec ℕ Y × ℕ) → Option ℕ
found_at key es = lookup (is_at (λ k. slice_cmp nat_cmp key k.items)) es

-- two keys that compare `Equal` are the same
pub by_compare : (a b : List ℕ) (o : Ordering) → slice_cmp nat_cmp a b ≡ o → bytes_eq a b ≡ is_eq o
by_compare a b o e = sym (is_eq-slice_cmp a b) ∙ ap is_eq e

pub found_inserted : {Y : Type 0} (q : List ℕ) (k : Vec ℕ Y) (v : ℕ) (es : List (Vec ℕ Y × ℕ)) → found_at q (insert_entry (λ x y. slice_cmp nat_cmp x.items y.items) es k v) ≡ (if bytes_eq q k.items then Some v else found_at q es)
found_inserted q k v [] = rw is_eq-slice_cmp refl
found_inserted q k v (e ∷ es) = at (slice_cmp nat_cmp k.items e.0.items) refl (found_inserted q k v es)
  where
    at : (o : Ordering) → slice_cmp nat_cmp k.items e.0.items ≡ o → found_at q (insert_entry (λ x y. slice_cmp nat_cmp x.items y.items) es k v) ≡ (if bytes_eq q k.items then Some v else found_at q es) → found_at q (insert_entry (λ x y. slice_cmp nat_cmp x.items y.items) (e ∷ es) k v) ≡ (if bytes_eq q k.items then Some v else found_at q (e ∷ es))
    at Less o rest = rw (o, is_eq-slice_cmp) refl
    at Equal o rest =
        let same : k.items ≡ e.0.items = same_key k.items e.0.items (by_compare k.items e.0.items Equal o) in
        rw (o, same) (simp is_eq-slice_cmp (grind arith))
    at Greater o rest =
        let differ : bytes_eq k.items e.0.items ≡ false = by_compare k.items e.0.items Greater o in
        rw o (simp (is_eq-slice_cmp, rest) (apart (bytes_eq q e.0.items) (bytes_eq q k.items) refl refl differ))
      where
        apart : (x y : Bool) → bytes_eq q e.0.items ≡ x → bytes_eq q k.items ≡ y → bytes_eq k.items e.0.items ≡ false → (if x then Some e.1 else if y then Some v else found_at q es) ≡ (if y then Some v else if x then Some e.1 else found_at q es)
        apart true true a b d = absurd (both (same_key q e.0.items a) (same_key q k.items b))
          where
            both : q ≡ e.0.items → q ≡ k.items → ⊥
            both x y = let t : bytes_eq k.items e.0.items ≡ true = (bytes_eq-Decides k.items e.0.items).1 (sym y ∙ x) in grind (arith, t, d)
        apart true false a b d = refl
        apart false true a b d = refl
        apart false false a b d = refl

-- a key that is added has a fresh chain
pub record IsAdded (r r2 : Records) (key : List ℕ) (new : ℕ) : Type 0 where
  pub vacant : chain_in r.chains new ≡ None
  pub change : Changes new r.pool r.chains r2.pool r2.chains
  pub stands : IsSome (chain_in r2.chains new)
  pub at_new : chain_at new r2 ≡ fresh
  pub found : (q : List ℕ) → index_of q r2 ≡ (if bytes_eq q key then Some new else index_of q r)

pub stands_added : (h : Accesses) (r r2 : Records) (key : List ℕ) (new : ℕ) → index_of key r ≡ None → IsAdded r r2 key new → ChainsStandFor h r → ChainsStandFor h r2
stands_added h r r2 key new none added s =
    record {
      chains = λ q. chain q (bytes_eq q key) refl;
      within = λ q i e. inside q i e (bytes_eq q key) refl;
      apart = λ a b i e f. alone a b i e f (bytes_eq a key) refl (bytes_eq b key) refl;
      held = held_changed new r.pool r2.pool r.chains r2.chains added.change s.held;
    }
  where
    other : (q : List ℕ) (i : ℕ) → index_of q r ≡ Some i → i ≢ new
    other q i e same = absurd (cc (s.within q i e, ap (λ k. is_some (chain_in r.chains k)) same, ap is_some added.vacant))

    old_of : (q : List ℕ) (o : Option ℕ) → index_of q r ≡ o → chain_of_index o r2 ≡ chain_of_index o r
    old_of q None e = refl
    old_of q (Some i) e = shown_elsewhere new i r.pool r2.pool r.chains r2.chains added.change s.held (other q i e)

    chain : (q : List ℕ) (x : Bool) → bytes_eq q key ≡ x → ChainStandsFor q h.low h.writes h.reads (chain_of_index (index_of q r2) r2)
    chain q true e =
        let here : index_of q r2 ≡ Some new = added.found q ∙ rw e refl in
        let was : index_of q r ≡ None = ap (λ k. index_of k r) (same_key q key e) ∙ none in
        rw (here, added.at_new) (rw was at (s.chains q))
    chain q false e =
        let here : index_of q r2 ≡ index_of q r = added.found q ∙ rw e refl in
        rw (here, old_of q (index_of q r) refl) (s.chains q)

    inside : (q : List ℕ) (i : ℕ) → index_of q r2 ≡ Some i → (x : Bool) → bytes_eq q key ≡ x → IsSome (chain_in r2.chains i)
    inside q i e true f = let here : Some new ≡ Some i = sym (added.found q ∙ rw f refl) ∙ e in let n : new ≡ i = cc in subst (λ (k : ℕ). IsSome (chain_in r2.chains k)) n added.stands
    inside q i e false f = let was : index_of q r ≡ Some i = sym (added.found q ∙ rw f refl) ∙ e in ap is_some (added.change.others i (other q i was)) ∙ s.within q i was

    alone : (a b : List ℕ) (i : ℕ) → index_of a r2 ≡ Some i → index_of b r2 ≡ Some i → (x : Bool) → bytes_eq a key ≡ x → (y : Bool) → bytes_eq b key ≡ y → a ≡ b
    alone a b i e f true p true q = same_key a key p ∙ sym (same_key b key q)
    alone a b i e f false p false q = s.apart a b i (sym (added.found a ∙ rw p refl) ∙ e) (sym (added.found b ∙ rw q refl) ∙ f)
    alone a b i e f true p false q =
        let here : Some new ≡ Some i = sym (added.found a ∙ rw p refl) ∙ e in
        let n : new ≡ i = cc in
        absurd (other b i (sym (added.found b ∙ rw q refl) ∙ f) (sym n))
    alone a b i e f false p true q =
        let here : Some new ≡ Some i = sym (added.found b ∙ rw q refl) ∙ f in
        let n : new ≡ i = cc in
        absurd (other a i (sym (added.found a ∙ rw p refl) ∙ e) (sym n))

-- one chain changes, and the history changes for its key alone
pub stands_at : (h h2 : Accesses) (r r2 : Records) (key : List ℕ) (i : ℕ) → index_of key r ≡ Some i → ((q : List ℕ) → index_of q r2 ≡ index_of q r) → Changes i r.pool r.chains r2.pool r2.chains → IsSome (chain_in r2.chains i) → ChainStandsFor key h2.low h2.writes h2.reads (chain_at i r2) → ((q : List ℕ) (xs : List Version) → bytes_eq q key ≡ false → ChainStandsFor q h.low h.writes h.reads xs → ChainStandsFor q h2.low h2.writes h2.reads xs) → ChainsStandFor h r → ChainsStandFor h2 r2
stands_at h h2 r r2 key i here same change stands own others s =
    record {
      chains = λ q. chain q (bytes_eq q key) refl;
      within = λ q j e. inside q j (sym (same q) ∙ e) (j == i) refl;
      apart = λ a b j e f. s.apart a b j (sym (same a) ∙ e) (sym (same b) ∙ f);
      held = held_changed i r.pool r2.pool r.chains r2.chains change s.held;
    }
  where
    inside : (q : List ℕ) (j : ℕ) → index_of q r ≡ Some j → (x : Bool) → (j == i) ≡ x → IsSome (chain_in r2.chains j)
    inside q j e true f = let n : i ≡ j = grind (arith, nat_tests, f) in subst (λ (k : ℕ). IsSome (chain_in r2.chains k)) n stands
    inside q j e false f = ap is_some (change.others j (λ n. grind (arith, nat_tests, f, n))) ∙ s.within q j e

    other_of : (q : List ℕ) (o : Option ℕ) → index_of q r ≡ o → bytes_eq q key ≡ false → chain_of_index o r2 ≡ chain_of_index o r
    other_of q None e d = refl
    other_of q (Some j) e d = shown_elsewhere i j r.pool r2.pool r.chains r2.chains change s.held not_same
      where
        not_same : j ≡ i → ⊥
        not_same n = let k : q ≡ key = s.apart q key i (e ∙ ap Some n) here in let t : bytes_eq q key ≡ true = (bytes_eq-Decides q key).1 k in grind (arith, t, d)

    chain : (q : List ℕ) (x : Bool) → bytes_eq q key ≡ x → ChainStandsFor q h2.low h2.writes h2.reads (chain_of_index (index_of q r2) r2)
    chain q true e =
        let k : q ≡ key = same_key q key e in
        rw (k, same key, here) own
    chain q false e = rw (same q, other_of q (index_of q r) refl e) (others q _ e (s.chains q))

-- a read of another key is nothing to this one
pub read_elsewhere : (key q : List ℕ) (low t from : ℕ) (ws : List Written) (rs : List Answered) (vs : List Version) → bytes_eq q key ≡ false → ChainStandsFor q low ws rs vs → ChainStandsFor q low ws (read_by t key from ∷ rs) vs
read_elsewhere key q low t from ws rs vs d s =
    let back : bytes_eq key q ≡ false = bytes_eq_swapped key q ∙ d in
    record { seen = s.seen; own = s.own; late = λ u le. rw (back, s.late u le) refl; based = s.based }

pub reads_elsewhere : (res : Got) (key q : List ℕ) (low t from : ℕ) (ws : List Written) (rs : List Answered) (vs : List Version) → bytes_eq q key ≡ false → ChainStandsFor q low ws rs vs → ChainStandsFor q low ws (reads_after res t key from rs) vs
reads_elsewhere (Value v) key q low t from ws rs vs d s = read_elsewhere key q low t from ws rs vs d s
reads_elsewhere Absent key q low t from ws rs vs d s = read_elsewhere key q low t from ws rs vs d s
reads_elsewhere (Busy by) key q low t from ws rs vs d s = s
reads_elsewhere Memory key q low t from ws rs vs d s = s

-- a get at the chain of its key
pub stands_get : (h : Accesses) (r r2 : Records) (key : List ℕ) (i ts : ℕ) (res : Got) → h.low ≤ ts → ChainsStandFor h r → index_of key r ≡ Some i → ((q : List ℕ) → index_of q r2 ≡ index_of q r) → Changes i r.pool r.chains r2.pool r2.chains → IsSome (chain_in r2.chains i)
    → ((k : List ℕ) (low : ℕ) (ws : List Written) (rs : List Answered) → ChainStandsFor k low ws rs (chain_at i r) → low ≤ ts → ChainStandsFor k low ws (reads_after res ts k (shows ts (chain_at i r)).from rs) (chain_at i r2))
    → ChainsStandFor (record h { reads = reads_after res ts key (seen key ts h.writes).from h.reads }) r2
stands_get h r r2 key i ts res le s here same change stands reads =
    let own : ChainStandsFor key h.low h.writes h.reads (chain_at i r) = rw here at (s.chains key) in
    let after = reads key h.low h.writes h.reads own le in
    let from : shows ts (chain_at i r) ≡ seen key ts h.writes = own.seen nobody ts le in
    stands_at h _ r r2 key i here same change stands (rw from at after) (λ q xs d t. reads_elsewhere res key q h.low ts _ h.writes h.reads xs d t) s

-- an index that no key has is listed nowhere
unlisted : (r : Records) (i : ℕ) (own : List Own) → ((key : List ℕ) → index_of key r ≡ Some i → ⊥) → Each (λ o. index_of o.key r ≡ Some o.index) own → is_listed i own ≡ false
unlisted r i [] none named = refl
unlisted r i (o ∷ own) none named =
    let apart : (i == o.index) ≡ false = differ (i == o.index) refl in
    rw apart (unlisted r i own none named.1)
  where
    differ : (x : Bool) → (i == o.index) ≡ x → (i == o.index) ≡ false
    differ false e = e
    differ true e = let same : o.index ≡ i = grind (arith, nat_tests, e) in absurd (none o.key (named.0 ∙ ap Some same))

-- the lists, where a key is added
pub lists_added : (h : Accesses) (r r2 : Records) (key : List ℕ) (new : ℕ) → index_of key r ≡ None → IsAdded r r2 key new → ((t : ℕ) → own_of t r2 ≡ own_of t r) → ChainsStandFor h r → ListsStandFor h r → ListsStandFor h r2
lists_added h r r2 key new none added same s l =
    record {
      listed = λ t q i e. listed t q i e (bytes_eq q key) refl;
      unindexed = λ t q e. unindexed t q e (bytes_eq q key) refl;
      named = λ t. rw same (named (own_of t r) (l.named t));
      count = λ t. ap length (same t) ∙ l.count t;
    }
  where
    beyond : (t : ℕ) → is_listed new (own_of t r) ≡ false
    beyond t = unlisted r new (own_of t r) (λ q e. absurd (cc (s.within q new e, ap is_some added.vacant))) (l.named t)

    listed : (t : ℕ) (q : List ℕ) (i : ℕ) → index_of q r2 ≡ Some i → (x : Bool) → bytes_eq q key ≡ x → is_listed i (own_of t r2) ≡ has_undecided q t h.writes
    listed t q i e true f =
        let here : Some new ≡ Some i = sym (added.found q ∙ rw f refl) ∙ e in
        let n : new ≡ i = cc in
        let none_undecided : has_undecided q t h.writes ≡ false = l.unindexed t q (ap (λ k. index_of k r) (same_key q key f) ∙ none) in
        rw (same t, ← n) (beyond t ∙ sym none_undecided)
    listed t q i e false f = ap (is_listed i) (same t) ∙ l.listed t q i (sym (added.found q ∙ rw f refl) ∙ e)

    unindexed : (t : ℕ) (q : List ℕ) → index_of q r2 ≡ None → (x : Bool) → bytes_eq q key ≡ x → has_undecided q t h.writes ≡ false
    unindexed t q e true f = let here : Some new ≡ None = sym (added.found q ∙ rw f refl) ∙ e in absurd (cc)
    unindexed t q e false f = l.unindexed t q (sym (added.found q ∙ rw f refl) ∙ e)

    named : (own : List Own) → Each (λ o. index_of o.key r ≡ Some o.index) own → Each (λ o. index_of o.key r2 ≡ Some o.index) own
    named [] n = tt
    named (o ∷ own) n = (added.found o.key ∙ rw (apart (bytes_eq o.key key) refl) n.0, named own n.1)
      where
        apart : (x : Bool) → bytes_eq o.key key ≡ x → bytes_eq o.key key ≡ false
        apart false f = f
        apart true f = let here : None ≡ Some o.index = sym (ap (λ x. index_of x r) (same_key o.key key f) ∙ none) ∙ n.0 in absurd (cc)

pub named_moved : (r r2 : Records) (own : List Own) → ((q : List ℕ) → index_of q r2 ≡ index_of q r) → Each (λ o. index_of o.key r ≡ Some o.index) own → Each (λ o. index_of o.key r2 ≡ Some o.index) own
named_moved r r2 [] indices n = tt
named_moved r r2 (o ∷ own) indices n = (indices o.key ∙ n.0, named_moved r r2 own indices n.1)

-- where neither lists nor indices change
pub lists_same : (h h2 : Accesses) (r r2 : Records) → h2.writes ≡ h.writes → ((q : List ℕ) → index_of q r2 ≡ index_of q r) → ((t : ℕ) → own_of t r2 ≡ own_of t r) → ListsStandFor h r → ListsStandFor h2 r2
lists_same h h2 r r2 writes indices lists l =
    record {
      listed = λ t q i e. rw (lists t, writes) (l.listed t q i (sym (indices q) ∙ e));
      unindexed = λ t q e. rw writes (l.unindexed t q (sym (indices q) ∙ e));
      named = λ t. rw lists (named_moved r r2 (own_of t r) indices (l.named t));
      count = λ t. rw (lists t, writes) (l.count t);
    }

-- where the code leaves everything as it was
pub stands_alike : (h : Accesses) (r r2 : Records) → ((q : List ℕ) → index_of q r2 ≡ index_of q r) → SameValues r.chains r2.chains → LeavesOthersAt r.pool [] r2.pool [] → ((t : ℕ) → own_of t r2 ≡ own_of t r) → StandsFor h r → StandsFor h r2
stands_alike h r r2 indices same leaves lists s =
    record {
      chains = record {
        chains = λ q. rw (indices q, there (index_of q r)) (s.chains.chains q);
        within = λ q i e. ap is_some (same i) ∙ s.chains.within q i (sym (indices q) ∙ e);
        apart = λ a b i e f. s.chains.apart a b i (sym (indices a) ∙ e) (sym (indices b) ∙ f);
        held = held_grown r.pool r2.pool r.chains r2.chains same leaves s.chains.held;
      };
      lists = lists_same h h r r2 refl indices lists s.lists;
    }
  where
    there : (o : Option ℕ) → chain_of_index o r2 ≡ chain_of_index o r
    there None = refl
    there (Some i) = shown_grown r.pool r2.pool r.chains r2.chains i same leaves s.chains.held

-- a read that may be answered
pub answered_free : (t from : ℕ) (pending : Bool) (s : Seen) → from ≡ s.from → pending ≡ s.pending → ((pending ≡ true) × (from ≡ t)) ⊎ (pending ≡ false) → is_busy t s ≡ false
answered_free t from pending s f p (inl own) = let same : s.from ≡ t = sym f ∙ own.1 in grind (arith, nat_tests, same)
answered_free t from pending s f p (inr none) = let q : s.pending ≡ false = sym p ∙ none in rw q refl
