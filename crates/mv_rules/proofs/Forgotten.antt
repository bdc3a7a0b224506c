-- What the records stand for once an idle key is forgotten.
use Rattle.std.proofs.Common.{◌≡◌, ◌≢◌, ℕ, ◌≤◌, Bool, true, false, List, [], ◌∷◌, length, Option, Some, None, refl, sym, ap, ◌∙◌, arith}
use Rattle.std.specs.Prelude.{◌==◌, bytes_eq, is_some, Vec}
use Rattle.std.specs.List.{AllByRecursion as Each}
use Rattle.std.specs.BTreeMap.{is_at, insert_entry}
use Rattle.std.specs.Map.{remove_entry}
use Rattle.std.specs.Cmp.Lexicographic.{slice_cmp}
use Rattle.std.specs.Ordering.{nat_cmp, is_eq}
use Rattle.std.proofs.lemmas.Map.Text.{is_eq-slice_cmp}
use Rattle.std.proofs.lemmas.Bool.Decides.{nat_tests}
use Rattle.mv_chain.specs.declared.version.Version.{Version}
use Rattle.mv_chain.specs.Accesses.{Written, Answered, nobody, seen_of, has_undecided}
use Rattle.mv_chain.specs.Chain.{base, fresh, as_written, shows, shows_without, is_marked, StandsFor as ChainStandsFor}
use Rattle.mv_chain.specs.Idle.{is_unused, is_idle}
use Rattle.mv_chain.proofs.Seen.{undecided_seen}
use Rattle.xa_model.proofs.Rows.{nothing}
use Rattle.mv_rules.specs.declared.records.Records.{Records}
use Rattle.mv_rules.specs.declared.own.Own.{Own}
use Rattle.mv_rules.specs.Accesses.{Accesses, IsWholeAt}
use Rattle.mv_rules.specs.Held.{Changes}
use Rattle.mv_rules.specs.Own.{is_listed}
use Rattle.mv_rules.specs.Records.{StandsFor, index_of, chain_at, chain_of_index, own_of}
use Rattle.mv_rules.proofs.Frames.{shown_elsewhere, held_changed}
use Rattle.mv_rules.proofs.Indices.{found_at, found_inserted}
use Rattle.mv_rules.proofs.Tests.{same_key, keys_differ}

-- what an idle chain shows

pub record IsUnused (low : ℕ) (v : Version) : Type 0 where
  pub timestamp : v.timestamp ≡ 0
  pub value : v.value ≡ None
  pub pending : v.pending ≡ false
  pub mark : v.mark ≤ low

unused : (low : ℕ) (v : Version) → is_unused low v ≡ true → IsUnused low v
unused low v e = record {
  timestamp = grind (arith, nat_tests, e);
  value = nothing v.value (grind (arith, e));
  pending = grind (arith, e);
  mark = grind (arith, nat_tests, e);
}

as_base : (low : ℕ) (v : Version) → IsUnused low v → as_written v ≡ as_written base
as_base low v u = rw (u.timestamp, u.value, u.pending) refl

shows_as_fresh : (low : ℕ) (vs : List Version) → is_idle low vs ≡ true → (gone : ℕ → Bool) (t : ℕ) → shows_without gone t vs ≡ shows_without gone t fresh
shows_as_fresh low [] e gone t = absurd (cc e)
shows_as_fresh low (v ∷ []) e gone t = ap (λ (w : Written). seen_of (λ k. true) gone t (w ∷ [])) (as_base low v (unused low v e))
shows_as_fresh low (v ∷ w ∷ vs) e gone t = absurd (cc e)

marked_as_fresh : (low : ℕ) (vs : List Version) → is_idle low vs ≡ true → (t : ℕ) → low ≤ t → is_marked t vs ≡ is_marked t fresh
marked_as_fresh low [] e t le = absurd (cc e)
marked_as_fresh low (v ∷ []) e t le = let u = unused low v e in grind (arith, nat_tests, u.mark, le)
marked_as_fresh low (v ∷ w ∷ vs) e t le = absurd (cc e)

pub idle_fresh : (key : List ℕ) (low before : ℕ) (ws : List Written) (rs : List Answered) (vs : List Version) → is_idle low vs ≡ true → low ≤ before → ChainStandsFor key before ws rs vs → ChainStandsFor key before ws rs fresh
idle_fresh key low before ws rs vs e le s = record {
  seen = λ gone t up. sym (shows_as_fresh low vs e gone t) ∙ s.seen gone t up;
  own = λ gone t g o. sym (shows_as_fresh low vs e gone t) ∙ s.own gone t g o;
  late = λ t up. sym (marked_as_fresh low vs e t (omega (arith, le, up))) ∙ s.late t up;
  based = grind (arith, nat_tests);
}

fresh_decided : (t : ℕ) → (shows t fresh).pending ≡ false
fresh_decided t = grind (arith, nat_tests)

-- no branch has an undecided write of an idle key
none_undecided : (key : List ℕ) (low before : ℕ) (ws : List Written) (rs : List Answered) (vs : List Version) → is_idle low vs ≡ true → IsWholeAt key ws → ChainStandsFor key before ws rs vs → (t : ℕ) → has_undecided key t ws ≡ false
none_undecided key low before ws rs vs e whole s t = at (has_undecided key t ws) refl
  where
    at : (x : Bool) → has_undecided key t ws ≡ x → has_undecided key t ws ≡ false
    at false o = o
    at true o =
        let pending = (undecided_seen key t ws (whole t o) o).1 in
        let same = s.own nobody t refl o in
        let not_pending : (shows t fresh).pending ≡ true = ap (λ r. r.pending) (sym (shows_as_fresh low vs e nobody t) ∙ same) ∙ pending in
        absurd (cc (fresh_decided t, not_pending))

-- a key's index once a key is taken out
pub found_removed : {Y : Type 0} (q k : List ℕ) (es : List (Vec ℕ Y × ℕ)) → bytes_eq q k ≡ false → found_at q (remove_entry (is_at (λ x. slice_cmp nat_cmp k x.items)) es) ≡ found_at q es
found_removed q k [] d = refl
found_removed q k (e ∷ es) d = at (is_eq (slice_cmp nat_cmp k e.0.items)) refl (found_removed q k es d)
  where
    at : (x : Bool) → is_eq (slice_cmp nat_cmp k e.0.items) ≡ x → found_at q (remove_entry (is_at (λ x. slice_cmp nat_cmp k x.items)) es) ≡ found_at q es → found_at q (remove_entry (is_at (λ x. slice_cmp nat_cmp k x.items)) (e ∷ es)) ≡ found_at q (e ∷ es)
    at true f rest =
        let same : k ≡ e.0.items = same_key k e.0.items (sym (is_eq-slice_cmp k e.0.items) ∙ f) in
        let apart : is_eq (slice_cmp nat_cmp q e.0.items) ≡ false = is_eq-slice_cmp q e.0.items ∙ (ap (bytes_eq q) (sym same) ∙ d) in
        rw (f, apart) refl
    at false f rest = rw (f, rest) refl

-- a key that was put in and taken out again
pub found_back : {Y : Type 0} (q key : List ℕ) (k : Vec ℕ Y) (v : ℕ) (es es2 es3 : List (Vec ℕ Y × ℕ)) → es2 ≡ insert_entry (λ x y. slice_cmp nat_cmp x.items y.items) es k v → es3 ≡ remove_entry (is_at (λ x. slice_cmp nat_cmp key x.items)) es2
    → k.items ≡ key → found_at key es ≡ None → found_at key es3 ≡ None → found_at q es3 ≡ found_at q es
found_back q key k v es es2 es3 put taken same none gone_ = at (bytes_eq q key) refl
  where
    at : (x : Bool) → bytes_eq q key ≡ x → found_at q es3 ≡ found_at q es
    at true e = let is : q ≡ key = same_key q key e in ap (λ x. found_at x es3) is ∙ (gone_ ∙ (sym none ∙ ap (λ x. found_at x es) (sym is)))
    at false e =
        let other : bytes_eq q k.items ≡ false = ap (bytes_eq q) same ∙ e in
        ap (found_at q) taken ∙ (found_removed q key es2 e ∙ (ap (found_at q) put ∙ (found_inserted q k v es ∙ rw other refl)))

pub stands_forgotten : (h : Accesses) (r r2 : Records) (key : List ℕ) (i low : ℕ) → index_of key r ≡ Some i → is_idle low (chain_at i r) ≡ true → low ≤ h.low → IsWholeAt key h.writes
    → index_of key r2 ≡ None → ((q : List ℕ) → bytes_eq q key ≡ false → index_of q r2 ≡ index_of q r) → Changes i r.pool r.chains r2.pool r2.chains → ((t : ℕ) → own_of t r2 ≡ own_of t r) → StandsFor h r → StandsFor h r2
stands_forgotten h r r2 key i low here idle le whole gone_ same change lists s =
    record {
      chains = record {
        chains = λ q. chain q (bytes_eq q key) refl;
        within = λ q j e. let d = other q j e (bytes_eq q key) refl in ap is_some (change.others j d.1) ∙ s.chains.within q j d.0;
        apart = λ a b j e f. s.chains.apart a b j (other a j e (bytes_eq a key) refl).0 (other b j f (bytes_eq b key) refl).0;
        held = held_changed i r.pool r2.pool r.chains r2.chains change s.chains.held;
      };
      lists = record {
        listed = λ t q j e. ap (is_listed j) (lists t) ∙ s.lists.listed t q j (other q j e (bytes_eq q key) refl).0;
        unindexed = λ t q e. unindexed t q e (bytes_eq q key) refl;
        named = λ t. rw lists (named (own_of t r) (s.lists.listed t key i here ∙ closed t) (s.lists.named t));
        count = λ t. ap length (lists t) ∙ s.lists.count t;
      };
    }
  where
    own_chain : ChainStandsFor key h.low h.writes h.reads (chain_at i r)
    own_chain = rw here at (s.chains.chains key)

    closed : (t : ℕ) → has_undecided key t h.writes ≡ false
    closed t = none_undecided key low h.low h.writes h.reads (chain_at i r) idle whole own_chain t

    -- what is still placed is another key, at another index
    other : (q : List ℕ) (j : ℕ) → index_of q r2 ≡ Some j → (x : Bool) → bytes_eq q key ≡ x → (index_of q r ≡ Some j) × (j ≢ i)
    other q j e true f = let none : index_of q r2 ≡ None = ap (λ k. index_of k r2) (same_key q key f) ∙ gone_ in let bad : None ≡ Some j = sym none ∙ e in absurd (cc bad)
    other q j e false f =
        let was : index_of q r ≡ Some j = sym (same q f) ∙ e in
        (was, λ n. keys_differ q key f (s.chains.apart q key i (was ∙ ap Some n) here))

    index : (q : List ℕ) (o : Option ℕ) → index_of q r ≡ o → bytes_eq q key ≡ false → chain_of_index o r2 ≡ chain_of_index o r
    index q None e d = refl
    index q (Some j) e d = shown_elsewhere i j r.pool r2.pool r.chains r2.chains change s.chains.held (λ n. keys_differ q key d (s.chains.apart q key i (e ∙ ap Some n) here))

    chain : (q : List ℕ) (x : Bool) → bytes_eq q key ≡ x → ChainStandsFor q h.low h.writes h.reads (chain_of_index (index_of q r2) r2)
    chain q true e = rw (same_key q key e, gone_) (idle_fresh key low h.low h.writes h.reads (chain_at i r) idle le own_chain)
    chain q false e = rw (same q e, index q (index_of q r) refl e) (s.chains.chains q)

    unindexed : (t : ℕ) (q : List ℕ) → index_of q r2 ≡ None → (x : Bool) → bytes_eq q key ≡ x → has_undecided q t h.writes ≡ false
    unindexed t q e true f = ap (λ k. has_undecided k t h.writes) (same_key q key f) ∙ closed t
    unindexed t q e false f = s.lists.unindexed t q (sym (same q f) ∙ e)

    named : (own : List Own) → is_listed i own ≡ false → Each (λ o. index_of o.key r ≡ Some o.index) own → Each (λ o. index_of o.key r2 ≡ Some o.index) own
    named [] l n = tt
    named (o ∷ own) l n = (one (bytes_eq o.key key) refl, named own (grind (arith, l)) n.1)
      where
        one : (x : Bool) → bytes_eq o.key key ≡ x → index_of o.key r2 ≡ Some o.index
        one false e = same o.key e ∙ n.0
        one true e =
            let here_too : Some i ≡ Some o.index = sym here ∙ (ap (λ k. index_of k r) (sym (same_key o.key key e)) ∙ n.0) in
            let index_is : i ≡ o.index = cc here_too in
            let hit : (i == o.index) ≡ true = grind (arith, nat_tests, index_is) in
            absurd (grind (arith, l, hit))
