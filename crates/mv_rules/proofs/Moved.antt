-- Histories that say the same, in whatever order their writes stand.
use Rattle.std.proofs.Common.{◌≡◌, ◌≤◌, ℕ, Bool, true, false, ◌&&◌, ◌||◌, ◌==◌, List, [], ◌∷◌, ◌++◌, Option, Some, None, refl, ap, sym, ◌∙◌, arith}
use Rattle.std.specs.Prelude.{bytes_eq, nat_le}
use Rattle.std.specs.List.{AllByRecursion as Each}
use Rattle.std.proofs.lemmas.Bool.Decides.{nat_tests}
use Rattle.mv_chain.specs.declared.fate.Fate.{Fate}
use Rattle.mv_chain.specs.declared.fate.Fate.TheVariants.{Committed as kept, RolledBack as gone}
use Rattle.mv_chain.specs.Accesses.{Written, Answered, newest, stands, seen_without, is_undecided, has_undecided}
use Rattle.mv_chain.proofs.Seen.{seen_behind, seen_swapped, seen_alike}
use Rattle.xa_model.proofs.Commits.{swapped}
use Rattle.mv_rules.specs.declared.records.Records.{Records}
use Rattle.mv_rules.specs.Accesses.{undecided_keys}
use Rattle.mv_rules.specs.Records.{StandsFor}
use Rattle.mv_rules.proofs.Tests.{and_no}

-- a write that was rolled back passes no test
abbrev pub counts_by : Bool → Option Fate → Bool
counts_by has None = has
counts_by has (Some kept) = has
counts_by has (Some gone) = false

abbrev pub counts_at : (Written → Bool) → Written → Bool
counts_at has w = counts_by (has w) w.fate

-- lists of writes in which the same is seen, and each branch has the same open keys
pub record IsSameWrites (ws vs : List Written) : Type 0 where
  pub seen : (has : Written → Bool) → newest (counts_at has) ws ≡ newest (counts_at has) vs
  pub held : (key : List ℕ) (t : ℕ) → has_undecided key t ws ≡ has_undecided key t vs
  pub count : (t : ℕ) → undecided_keys t ws ≡ undecided_keys t vs

pub same_itself : (ws : List Written) → IsSameWrites ws ws
same_itself ws = record { seen = λ has. refl; held = λ key t. refl; count = λ t. refl }

pub same_then : (ws vs us : List Written) → IsSameWrites ws vs → IsSameWrites vs us → IsSameWrites ws us
same_then ws vs us h k = record {
  seen = λ has. h.seen has ∙ k.seen has;
  held = λ key t. h.held key t ∙ k.held key t;
  count = λ t. h.count t ∙ k.count t;
}

pub same_behind : (w : Written) (ws vs : List Written) → IsSameWrites ws vs → IsSameWrites (w ∷ ws) (w ∷ vs)
same_behind w ws vs h = record {
  seen = λ has. seen_behind (counts_at has) w ws vs (h.seen has);
  held = λ key t. ap (λ (b : Bool). (bytes_eq key w.key && ((w.timestamp == t) && is_undecided w.fate)) || b) (h.held key t);
  count = λ t. rw (h.held w.key t, h.count t) refl;
}

pub same_after : (us ws vs : List Written) → IsSameWrites ws vs → IsSameWrites (us ++ ws) (us ++ vs)
same_after [] ws vs h = h
same_after (u ∷ us) ws vs h = same_behind u (us ++ ws) (us ++ vs) (same_after us ws vs h)

-- the open keys of two writes of different timestamps
swapped_count : (t : ℕ) (a b : Written) (ws : List Written) (x y : Bool) → (a.timestamp == t) ≡ x → (b.timestamp == t) ≡ y → (a.timestamp ≡ b.timestamp → ⊥) → undecided_keys t (a ∷ b ∷ ws) ≡ undecided_keys t (b ∷ a ∷ ws)
swapped_count t a b ws true true ex ey ne = absurd (ne (grind (arith, nat_tests)))
swapped_count t a b ws true false ex ey ne = let none : (bytes_eq a.key b.key && false) ≡ false = and_no (bytes_eq a.key b.key) in simp (ex, ey, none)
swapped_count t a b ws false true ex ey ne = let none : (bytes_eq b.key a.key && false) ≡ false = and_no (bytes_eq b.key a.key) in simp (ex, ey, none)
swapped_count t a b ws false false ex ey ne = simp (ex, ey)

pub same_swapped : (a b : Written) (ws : List Written) → (a.timestamp ≡ b.timestamp → ⊥) → IsSameWrites (a ∷ b ∷ ws) (b ∷ a ∷ ws)
same_swapped a b ws ne = record {
  seen = λ has. seen_swapped (counts_at has) a b ws ne;
  held = λ key t.
      swapped (bytes_eq key a.key && ((a.timestamp == t) && is_undecided a.fate)) (bytes_eq key b.key && ((b.timestamp == t) && is_undecided b.fate)) (has_undecided key t ws);
  count = λ t. swapped_count t a b ws (a.timestamp == t) (b.timestamp == t) refl refl ne;
}

-- a write may pass others of different timestamps
pub same_past : (w : Written) (us ws : List Written) → Each (λ (u : Written). w.timestamp ≡ u.timestamp → ⊥) us → IsSameWrites (w ∷ (us ++ ws)) (us ++ (w ∷ ws))
same_past w [] ws h = same_itself (w ∷ ws)
same_past w (u ∷ us) ws h =
    same_then (w ∷ u ∷ (us ++ ws)) (u ∷ w ∷ (us ++ ws)) (u ∷ (us ++ (w ∷ ws))) (same_swapped w u (us ++ ws) h.0) (same_behind u (w ∷ (us ++ ws)) (us ++ (w ∷ ws)) (same_past w us ws h.1))

-- a write that was rolled back may be left out
pub same_without : (w : Written) (ws : List Written) → w.fate ≡ Some gone → IsSameWrites (w ∷ ws) ws
same_without w ws e = record {
  seen = λ has. rw e refl;
  held = λ key t. left_out (bytes_eq key w.key) (w.timestamp == t) (is_undecided w.fate) (has_undecided key t ws) (rw e refl);
  count = λ t. let no : is_undecided w.fate ≡ false = rw e refl in simp (no, and_no (w.timestamp == t));
}
  where
    left_out : (a b c d : Bool) → c ≡ false → ((a && (b && c)) || d) ≡ d
    left_out true true c d h = rw h refl
    left_out true false c d h = refl
    left_out false b c d h = refl

-- what stands for one history stands for the other

counted : (has : List ℕ → Bool) (gone_ : ℕ → Bool) (t : ℕ) (w : Written) (f : Option Fate) → w.fate ≡ f
    → (has w.key && (stands gone_ w.timestamp w.fate && nat_le w.timestamp t)) ≡ counts_at (λ (x : Written). has x.key && (stands gone_ x.timestamp x.fate && nat_le x.timestamp t)) w
counted has gone_ t w None e = simp e
counted has gone_ t w (Some kept) e = simp e
counted has gone_ t w (Some gone) e = simp (e, and_no (has w.key))

pub same_seen : (ws vs : List Written) → IsSameWrites ws vs → (gone_ : ℕ → Bool) (key : List ℕ) (t : ℕ) → seen_without gone_ key t ws ≡ seen_without gone_ key t vs
same_seen ws vs h gone_ key t =
    let test : Written → Bool = λ (w : Written). bytes_eq key w.key && (stands gone_ w.timestamp w.fate && nat_le w.timestamp t) in
    let same : (w : Written) → test w ≡ counts_at test w = λ (w : Written). counted (λ (k : List ℕ). bytes_eq key k) gone_ t w w.fate refl in
    seen_alike test (counts_at test) ws same ∙ h.seen test ∙ sym (seen_alike test (counts_at test) vs same)

pub stands_for_others : (low : ℕ) (ws vs : List Written) (reads : List Answered) (r : Records)
    → ((gone_ : ℕ → Bool) (key : List ℕ) (t : ℕ) → low ≤ t → seen_without gone_ key t ws ≡ seen_without gone_ key t vs)
    → ((gone_ : ℕ → Bool) (key : List ℕ) (t : ℕ) → gone_ t ≡ false → has_undecided key t vs ≡ true → seen_without gone_ key t ws ≡ seen_without gone_ key t vs)
    → ((key : List ℕ) (t : ℕ) → has_undecided key t ws ≡ has_undecided key t vs)
    → ((t : ℕ) → undecided_keys t ws ≡ undecided_keys t vs)
    → StandsFor (record { low = low; writes = ws; reads = reads }) r → StandsFor (record { low = low; writes = vs; reads = reads }) r
stands_for_others low ws vs reads r seen own held count st = record {
  chains = record {
    chains = λ key. record {
      seen = λ gone_ t le. (st.chains.chains key).seen gone_ t le ∙ seen gone_ key t le;
      own = λ gone_ t g o. (st.chains.chains key).own gone_ t g (held key t ∙ o) ∙ own gone_ key t g o;
      late = (st.chains.chains key).late;
      based = (st.chains.chains key).based;
    };
    within = st.chains.within;
    apart = st.chains.apart;
    held = st.chains.held;
  };
  lists = record {
    listed = λ t key i at. st.lists.listed t key i at ∙ held key t;
    unindexed = λ t key none. sym (held key t) ∙ st.lists.unindexed t key none;
    named = st.lists.named;
    count = λ t. st.lists.count t ∙ count t;
  };
}

pub stands_same : (low : ℕ) (ws vs : List Written) (reads : List Answered) (r : Records) → IsSameWrites ws vs → StandsFor (record { low = low; writes = ws; reads = reads }) r → StandsFor (record { low = low; writes = vs; reads = reads }) r
stands_same low ws vs reads r same st =
    stands_for_others low ws vs reads r (λ gone_ key t le. same_seen ws vs same gone_ key t) (λ gone_ key t g o. same_seen ws vs same gone_ key t) same.held same.count st
