-- The pass over all keys: what has been gathered of those that it has met.
use Rattle.std.proofs.Common.{◌≡◌, ℕ, ◌≤◌, Bool, true, false, List, [], ◌∷◌, Option, Some, None, refl, sym, ap, ◌∙◌, subst}
use Rattle.std.specs.Prelude.{bytes_eq, Vec}
use Rattle.std.specs.List.{AllByRecursion as Each}
use Rattle.std.specs.List.Sorted.{IsStrictlySortedBy}
use Rattle.std.specs.BTreeMap.{BTreeMap}
use Rattle.std.specs.Map.{keys_of}
use Rattle.std.specs.Cmp.Lexicographic.{slice_cmp}
use Rattle.std.specs.Ordering.{nat_cmp}
use Rattle.std.specs.declared.alloc.Global.{Global}
use Rattle.std.specs.declared.cmp.Ordering.{Ordering}
use Rattle.std.specs.declared.cmp.Ordering.TheVariants.{Less}
use Rattle.std.proofs.lemmas.Map.Text.{is_eq-slice_cmp}
use Rattle.std.proofs.lemmas.Slice.Eq.{bytes_eq-Decides}
use Rattle.xa_codes.specs.declared.write.Write.{Write}
use Rattle.mv_chain.specs.Accesses.{seen_without}
use Rattle.mv_chain.specs.Chain.{fresh, StandsFor as ChainStandsFor}
use Rattle.mv_chain.specs.Last.{everybody, stamped, AreUpto, IsLastWritten}
use Rattle.mv_chain.proofs.Last.{last_fresh, last_written}
use Rattle.xa_model.specs.Durable.{CommittedBranch, Pairwise, AreLast, commits_before, keys_before, last_write}
use Rattle.mv_rules.specs.declared.records.Records.{Records}
use Rattle.mv_rules.specs.Accesses.{Accesses}
use Rattle.mv_rules.specs.Committed.{branches_in, AreCommitted, AddsLast}
use Rattle.mv_rules.specs.Records.{StandsFor, index_of, chain_at}
use Rattle.mv_rules.proofs.Indices.{found_at, by_compare}
use Rattle.mv_rules.proofs.Joined.{joined, AreBelow, joined_entries, joined_ascend, joined_by_key, joined_below, joined_last, joined_miss, joined_hit}
use Rattle.mv_rules.proofs.Tests.{same_key}
use Rattle.mv_rules.proofs.Ties.{bytes_eq_swapped}

abbrev pub Entries : Type 0
Entries = List (Vec ℕ Global × ℕ)

abbrev pub key_cmp : Vec ℕ Global → Vec ℕ Global → Ordering
key_cmp a b = slice_cmp nat_cmp a.items b.items

-- what is last committed of the key in this history
abbrev pub told : Accesses → ℕ → List ℕ → Option (ℕ × Option (List ℕ))
told h t key = stamped (seen_without everybody key t h.writes)

-- of the keys that aren't met yet there is nothing
abbrev pub unless : Option ℕ → Option (ℕ × Option (List ℕ)) → Option (ℕ × Option (List ℕ))
unless None x = x
unless (Some i) x = None

-- what has been gathered, where these keys are left
pub record IsGathered (r : Records) (rest : Entries) (bs : List CommittedBranch) : Type 0 where
  pub order : Pairwise commits_before bs
  pub keys : Each (λ b. Pairwise keys_before b.writes) bs
  pub last : AreLast bs
  pub below : Each (λ e. AreBelow e.0.items bs) rest
  pub sorted : IsStrictlySortedBy key_cmp (keys_of rest)
  pub there : Each (λ e. index_of e.0.items r ≡ Some e.1) rest
  pub written : (h : Accesses) (t : ℕ) (key : List ℕ) → StandsFor h r → h.low ≤ t → AreUpto t h.writes → last_write key bs ≡ unless (found_at key rest) (told h t key)

-- before the first

all_below : (rest : Entries) → Each (λ e. AreBelow e.0.items []) rest
all_below [] = tt
all_below (e ∷ rest) = (tt, all_below rest)

key_itself : (key : List ℕ) → bytes_eq key key ≡ true
key_itself key = (bytes_eq-Decides key key).1 refl

found_behind : (e : Vec ℕ Global × ℕ) (rest es : Entries) → Each (λ k. key_cmp e.0 k ≡ Less) (keys_of es) → Each (λ x. found_at x.0.items rest ≡ Some x.1) es → Each (λ x. found_at x.0.items (e ∷ rest) ≡ Some x.1) es
found_behind e rest [] less h = tt
found_behind e rest (x ∷ es) less h =
    let other : bytes_eq e.0.items x.0.items ≡ false = by_compare e.0.items x.0.items Less less.0 in
    let back : bytes_eq x.0.items e.0.items ≡ false = bytes_eq_swapped x.0.items e.0.items ∙ other in
    (rw (is_eq-slice_cmp x.0.items e.0.items, back) h.0, found_behind e rest es less.1 h.1)

all_found : (es : Entries) → IsStrictlySortedBy key_cmp (keys_of es) → Each (λ e. found_at e.0.items es ≡ Some e.1) es
unfolding IsStrictlySortedBy
all_found [] s = tt
all_found (e ∷ es) s = (rw (is_eq-slice_cmp e.0.items e.0.items, key_itself e.0.items) refl, found_behind e es es s.0 (all_found es s.1))

pub gathered_none : (r : Records) → IsStrictlySortedBy key_cmp (keys_of r.indices.entries) → IsGathered r r.indices.entries []
gathered_none r s = record {
  order = tt;
  keys = tt;
  last = tt;
  below = all_below r.indices.entries;
  sorted = s;
  there = all_found r.indices.entries s;
  written = λ h t key stood le upto. by h t key stood le upto (index_of key r) refl;
}
  where
    by : (h : Accesses) (t : ℕ) (key : List ℕ) → StandsFor h r → h.low ≤ t → AreUpto t h.writes → (o : Option ℕ) → index_of key r ≡ o → None ≡ unless o (told h t key)
    by h t key stood le upto None e =
        let chain : ChainStandsFor key h.low h.writes h.reads fresh = rw e at (stood.chains.chains key) in
        last_written fresh None last_fresh key h.low h.writes h.reads t chain le upto
    by h t key stood le upto (Some i) e = refl

-- one more

abbrev write_by : List ℕ → Option (List ℕ) → Write
write_by key value = record { key = key; value = value }

pub write_as : (w : Write) (key : List ℕ) (value : Option (List ℕ)) → w.key ≡ key → w.value ≡ value → w ≡ write_by key value
write_as w key value e f = ap (λ k. write_by k w.value) e ∙ ap (write_by key) f

pub with_last : List ℕ → Option (ℕ × Option (List ℕ)) → List CommittedBranch → List CommittedBranch
with_last key None bs = bs
with_last key (Some p) bs = joined p.0 (write_by key p.1) bs

pub last_added : (key : List ℕ) (last : Option (ℕ × Option (List ℕ))) (old new : BTreeMap ℕ (Vec Write Global)) → AddsLast key last old new → branches_in new.entries ≡ with_last key last (branches_in old.entries)
unfolding with_last
last_added key None old new adds = ap (λ (m : BTreeMap ℕ (Vec Write Global)). branches_in m.entries) adds
last_added key (Some p) old new adds =
    ap branches_in adds.entries ∙ joined_entries p.0 (write_by key p.1) old.entries adds.left adds.ordered adds.writes

not_behind : (key : Vec ℕ Global) (es : Entries) → Each (λ k. key_cmp key k ≡ Less) (keys_of es) → found_at key.items es ≡ None
not_behind key [] less = refl
not_behind key (x ∷ es) less =
    let other : bytes_eq key.items x.0.items ≡ false = by_compare key.items x.0.items Less less.0 in
    rw (is_eq-slice_cmp key.items x.0.items, other) (not_behind key es less.1)

with_last_below : (key : List ℕ) (last : Option (ℕ × Option (List ℕ))) (bs : List CommittedBranch) (k : List ℕ) → AreBelow k bs → slice_cmp nat_cmp key k ≡ Less → AreBelow k (with_last key last bs)
unfolding with_last
with_last_below key None bs k h less = h
with_last_below key (Some p) bs k h less = joined_below p.0 (write_by key p.1) k bs h less

all_with_last_below : (key : Vec ℕ Global) (last : Option (ℕ × Option (List ℕ))) (bs : List CommittedBranch) (es : Entries) → Each (λ e. AreBelow e.0.items bs) es → Each (λ k. key_cmp key k ≡ Less) (keys_of es)
    → Each (λ e. AreBelow e.0.items (with_last key.items last bs)) es
all_with_last_below key last bs [] h less = tt
all_with_last_below key last bs (e ∷ es) h less = (with_last_below key.items last bs e.0.items h.0 less.0, all_with_last_below key last bs es h.1 less.1)

-- of the key itself it is what is told, of each other key what it was
with_last_own : (key : List ℕ) (last : Option (ℕ × Option (List ℕ))) (bs : List CommittedBranch) → AreBelow key bs → last_write key bs ≡ None → last_write key (with_last key last bs) ≡ last
unfolding with_last
with_last_own key None bs h none = none
with_last_own key (Some p) bs h none = joined_hit p.0 (write_by key p.1) bs h

with_last_other : (key k : List ℕ) (last : Option (ℕ × Option (List ℕ))) (bs : List CommittedBranch) → bytes_eq key k ≡ false → last_write k (with_last key last bs) ≡ last_write k bs
unfolding with_last
with_last_other key k None bs e = refl
with_last_other key k (Some p) bs e = joined_miss p.0 (write_by key p.1) k bs e

with_last_form : (key : List ℕ) (last : Option (ℕ × Option (List ℕ))) (bs : List CommittedBranch) → AreBelow key bs → Pairwise commits_before bs → Each (λ b. Pairwise keys_before b.writes) bs → AreLast bs
    → Pairwise commits_before (with_last key last bs) × Each (λ b. Pairwise keys_before b.writes) (with_last key last bs) × AreLast (with_last key last bs)
unfolding with_last
with_last_form key None bs below order keys last = (order, keys, last)
with_last_form key (Some p) bs below order keys last =
    let w : Write = write_by key p.1 in
    (joined_ascend p.0 w bs order, joined_by_key p.0 w bs keys below, joined_last p.0 w bs last below)

pub gathered_more : (r : Records) (e : Vec ℕ Global × ℕ) (rest : Entries) (bs : List CommittedBranch) (last : Option (ℕ × Option (List ℕ))) → ((h : Accesses) → StandsFor h r → IsLastWritten (chain_at e.1 r) last)
    → IsGathered r (e ∷ rest) bs → IsGathered r rest (with_last e.0.items last bs)
unfolding IsStrictlySortedBy
gathered_more r e rest bs last is g =
    let form = with_last_form e.0.items last bs g.below.0 g.order g.keys g.last in
    record {
      order = form.0;
      keys = form.1;
      last = form.2;
      below = all_with_last_below e.0 last bs rest g.below.1 g.sorted.0;
      sorted = g.sorted.1;
      there = g.there.1;
      written = λ h t key stood le upto. by h t key stood le upto g.sorted.0 (bytes_eq e.0.items key) refl (g.written h t key stood le upto);
    }
  where
    own : (h : Accesses) (t : ℕ) → StandsFor h r → h.low ≤ t → AreUpto t h.writes → last ≡ told h t e.0.items
    own h t stood le upto =
        let chain : ChainStandsFor e.0.items h.low h.writes h.reads (chain_at e.1 r) = rw g.there.0 at (stood.chains.chains e.0.items) in
        is h stood e.0.items h.low h.writes h.reads t chain le upto

    by : (h : Accesses) (t : ℕ) (key : List ℕ) → StandsFor h r → h.low ≤ t → AreUpto t h.writes → Each (λ k. key_cmp e.0 k ≡ Less) (keys_of rest) → (c : Bool) → bytes_eq e.0.items key ≡ c → last_write key bs ≡ unless (found_at key (e ∷ rest)) (told h t key)
        → last_write key (with_last e.0.items last bs) ≡ unless (found_at key rest) (told h t key)
    by h t key stood le upto less true k before =
        let same : e.0.items ≡ key = same_key e.0.items key k in
        let here : found_at e.0.items rest ≡ None = not_behind e.0 rest less in
        let first : found_at e.0.items (e ∷ rest) ≡ Some e.1 = rw (is_eq-slice_cmp e.0.items e.0.items, key_itself e.0.items) refl in
        let none : last_write e.0.items bs ≡ None = g.written h t e.0.items stood le upto ∙ ap (λ o. unless o (told h t e.0.items)) first in
        subst (λ (q : List ℕ). last_write q (with_last e.0.items last bs) ≡ unless (found_at q rest) (told h t q)) same
        (with_last_own e.0.items last bs g.below.0 none ∙ (own h t stood le upto ∙ sym (ap (λ o. unless o (told h t e.0.items)) here)))
    by h t key stood le upto less false k before =
        let back : bytes_eq key e.0.items ≡ false = bytes_eq_swapped key e.0.items ∙ k in
        let behind : found_at key (e ∷ rest) ≡ found_at key rest = rw (is_eq-slice_cmp key e.0.items, back) refl in
        with_last_other e.0.items key last bs k ∙ (before ∙ ap (λ o. unless o (told h t key)) behind)

-- and after the last

pub gathered_all : (r : Records) (rest : Entries) (bs : List CommittedBranch) → rest ≡ [] → IsGathered r rest bs → (h : Accesses) → StandsFor h r → AreCommitted h bs
gathered_all r rest bs none g h stood = record {
  order = g.order;
  keys = g.keys;
  last = g.last;
  written = λ key t le upto. g.written h t key stood le upto ∙ ap (λ (es : Entries). unless (found_at key es) (told h t key)) none;
}
