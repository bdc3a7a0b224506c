-- What is seen in the flat list of the branches' writes is the source among the branches.
use Rattle.std.proofs.Common.{◌≡◌, ℕ, ◌<◌, ◌≤◌, Bool, true, false, cond, not, ◌&&◌, ◌||◌, List, [], ◌∷◌, ◌++◌, Option, Some, None, map, refl, ap, sym, ◌∙◌, subst, arith}
use Rattle.std.specs.Prelude.{bytes_eq, nat_le, nat_lt, fold}
use Rattle.std.specs.List.{cons_option, AllByRecursion as Each}
use Rattle.std.proofs.lemmas.Bool.Decides.{nat_tests}
use Rattle.std.proofs.lemmas.Slice.Eq.{bytes_eq-Decides}
use Rattle.mv_chain.specs.declared.fate.Fate.{Fate}
use Rattle.mv_chain.specs.Accesses.{Written, Seen, seen, seen_without, stands, nobody, is_undecided, is_late}
use Rattle.xa_model.specs.State.{Branch, Operation, Got, Walked, Wrote, Phase, Working, Prepared, Committed, Read, is_committed}
use Rattle.xa_model.specs.Source.{Version, write_of, version_by, versions_of, absent, later, newest, source, passes_over, is_late as is_late_among}
use Rattle.xa_model.specs.Invariants.Sound.{Descends}
use Rattle.xa_model.proofs.Times.{version_time}
use Rattle.mv_rules.specs.Ties.{fate_of, writes_by, writes_in, read_as, seen_as}
use Rattle.mv_rules.proofs.Tests.{and_no}

same_bytes_by : (a b : List ℕ) (x y : Bool) → bytes_eq a b ≡ x → bytes_eq b a ≡ y → x ≡ y
same_bytes_by a b true true e h = refl
same_bytes_by a b true false e h = absurd (cc (h, (bytes_eq-Decides b a).1 (sym ((bytes_eq-Decides a b).0 e))))
same_bytes_by a b false true e h = absurd (cc (e, (bytes_eq-Decides a b).1 (sym ((bytes_eq-Decides b a).0 h))))
same_bytes_by a b false false e h = refl

pub bytes_eq_swapped : (a b : List ℕ) → bytes_eq a b ≡ bytes_eq b a
bytes_eq_swapped a b = same_bytes_by a b (bytes_eq a b) (bytes_eq b a) refl refl

-- what one branch's writes show before others of lower timestamps
abbrev pub seen_one : (ℕ → Bool) → ℕ → ℕ → Option Fate → Option (Option (List ℕ)) → Seen → Seen
seen_one gone u t fate None rest = rest
seen_one gone u t fate (Some v) rest = cond (stands gone t fate && nat_le t u) (record { from = t; value = v; pending = is_undecided fate }) rest

pub one_under : (gone : ℕ → Bool) (u t : ℕ) (fate : Option Fate) (o : Option (Option (List ℕ))) (rest : Seen) (c : Bool) → (stands gone t fate && nat_le t u) ≡ c → rest.from ≤ t → (seen_one gone u t fate o rest).from ≤ t
one_under gone u t fate None rest c e le = le
one_under gone u t fate (Some v) rest true e le = rw e (omega arith)
one_under gone u t fate (Some v) rest false e le = rw e le

wrote_by : (gone : ℕ → Bool) (key k : List ℕ) (u t : ℕ) (fate : Option Fate) (value : Option (List ℕ)) (older : List Operation) (rest : List Written) (x c : Bool) → bytes_eq k key ≡ x → (stands gone t fate && nat_le t u) ≡ c
    → (seen_without gone key u rest).from ≤ t → seen_without gone key u (writes_by t fate older ++ rest) ≡ seen_one gone u t fate (write_of key older) (seen_without gone key u rest)
    → seen_without gone key u (writes_by t fate (Wrote k value ∷ older) ++ rest) ≡ seen_one gone u t fate (write_of key (Wrote k value ∷ older)) (seen_without gone key u rest)
wrote_by gone key k u t fate value older rest true true e ec le ih =
    let here : bytes_eq key k ≡ true = bytes_eq_swapped key k ∙ e in
    let under : (seen_without gone key u (writes_by t fate older ++ rest)).from ≤ t = rw ih (one_under gone u t fate (write_of key older) (seen_without gone key u rest) true ec le) in
    let yes : nat_le (seen_without gone key u (writes_by t fate older ++ rest)).from t ≡ true = grind (arith, nat_tests, under) in
    rw (e, here, ec, yes) refl
wrote_by gone key k u t fate value older rest true false e ec le ih =
    let here : bytes_eq key k ≡ true = bytes_eq_swapped key k ∙ e in
    rw (e, here, ec) (ih ∙ unseen (write_of key older))
  where
    unseen : (o : Option (Option (List ℕ))) → seen_one gone u t fate o (seen_without gone key u rest) ≡ seen_without gone key u rest
    unseen None = refl
    unseen (Some v) = rw ec refl
wrote_by gone key k u t fate value older rest false c e ec le ih =
    let here : bytes_eq key k ≡ false = bytes_eq_swapped key k ∙ e in rw (e, here) ih

pub seen_group : (gone : ℕ → Bool) (key : List ℕ) (u t : ℕ) (fate : Option Fate) (ops : List Operation) (rest : List Written) → (seen_without gone key u rest).from ≤ t
    → seen_without gone key u (writes_by t fate ops ++ rest) ≡ seen_one gone u t fate (write_of key ops) (seen_without gone key u rest)
seen_group gone key u t fate [] rest le = refl
seen_group gone key u t fate (Got k answer from ∷ older) rest le = seen_group gone key u t fate older rest le
seen_group gone key u t fate (Walked range found ∷ older) rest le = seen_group gone key u t fate older rest le
seen_group gone key u t fate (Wrote k value ∷ older) rest le =
    wrote_by gone key k u t fate value older rest (bytes_eq k key) (stands gone t fate && nat_le t u) refl refl le (seen_group gone key u t fate older rest le)

-- what a branch shows is its version
phase_stands : (t : ℕ) (p : Phase) → stands nobody t (fate_of p) ≡ true
phase_stands t (Working xid work) = refl
phase_stands t (Prepared xid) = refl
phase_stands t Committed = refl

phase_undecided : (p : Phase) → is_undecided (fate_of p) ≡ not (is_committed p)
phase_undecided (Working xid work) = refl
phase_undecided (Prepared xid) = refl
phase_undecided Committed = refl

abbrev later_of : ℕ → Option Version → Seen → Seen
later_of u None rest = rest
later_of u (Some v) rest = cond (nat_le v.timestamp u) (seen_as v) rest

version_seen : (key : List ℕ) (u : ℕ) (b : Branch) (rest : Seen) (d : Bool) (o : Option (Option (List ℕ))) → write_of key b.operations ≡ o → nat_le b.timestamp u ≡ d
    → seen_one nobody u b.timestamp (fate_of b.phase) o rest ≡ later_of u (version_by key b) rest
version_seen key u b rest d None eo ed = simp eo
version_seen key u b rest true (Some v) eo ed = simp (eo, ed, phase_stands b.timestamp b.phase, phase_undecided b.phase)
version_seen key u b rest false (Some v) eo ed = simp (eo, ed, phase_stands b.timestamp b.phase)

-- the first of versions that descend is the newest
abbrev Under : ℕ → List Version → Type 0
Under limit vs = Each (λ (v : Version). v.timestamp < limit) vs

fold_keep_by : (u : ℕ) (best v : Version) (c : Bool) → nat_le v.timestamp u ≡ c → v.timestamp ≤ best.timestamp → later u best v ≡ best
fold_keep_by u best v c e le = let no : nat_lt best.timestamp v.timestamp ≡ false = grind (arith, nat_tests) in simp (no, and_no (nat_le v.timestamp u))

fold_keep : (u : ℕ) (best : Version) (vs : List Version) → Under best.timestamp vs → fold (later u) best vs ≡ best
fold_keep u best [] h = refl
fold_keep u best (v ∷ vs) h =
    let e : later u best v ≡ best = fold_keep_by u best v (nat_le v.timestamp u) refl (omega (arith, h.0)) in
    ap (λ (x : Version). fold (later u) x vs) e ∙ fold_keep u best vs h.1

later_under : (u limit : ℕ) (best v : Version) (c : Bool) → (nat_le v.timestamp u && nat_lt best.timestamp v.timestamp) ≡ c → best.timestamp < limit → v.timestamp < limit → (later u best v).timestamp < limit
later_under u limit best v true e b h = rw e h
later_under u limit best v false e b h = rw e b

fold_under : (u limit : ℕ) (best : Version) (vs : List Version) → best.timestamp < limit → Under limit vs → (fold (later u) best vs).timestamp < limit
fold_under u limit best [] b h = b
fold_under u limit best (v ∷ vs) b h =
    fold_under u limit (later u best v) vs (later_under u limit best v (nat_le v.timestamp u && nat_lt best.timestamp v.timestamp) refl b h.0) h.1

under_more : (low high : ℕ) (vs : List Version) → low ≤ high → Under low vs → Under high vs
under_more low high [] le h = tt
under_more low high (v ∷ vs) le h = (omega (arith, h.0), under_more low high vs le h.1)

versions_by : (key : List ℕ) (limit : ℕ) (b : Branch) (bs : List Branch) (o : Option Version) → version_by key b ≡ o → ((v : Version) → o ≡ Some v → v.timestamp ≡ b.timestamp) → b.timestamp < limit
    → Under b.timestamp (versions_of key bs) → Under limit (cons_option o (versions_of key bs))
versions_by key limit b bs None e same lt rest = under_more b.timestamp limit (versions_of key bs) (omega arith) rest
versions_by key limit b bs (Some v) e same lt rest = (omega (arith, same v refl), under_more b.timestamp limit (versions_of key bs) (omega arith) rest)

versions_under : (key : List ℕ) (limit : ℕ) (bs : List Branch) → Descends limit bs → Under limit (versions_of key bs)
versions_under key limit [] h = tt
versions_under key limit (b ∷ bs) h =
    versions_by key limit b bs (version_by key b) refl (λ v e. version_time key b v e) h.1 (versions_under key b.timestamp bs h.2)

newest_by : (u : ℕ) (t : ℕ) (o : Option Version) (vs : List Version) → ((v : Version) → o ≡ Some v → v.timestamp ≡ t) → 0 < t → Under t vs → seen_as (newest u (cons_option o vs)) ≡ later_of u o (seen_as (newest u vs))
newest_by u t None vs same pos h = refl
newest_by u t (Some v) vs same pos h = first_by u v vs (nat_le v.timestamp u) refl (omega (arith, same v refl)) (subst (λ (n : ℕ). Under n vs) (sym (same v refl)) h)
  where
    first_by : (u : ℕ) (v : Version) (vs : List Version) (c : Bool) → nat_le v.timestamp u ≡ c → 0 < v.timestamp → Under v.timestamp vs → seen_as (newest u (v ∷ vs)) ≡ cond c (seen_as v) (seen_as (newest u vs))
    first_by u v vs true e pos h =
        let yes : nat_lt 0 v.timestamp ≡ true = grind (arith, nat_tests) in
        let is : later u absent v ≡ v = simp (e, yes) in
        ap seen_as (ap (λ (x : Version). fold (later u) x vs) is ∙ fold_keep u v vs h)
    first_by u v vs false e pos h = let is : later u absent v ≡ absent = simp e in ap seen_as (ap (λ (x : Version). fold (later u) x vs) is)

pub one_source : (key : List ℕ) (u limit : ℕ) (bs : List Branch) → Descends limit bs → seen key u (writes_in bs) ≡ seen_as (source key u bs)
one_source key u limit [] h = refl
one_source key u limit (b ∷ bs) h =
    let ih : seen key u (writes_in bs) ≡ seen_as (source key u bs) = one_source key u b.timestamp bs h.2 in
    let under : (source key u bs).timestamp < b.timestamp = fold_under u b.timestamp absent (versions_of key bs) h.0 (versions_under key b.timestamp bs h.2) in
    let le : (seen key u (writes_in bs)).from ≤ b.timestamp = rw ih (omega (arith, under)) in
    seen_group nobody key u b.timestamp (fate_of b.phase) b.operations (writes_in bs) le
    ∙ version_seen key u b (seen key u (writes_in bs)) (nat_le b.timestamp u) (write_of key b.operations) refl refl
    ∙ ap (later_of u (version_by key b)) ih
    ∙ sym (newest_by u b.timestamp (version_by key b) (versions_of key bs) (λ v e. version_time key b v e) h.0 (versions_under key b.timestamp bs h.2))

-- a read makes late what it makes late as an answered one
pub one_lateness : (key : List ℕ) (t : ℕ) (reads : List Read) → is_late key t (map read_as reads) ≡ is_late_among key t reads
one_lateness key t [] = refl
one_lateness key t (r ∷ reads) = ap (λ (b : Bool). passes_over key t r || b) (one_lateness key t reads)
