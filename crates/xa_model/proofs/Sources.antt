-- What the source of a read is.
use Rattle.std.proofs.Common.{◌≡◌, ◌⊎◌, inl, inr, ℕ, ◌<◌, ◌≤◌, Bool, true, false, ◌&&◌, cond, List, [], ◌∷◌, Option, Some, None, refl, sym, ap, subst, arith}
use Rattle.std.specs.Prelude.{is_some, nat_le, nat_lt, find, fold}
use Rattle.std.specs.List.{AllByRecursion}
use Rattle.std.proofs.lemmas.Bool.Decides.{nat_tests}
use Rattle.xa_model.specs.State.{Branch, is_committed}
use Rattle.xa_model.specs.Source.{Version, write_of, versions_of, absent, later, source}
use Rattle.xa_model.specs.Invariants.Sound.{Descends}
use Rattle.xa_model.proofs.Pins.{Has, below_limit}

-- the branch left this version
abbrev pub Left : List ℕ → Version → Branch → Type 0
Left key v b = (b.timestamp ≡ v.timestamp) × (is_committed b.phase ≡ v.committed) × (write_of key b.operations ≡ Some v.value)

abbrev pub IsAtMost : List ℕ → ℕ → ℕ → Branch → Type 0
IsAtMost key t from b = is_some (write_of key b.operations) ≡ true → b.timestamp ≤ t → b.timestamp ≤ from

-- the greatest of a list of branches' versions, and of one that was seen before
pub record IsNewest (key : List ℕ) (t : ℕ) (bs : List Branch) (seen v : Version) : Type 0 where
  pub least : seen.timestamp ≤ v.timestamp
  pub greatest : AllByRecursion (IsAtMost key t v.timestamp) bs
  pub from : (v ≡ seen) ⊎ ((v.timestamp ≤ t) × Has (Left key v) bs)

abbrev newest_in : List ℕ → ℕ → Version → List Branch → Version
newest_in key t seen bs = fold (later t) seen (versions_of key bs)

-- a branch that didn't write the key
passed : (key : List ℕ) (t : ℕ) (b : Branch) (bs : List Branch) (seen v : Version) → write_of key b.operations ≡ None → IsNewest key t bs seen v
    → IsNewest key t (b ∷ bs) seen v
passed key t b bs seen v e h = record {
  least = h.least;
  greatest = (λ w. absurd (cc (w, e)), h.greatest);
  from = elim h.from [ inl same ↦ inl same | inr there ↦ inr (there.0, inr there.1) ];
}

-- one that did
abbrev version_in : Branch → Option (List ℕ) → Version
version_in b x = record { timestamp = b.timestamp; committed = is_committed b.phase; value = x }

seen_by : (key : List ℕ) (t : ℕ) (b : Branch) (bs : List Branch) (seen v : Version) (x : Option (List ℕ)) (q : Bool)
    → (nat_le b.timestamp t && nat_lt seen.timestamp b.timestamp) ≡ q → write_of key b.operations ≡ Some x
    → IsNewest key t bs (cond q (version_in b x) seen) v → IsNewest key t (b ∷ bs) seen v
seen_by key t b bs seen v x true e w h = record {
  least = grind (arith, nat_tests, e, h.least);
  greatest = (λ k le. h.least, h.greatest);
  from = elim h.from [
    | inl same ↦ inr (
      subst (λ (y : Version). y.timestamp ≤ t) (sym same) (grind (arith, nat_tests, e)),
      inl (subst (λ (y : Version). Left key y b) (sym same) (refl, refl, w)),
    )
    | inr there ↦ inr (there.0, inr there.1)
  ];
}
seen_by key t b bs seen v x false e w h = record {
  least = h.least;
  greatest = (λ k le. under (b.timestamp) (seen.timestamp) (v.timestamp) le h.least e, h.greatest);
  from = elim h.from [ inl same ↦ inl same | inr there ↦ inr (there.0, inr there.1) ];
}
  where
    under : (u s w : ℕ) → u ≤ t → s ≤ w → (nat_le u t && nat_lt s u) ≡ false → u ≤ w
    under u s w le less e = grind (arith, nat_tests)

next_by : (key : List ℕ) (t : ℕ) (b : Branch) (bs : List Branch) (seen : Version) (o : Option (Option (List ℕ))) → write_of key b.operations ≡ o
    → ((seen : Version) → IsNewest key t bs seen (newest_in key t seen bs)) → IsNewest key t (b ∷ bs) seen (newest_in key t seen (b ∷ bs))
next_by key t b bs seen None e rest =
    let same : newest_in key t seen (b ∷ bs) ≡ newest_in key t seen bs = rw e refl in
    subst (IsNewest key t (b ∷ bs) seen) (sym same) (passed key t b bs seen (newest_in key t seen bs) e (rest seen))
next_by key t b bs seen (Some x) e rest =
    let best = later t seen (version_in b x) in
    let same : newest_in key t seen (b ∷ bs) ≡ newest_in key t best bs = rw e refl in
    subst (IsNewest key t (b ∷ bs) seen) (sym same)
    (seen_by key t b bs seen (newest_in key t best bs) x (nat_le b.timestamp t && nat_lt seen.timestamp b.timestamp) refl e (rest best))

newest_is : (key : List ℕ) (t : ℕ) (bs : List Branch) (seen : Version) → IsNewest key t bs seen (newest_in key t seen bs)
newest_is key t [] seen = record { least = omega arith; greatest = tt; from = inl refl }
newest_is key t (b ∷ bs) seen = next_by key t b bs seen (write_of key b.operations) refl (λ best. newest_is key t bs best)

pub source_is : (key : List ℕ) (t : ℕ) (bs : List Branch) → IsNewest key t bs absent (source key t bs)
source_is key t bs = newest_is key t bs absent

-- a branch is told by its timestamp

pub has_each : {A : Type 0} (P Q : A → Type 0) (xs : List A) → AllByRecursion P xs → Has Q xs → (x : A) × P x × Q x
has_each P Q [] h i = absurd i
has_each P Q (x ∷ xs) h (inl q) = (x, h.0, q)
has_each P Q (x ∷ xs) h (inr i) = has_each P Q xs h.1 i

found_by : (p : Branch → Bool) (x b : Branch) (bs : List Branch) (q : Bool) → cond q (Some b) (find p bs) ≡ Some x
    → (find p bs ≡ Some x → Has (λ y. y ≡ x) bs)
    → (b ≡ x) ⊎ Has (λ y. y ≡ x) bs
found_by p x b bs true e rest = inl (cc e)
found_by p x b bs false e rest = inr (rest e)

found_has : (p : Branch → Bool) (x : Branch) (bs : List Branch) → find p bs ≡ Some x → Has (λ y. y ≡ x) bs
found_has p x [] e = absurd (cc e)
found_has p x (b ∷ bs) e = found_by p x b bs (p b) e (found_has p x bs)

one_timestamp : (P : Branch → Type 0) (limit : ℕ) (x : Branch) (bs : List Branch) → Descends limit bs → Has (λ y. y ≡ x) bs
    → Has (λ b. (b.timestamp ≡ x.timestamp) × P b) bs → P x
one_timestamp P limit x [] d h k = absurd h
one_timestamp P limit x (b ∷ bs) d (inl same) (inl k) = subst P same k.1
one_timestamp P limit x (b ∷ bs) d (inl same) (inr k) =
    let other =
    has_each (λ (c : Branch). c.timestamp < b.timestamp) (λ c. (c.timestamp ≡ x.timestamp) × P c) bs (below_limit b.timestamp bs d.2) k in
    let here : b.timestamp ≡ x.timestamp = ap (λ (y : Branch). y.timestamp) same in
    absurd (omega (arith, other.1, other.2.0, here))
one_timestamp P limit x (b ∷ bs) d (inr h) (inl k) =
    let other = has_each (λ (c : Branch). c.timestamp < b.timestamp) (λ c. c ≡ x) bs (below_limit b.timestamp bs d.2) h in
    let there : other.0.timestamp ≡ x.timestamp = ap (λ (y : Branch). y.timestamp) other.2 in
    absurd (omega (arith, other.1, there, k.0))
one_timestamp P limit x (b ∷ bs) d (inr h) (inr k) = one_timestamp P b.timestamp x bs d.2 h k

-- the branch that is found is the one of its timestamp
pub found_one : (P : Branch → Type 0) (limit : ℕ) (p : Branch → Bool) (x : Branch) (bs : List Branch) → Descends limit bs → find p bs ≡ Some x
    → Has (λ b. (b.timestamp ≡ x.timestamp) × P b) bs → P x
found_one P limit p x bs d e k = one_timestamp P limit x bs d (found_has p x bs e) k
