-- What a step leaves of a bound on the values of writes, and of the keys that branches have written.
use Rattle.std.proofs.Common.{◌≡◌, ◌≢◌, ◌∙◌, ℕ, zero, suc, ◌<◌, ◌≤◌, ◌+◌, Bool, true, false, List, [], ◌∷◌, ◌++◌, map, length, get_or, Option, refl, sym, ap, subst, arith, length-append}
use Rattle.std.specs.Prelude.{◌==◌, nat_le, if◌then◌else◌, Result, Ok, Err, OnOk, OnErr}
use Rattle.std.specs.List.{AllByRecursion as Each}
use Rattle.std.specs.BTreeMap.{BTreeMap, insert_entry}
use Rattle.std.specs.declared.cmp.Ordering.{Ordering}
use Rattle.std.specs.declared.cmp.Ordering.TheVariants.{Less, Equal, Greater}
use Rattle.std.proofs.lemmas.Bool.Decides.{nat_tests}
use Rattle.xa_limits.specs.declared.TheConstants.{MOST_WRITES}
use Rattle.xa_codes.specs.declared.write.Write.{Write}
use Rattle.mv_chain.specs.Within.{IsShort}
use Rattle.mv_rules.specs.declared.own.Own.{Own}
use Rattle.mv_rules.specs.declared.own.Notes.{Notes}
use Rattle.mv_rules.specs.declared.records.Records.{Records}
use Rattle.mv_rules.specs.declared.verdict.Verdict.TheVariants.{First}
use Rattle.mv_rules.specs.Collected.{as_write}
use Rattle.mv_rules.specs.Own.{own_in, OwnStays, OwnBecomes}
use Rattle.mv_rules.specs.Records.{own_of}
use Rattle.mv_rules.specs.Verdict.{verdict_by, verdict_of}
use Rattle.mv_rules.specs.Within.{AreShort, IsKey, AreKeys, HasKeys, KeepsOwnBut}

pub none_of : (ws : List Write) → length ws ≡ 0 → ws ≡ []
none_of [] e = refl
none_of (w ∷ ws) e = absurd (omega (arith, e))

-- one write among others
pub each_at : (P : Write → Type 0) (all done rest : List Write) (w : Write) → all ≡ done ++ w ∷ rest → Each P all → P w
each_at P all done rest w is h = at done (subst (λ (ws : List Write). Each P ws) is h)
  where
    at : (done : List Write) → Each P (done ++ w ∷ rest) → P w
    at [] h = h.0
    at (x ∷ xs) h = at xs h.1

-- a map's values after an insert
pub inserted_short : (n : ℕ) (cmp : List ℕ → List ℕ → Ordering) (es : List (List ℕ × Option (List ℕ))) (k : List ℕ) (v : Option (List ℕ)) → IsShort n v → AreShort n (map as_write es) → AreShort n (map as_write (insert_entry cmp es k v))
inserted_short n cmp [] k v short h = (short, tt)
inserted_short n cmp (e ∷ es) k v short h = at (cmp k e.0) refl (inserted_short n cmp es k v short h.1)
  where
    at : (o : Ordering) → cmp k e.0 ≡ o → AreShort n (map as_write (insert_entry cmp es k v)) → AreShort n (map as_write (insert_entry cmp (e ∷ es) k v))
    at Less o rest = rw o (short, h)
    at Equal o rest = rw o (short, h.1)
    at Greater o rest = rw o (h.0, rest)

-- ---- what each undecided branch has written

-- it is as it was
pub keys_alike : (r r2 : Records) → ((t : ℕ) → own_of t r2 ≡ own_of t r) → HasKeys r → HasKeys r2
keys_alike r r2 same h t = subst (λ (own : List Own). AreKeys MOST_WRITES own) (sym (same t)) (h t)

pub keys_stay : (notes left : BTreeMap ℕ Notes) → OwnStays notes left → ((t : ℕ) → AreKeys MOST_WRITES (own_in t notes)) → (t : ℕ) → AreKeys MOST_WRITES (own_in t left)
keys_stay notes left same h t = subst (λ (own : List Own). AreKeys MOST_WRITES own) (sym (same t)) (h t)

pub notes_alike : (old new : BTreeMap ℕ Notes) → new ≡ old → OwnStays old new
notes_alike old new same t = ap (λ (n : BTreeMap ℕ Notes). own_in t n) same

-- one branch has written one key more
all_grown : (own : List Own) (o : Own) → IsKey o.key → Each (λ o. IsKey o.key) own → Each (λ o. IsKey o.key) (own ++ o ∷ [])
all_grown [] o key h = (key, tt)
all_grown (x ∷ xs) o key h = (h.0, all_grown xs o key h.1)

keys_grown : (n : ℕ) (own : List Own) (o : Own) → length own < n → IsKey o.key → Each (λ o. IsKey o.key) own → AreKeys n (own ++ o ∷ [])
keys_grown n own o few key h = (simp length-append (omega arith), all_grown own o key h)

pub keys_put : (notes left : BTreeMap ℕ Notes) (ts : ℕ) (o : Own) → OwnBecomes ts (own_in ts notes ++ o ∷ []) notes left → length (own_in ts notes) < MOST_WRITES → IsKey o.key
    → ((t : ℕ) → AreKeys MOST_WRITES (own_in t notes)) → (t : ℕ) → AreKeys MOST_WRITES (own_in t left)
keys_put notes left ts o becomes few key h t = subst (λ (own : List Own). AreKeys MOST_WRITES own) (sym (becomes t)) (at (t == ts))
  where
    at : (x : Bool) → AreKeys MOST_WRITES (if x then own_in ts notes ++ o ∷ [] else own_in t notes)
    at true = keys_grown MOST_WRITES (own_in ts notes) o few key (h ts).1
    at false = h t

-- a branch that writes a key for the first time has written fewer than it may
pub few_first : (own : Bool) (n : ℕ) (late : Bool) → First ≡ verdict_of own n late → n < MOST_WRITES
few_first true n true v = absurd (cc v)
few_first true n false v = absurd (cc v)
few_first false n late v = at (nat_le MOST_WRITES n) refl late v
  where
    at : (x : Bool) → nat_le MOST_WRITES n ≡ x → (l : Bool) → First ≡ verdict_by false x l → n < MOST_WRITES
    at true e l v = absurd (cc v)
    at false e true v = absurd (cc v)
    at false e false v = grind (arith, nat_tests, e)

-- what becomes of one branch's list, and of the others'

same_is : (ts : ℕ) → (ts == ts) ≡ true
same_is ts = grind (arith, nat_tests)

other_is : (t ts : ℕ) → t ≢ ts → (t == ts) ≡ false
other_is t ts other = grind (arith, nat_tests, other)

pub one_becomes : (notes left : BTreeMap ℕ Notes) (ts : ℕ) (own : List Own) → OwnBecomes ts own notes left → own_in ts left ≡ own
one_becomes notes left ts own becomes = becomes ts ∙ rw (same_is ts) refl

pub others_stay : (notes left : BTreeMap ℕ Notes) (ts : ℕ) (own : List Own) → OwnBecomes ts own notes left → (t : ℕ) → t ≢ ts → own_in t left ≡ own_in t notes
others_stay notes left ts own becomes t other = becomes t ∙ rw (other_is t ts other) refl

-- one branch's list is within the bound, and the others' are as they were
pub keys_of_one : (r r2 : Records) (ts n : ℕ) → n ≤ MOST_WRITES → AreKeys n (own_of ts r2) → KeepsOwnBut ts r r2 → HasKeys r → HasKeys r2
keys_of_one r r2 ts n few one others h t = at (t == ts) refl
  where
    at : (x : Bool) → (t == ts) ≡ x → AreKeys MOST_WRITES (own_of t r2)
    at true e = let is : ts ≡ t = grind (arith, nat_tests, e) in subst (λ (u : ℕ). AreKeys MOST_WRITES (own_of u r2)) is (omega (arith, few, one.0), one.1)
    at false e = subst (λ (own : List Own). AreKeys MOST_WRITES own) (sym (others t (λ is. grind (arith, nat_tests, e, is)))) (h t)

pub keys_of_none : (own : List Own) → own ≡ [] → AreKeys 0 own
keys_of_none own e = subst (λ (xs : List Own). AreKeys 0 xs) (sym e) (omega arith, tt)

-- a write that is added again or for the first time, or not at all
pub keys_same : (n : ℕ) (own left : List Own) → left ≡ own → AreKeys n own → AreKeys (n + 1) left
keys_same n own left same h = subst (λ (xs : List Own). AreKeys (n + 1) xs) (sym same) (omega (arith, h.0), h.1)

pub keys_added : {T E : Type 0} (r : Result T E) (notes left : BTreeMap ℕ Notes) (ts : ℕ) (o : Own) → OnOk r (OwnBecomes ts (own_in ts notes ++ o ∷ []) notes left) → OnErr r (OwnStays notes left)
    → (n : ℕ) → AreKeys n (own_in ts notes) → IsKey o.key → AreKeys (n + 1) (own_in ts left)
keys_added (Ok x) notes left ts o ok err n h key =
    subst (λ (own : List Own). AreKeys (n + 1) own) (sym (one_becomes notes left ts _ ok)) (keys_grown (n + 1) (own_in ts notes) o (omega (arith, h.0)) key h.1)
keys_added (Err x) notes left ts o ok err n h key = keys_same n (own_in ts notes) (own_in ts left) (err ts) h

pub others_added : {T E : Type 0} (r : Result T E) (notes left : BTreeMap ℕ Notes) (ts : ℕ) (own : List Own) → OnOk r (OwnBecomes ts own notes left) → OnErr r (OwnStays notes left)
    → (t : ℕ) → t ≢ ts → own_in t left ≡ own_in t notes
others_added (Ok x) notes left ts own ok err t other = others_stay notes left ts own ok t other
others_added (Err x) notes left ts own ok err t other = err t

pub own_key : (i : ℕ) (own : List Own) (o : Own) → i < length own → o ≡ get_or own i o → Each (λ o. IsKey o.key) own → IsKey o.key
own_key i [] o lt at h = absurd (omega arith)
own_key zero (x ∷ xs) o lt at h = rw at h.0
own_key (suc i) (x ∷ xs) o lt at h = own_key i xs o (omega arith) at h.1

-- a map's keys after an insert
inserted_few : (cmp : List ℕ → List ℕ → Ordering) (es : List (List ℕ × Option (List ℕ))) (k : List ℕ) (v : Option (List ℕ)) → length (insert_entry cmp es k v) ≤ length es + 1
inserted_few cmp [] k v = omega arith
inserted_few cmp (e ∷ es) k v = at (cmp k e.0) refl (inserted_few cmp es k v)
  where
    at : (o : Ordering) → cmp k e.0 ≡ o → length (insert_entry cmp es k v) ≤ length es + 1 → length (insert_entry cmp (e ∷ es) k v) ≤ length (e ∷ es) + 1
    at Less o rest = rw o (omega arith)
    at Equal o rest = rw o (omega arith)
    at Greater o rest = rw o (omega arith)

pub few_inserted : (cmp : List ℕ → List ℕ → Ordering) (es : List (List ℕ × Option (List ℕ))) (k : List ℕ) (v : Option (List ℕ)) (n : ℕ) → length es ≤ n → length (insert_entry cmp es k v) ≤ n + 1
few_inserted cmp es k v n few = omega (arith, few, inserted_few cmp es k v)

pub inserted_keys : (cmp : List ℕ → List ℕ → Ordering) (es : List (List ℕ × Option (List ℕ))) (k : List ℕ) (v : Option (List ℕ)) → IsKey k → Each (λ w. IsKey w.key) (map as_write es) → Each (λ w. IsKey w.key) (map as_write (insert_entry cmp es k v))
inserted_keys cmp [] k v key h = (key, tt)
inserted_keys cmp (e ∷ es) k v key h = at (cmp k e.0) refl (inserted_keys cmp es k v key h.1)
  where
    at : (o : Ordering) → cmp k e.0 ≡ o → Each (λ w. IsKey w.key) (map as_write (insert_entry cmp es k v)) → Each (λ w. IsKey w.key) (map as_write (insert_entry cmp (e ∷ es) k v))
    at Less o rest = rw o (key, h)
    at Equal o rest = rw o h
    at Greater o rest = rw o (h.0, rest)
