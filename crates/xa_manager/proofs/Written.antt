-- The writes of a known branch, as the records list them.
use Rattle.std.proofs.Common.{◌≡◌, inl, inr, ℕ, ◌<◌, ◌≤◌, ◌==◌, ◌&&◌, Bool, true, false, cond, List, [], ◌∷◌, ◌++◌, Option, Some, None, refl, ap, sym, ◌∙◌, subst, arith}
use Rattle.std.specs.Prelude.{bytes_eq}
use Rattle.std.specs.List.{AllByRecursion}
use Rattle.std.specs.Cmp.Lexicographic.{slice_cmp}
use Rattle.std.specs.Ordering.{nat_cmp, is_lt}
use Rattle.std.specs.declared.cmp.Ordering.TheVariants.{Less}
use Rattle.std.proofs.lemmas.Bool.Decides.{nat_tests}
use Rattle.std.proofs.lemmas.Slice.Eq.{bytes_eq-Decides}
use Rattle.xa_codes.specs.declared.write.Write.{Write}
use Rattle.mv_chain.specs.declared.fate.Fate.{Fate}
use Rattle.mv_chain.specs.Accesses.{Written}
use Rattle.mv_rules.specs.Accesses.{last_write, listed_value, IsAscending, IsWritesOf}
use Rattle.mv_rules.specs.Ties.{fate_of, writes_by, writes_in}
use Rattle.mv_rules.proofs.Ties.{bytes_eq_swapped}
use Rattle.xa_xid.specs.Triple.{Triple}
use Rattle.xa_model.specs.State.{Branch, Operation, Got, Walked, Wrote, is_known_as, known_of}
use Rattle.xa_model.specs.Source.{write_of}
use Rattle.xa_model.specs.Durable.{Pairwise, keys_before, value_in, writes_of}
use Rattle.xa_model.specs.Invariants.Sound.{Descends}
use Rattle.xa_model.proofs.Times.{known_below}
use Rattle.xa_model.proofs.Members.{Member, member_all, same_members, keys_strict, keys_transitive}
use Rattle.xa_model.proofs.LastOfKeys.{writes_of_law}

-- the last write of a key, among all branches

not_same : (t u : ℕ) → u < t → (u == t) ≡ false
not_same t u lt = grind (arith, nat_tests)

not_same_above : (t u : ℕ) → t < u → (u == t) ≡ false
not_same_above t u lt = grind (arith, nat_tests)

no_and : (b c : Bool) → c ≡ false → (b && c) ≡ false
no_and true c e = e
no_and false c e = refl

yes_and : (b c : Bool) → c ≡ true → (b && c) ≡ b
yes_and true c e = e
yes_and false c e = refl

-- a branch of another timestamp
last_other : (key : List ℕ) (t u : ℕ) (fate : Option Fate) (ops : List Operation) (ws : List Written) → (u == t) ≡ false → last_write key t (writes_by u fate ops ++ ws) ≡ last_write key t ws
last_other key t u fate [] ws ne = refl
last_other key t u fate (Got k answer from ∷ older) ws ne = last_other key t u fate older ws ne
last_other key t u fate (Walked range found ∷ older) ws ne = last_other key t u fate older ws ne
last_other key t u fate (Wrote k value ∷ older) ws ne = rw (no_and (bytes_eq key k) (u == t) ne) (last_other key t u fate older ws ne)

last_below : (key : List ℕ) (t limit : ℕ) (bs : List Branch) → Descends limit bs → limit ≤ t → last_write key t (writes_in bs) ≡ None
last_below key t limit [] h le = refl
last_below key t limit (b ∷ bs) h le =
    last_other key t b.timestamp (fate_of b.phase) b.operations (writes_in bs) (not_same t b.timestamp (omega (arith, h.1))) ∙ last_below key t b.timestamp bs h.2 (omega (arith, h.1))

itself : (t : ℕ) → (t == t) ≡ true
itself t = grind (arith, nat_tests)

own_by : (key k : List ℕ) (value : Option (List ℕ)) (x : Bool) (rest more : Option (Option (List ℕ))) → bytes_eq k key ≡ bytes_eq key k → x ≡ true → rest ≡ more → cond (bytes_eq key k && x) (Some value) rest ≡ cond (bytes_eq k key) (Some value) more
own_by key k value x rest more same e f = rw (same, yes_and (bytes_eq key k) x e, f) refl

-- the branch itself
last_own : (key : List ℕ) (t : ℕ) (fate : Option Fate) (ops : List Operation) (ws : List Written) → last_write key t ws ≡ None → last_write key t (writes_by t fate ops ++ ws) ≡ write_of key ops
last_own key t fate [] ws none = none
last_own key t fate (Got k answer from ∷ older) ws none = last_own key t fate older ws none
last_own key t fate (Walked range found ∷ older) ws none = last_own key t fate older ws none
last_own key t fate (Wrote k value ∷ older) ws none =
    own_by key k value (t == t) (last_write key t (writes_by t fate older ++ ws)) (write_of key older) (bytes_eq_swapped k key) (itself t) (last_own key t fate older ws none)

last_by : (key : List ℕ) (xid : Triple) (b c : Branch) (bs : List Branch) (is : Bool) → is_known_as xid c ≡ is → cond is (Some c) (known_of bs xid) ≡ Some b → Descends c.timestamp bs
    → (known_of bs xid ≡ Some b → b.timestamp < c.timestamp) → (known_of bs xid ≡ Some b → last_write key b.timestamp (writes_in bs) ≡ write_of key b.operations)
    → last_write key b.timestamp (writes_in (c ∷ bs)) ≡ write_of key b.operations
last_by key xid b c bs true is found h under ih =
    let same : c ≡ b = cc found in
    subst (λ (x : Branch). last_write key x.timestamp (writes_in (c ∷ bs)) ≡ write_of key x.operations) same
    (last_own key c.timestamp (fate_of c.phase) c.operations (writes_in bs) (last_below key c.timestamp c.timestamp bs h (omega arith)))
last_by key xid b c bs false is found h under ih =
    last_other key b.timestamp c.timestamp (fate_of c.phase) c.operations (writes_in bs) (not_same_above b.timestamp c.timestamp (under found)) ∙ ih found

pub last_at : (key : List ℕ) (xid : Triple) (b : Branch) (limit : ℕ) (bs : List Branch) → Descends limit bs → known_of bs xid ≡ Some b → last_write key b.timestamp (writes_in bs) ≡ write_of key b.operations
last_at key xid b limit [] h found = absurd (cc found)
last_at key xid b limit (c ∷ bs) h found =
    last_by key xid b c bs (is_known_as xid c) refl found h.2 (λ e. known_below xid b c.timestamp bs h.2 e) (λ e. last_at key xid b c.timestamp bs h.2 e)

-- two lists in order of their keys, with the same values

below_all : (w : Write) (rest : List Write) → AllByRecursion (λ x. slice_cmp nat_cmp w.key x.key ≡ Less) rest → AllByRecursion (λ x. keys_before w x ≡ true) rest
below_all w [] h = tt
below_all w (x ∷ rest) h = (ap is_lt h.0, below_all w rest h.1)

pairwise : (ws : List Write) → IsAscending ws → Pairwise keys_before ws
pairwise [] h = tt
pairwise (w ∷ ws) h = (below_all w ws h.0, pairwise ws h.1)

listed_is : (key : List ℕ) (ws : List Write) → listed_value key ws ≡ value_in key ws
listed_is key [] = refl
listed_is key (w ∷ ws) = rw (bytes_eq_swapped key w.key, listed_is key ws) refl

below_by : (v w : Write) (c : Bool) → bytes_eq v.key w.key ≡ c → keys_before v w ≡ true → c ≡ false
below_by v w false e h = refl
below_by v w true e h =
    let same : v.key ≡ w.key = (bytes_eq-Decides v.key w.key).0 e in
    let strict : is_lt (slice_cmp nat_cmp v.key v.key) ≡ false = keys_strict.never v in
    absurd (cc (ap (λ k. is_lt (slice_cmp nat_cmp v.key k)) same, strict, h))

key_itself : (key : List ℕ) → bytes_eq key key ≡ true
key_itself key = (bytes_eq-Decides key key).1 refl

value_of_member : (w : Write) (ws : List Write) → Pairwise keys_before ws → Member w ws → value_in w.key ws ≡ Some w.value
value_of_member w [] h m = absurd m
value_of_member w (v ∷ ws) h (inl e) = let here : bytes_eq v.key w.key ≡ true = subst (λ (x : Write). bytes_eq v.key x.key ≡ true) (sym e) (key_itself v.key) in rw here (ap (λ (x : Write). Some x.value) (sym e))
value_of_member w (v ∷ ws) h (inr m) =
    let other : bytes_eq v.key w.key ≡ false = below_by v w (bytes_eq v.key w.key) refl (member_all (λ x. keys_before v x ≡ true) w ws m h.0) in
    rw other (value_of_member w ws h.1 m)

same_write : (a b : Write) → a.key ≡ b.key → a.value ≡ b.value → a ≡ b
same_write a b e f = both a.key b.key a.value b.value e f
  where
    both : (k l : List ℕ) (v u : Option (List ℕ)) → k ≡ l → v ≡ u → ◌≡◌ {A = Write} (record { key = k; value = v }) (record { key = l; value = u })
    both k l v u e f = cc (e, f)

member_by : (w v : Write) (ws : List Write) (c : Bool) → bytes_eq v.key w.key ≡ c → cond c (Some v.value) (value_in w.key ws) ≡ Some w.value → (value_in w.key ws ≡ Some w.value → Member w ws) → Member w (v ∷ ws)
member_by w v ws true e h rest = let same : v.value ≡ w.value = cc h in inl (same_write w v (sym ((bytes_eq-Decides v.key w.key).0 e)) (sym same))
member_by w v ws false e h rest = inr (rest h)

member_of_value : (w : Write) (ws : List Write) → value_in w.key ws ≡ Some w.value → Member w ws
member_of_value w [] h = absurd (cc h)
member_of_value w (v ∷ ws) h = member_by w v ws (bytes_eq v.key w.key) refl h (member_of_value w ws)

same_lists : (ws vs : List Write) → Pairwise keys_before ws → Pairwise keys_before vs → ((key : List ℕ) → value_in key ws ≡ value_in key vs) → ws ≡ vs
same_lists ws vs h k same =
    same_members keys_before keys_transitive keys_strict ws vs h k (λ w m. member_of_value w vs (sym (same w.key) ∙ value_of_member w ws h m))
    (λ w m. member_of_value w ws (same w.key ∙ value_of_member w vs k m))

-- the records list what the branch wrote
pub listed_writes : (xid : Triple) (b : Branch) (limit : ℕ) (bs : List Branch) (ws : List Write) → Descends limit bs → known_of bs xid ≡ Some b → IsWritesOf b.timestamp (writes_in bs) ws → ws ≡ writes_of b.operations
listed_writes xid b limit bs ws h found w =
    let law = writes_of_law b.operations in
    same_lists ws (writes_of b.operations) (pairwise ws w.ascending) law.0
    (λ key. sym (listed_is key ws) ∙ w.last key ∙ last_at key xid b limit bs h found ∙ sym (law.1 key))
