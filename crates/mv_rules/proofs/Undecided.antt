-- What the flat list says of a known branch at work: nothing of it is decided, and which keys it wrote.
use Rattle.std.proofs.Common.{◌≡◌, ℕ, ◌+◌, ◌<◌, ◌≤◌, Bool, true, false, cond, not, ◌&&◌, ◌||◌, ◌==◌, List, [], ◌∷◌, ◌++◌, Option, Some, None, refl, ap, sym, ◌∙◌, subst, arith}
use Rattle.std.specs.Prelude.{bytes_eq, is_some}
use Rattle.std.specs.List.{AllByRecursion as Each}
use Rattle.std.proofs.lemmas.Bool.Decides.{nat_tests}
use Rattle.std.proofs.lemmas.List.Folds.{list_any-append}
use Rattle.mv_chain.specs.declared.fate.Fate.{Fate}
use Rattle.mv_chain.specs.Accesses.{Written, has_undecided, is_undecided, IsUndecided, IsUnsettled, AreWhole}
use Rattle.xa_xid.specs.Triple.{Triple}
use Rattle.xa_model.specs.State.{Branch, Operation, Got, Walked, Wrote, is_known_as, known_of}
use Rattle.xa_model.specs.Source.{write_of, written_keys}
use Rattle.xa_model.specs.Invariants.Sound.{Descends}
use Rattle.xa_model.proofs.Times.{known_below}
use Rattle.mv_rules.specs.Accesses.{undecided_keys}
use Rattle.mv_rules.specs.Ties.{fate_of, writes_by, writes_one, writes_in}
use Rattle.mv_rules.proofs.Ties.{bytes_eq_swapped}
use Rattle.mv_rules.proofs.Tests.{time_itself, not_same, not_same_below, or_false, or_left}

each_append : (P : Written → Type 0) (xs ys : List Written) → Each P xs → Each P ys → Each P (xs ++ ys)
each_append P [] ys h k = k
each_append P (x ∷ xs) ys h k = (h.0, each_append P xs ys h.1 k)

-- a branch of another timestamp
undecided_other : (t u : ℕ) (fate : Option Fate) (ops : List Operation) → (u == t) ≡ false → IsUndecided t (writes_by u fate ops)
undecided_other t u fate [] ne = tt
undecided_other t u fate (Got key answer from ∷ older) ne = undecided_other t u fate older ne
undecided_other t u fate (Walked range found ∷ older) ne = undecided_other t u fate older ne
undecided_other t u fate (Wrote key value ∷ older) ne = (λ e. absurd (same_not u t ne e), undecided_other t u fate older ne)
  where
    same_not : (u t : ℕ) → (u == t) ≡ false → u ≡ t → ⊥
    same_not u t ne e = absurd (grind (arith, nat_tests))

held_other : (key : List ℕ) (t u : ℕ) (fate : Option Fate) (ops : List Operation) → (u == t) ≡ false → has_undecided key t (writes_by u fate ops) ≡ false
held_other key t u fate [] ne = refl
held_other key t u fate (Got k answer from ∷ older) ne = held_other key t u fate older ne
held_other key t u fate (Walked range found ∷ older) ne = held_other key t u fate older ne
held_other key t u fate (Wrote k value ∷ older) ne = rw (ne, held_other key t u fate older ne) (no_or (bytes_eq key k))
  where
    no_or : (b : Bool) → ((b && false) || false) ≡ false
    no_or true = refl
    no_or false = refl

pub count_other : (t u : ℕ) (fate : Option Fate) (ops : List Operation) (ws : List Written) → (u == t) ≡ false → undecided_keys t (writes_by u fate ops ++ ws) ≡ undecided_keys t ws
count_other t u fate [] ws ne = refl
count_other t u fate (Got k answer from ∷ older) ws ne = count_other t u fate older ws ne
count_other t u fate (Walked range found ∷ older) ws ne = count_other t u fate older ws ne
count_other t u fate (Wrote k value ∷ older) ws ne = rw ne (count_other t u fate older ws ne)

-- branches of lower timestamps
undecided_below : (t limit : ℕ) (bs : List Branch) → Descends limit bs → limit ≤ t → IsUndecided t (writes_in bs)
undecided_below t limit [] h le = tt
undecided_below t limit (b ∷ bs) h le =
    each_append (λ (w : Written). w.timestamp ≡ t → w.fate ≡ None) (writes_one b) (writes_in bs) (undecided_other t b.timestamp (fate_of b.phase) b.operations (not_same_below t b.timestamp (omega (arith, h.1))))
    (undecided_below t b.timestamp bs h.2 (omega (arith, h.1)))

pub held_below : (key : List ℕ) (t limit : ℕ) (bs : List Branch) → Descends limit bs → limit ≤ t → has_undecided key t (writes_in bs) ≡ false
held_below key t limit [] h le = refl
held_below key t limit (b ∷ bs) h le =
    list_any-append (λ (w : Written). bytes_eq key w.key && ((w.timestamp == t) && is_undecided w.fate)) (writes_one b) (writes_in bs)
    ∙ rw (held_other key t b.timestamp (fate_of b.phase) b.operations (not_same_below t b.timestamp (omega (arith, h.1)))) (held_below key t b.timestamp bs h.2 (omega (arith, h.1)))

pub count_below : (t limit : ℕ) (bs : List Branch) → Descends limit bs → limit ≤ t → undecided_keys t (writes_in bs) ≡ 0
count_below t limit [] h le = refl
count_below t limit (b ∷ bs) h le =
    count_other t b.timestamp (fate_of b.phase) b.operations (writes_in bs) (not_same_below t b.timestamp (omega (arith, h.1))) ∙ count_below t b.timestamp bs h.2 (omega (arith, h.1))

-- the branch itself
undecided_own : (t : ℕ) (ops : List Operation) → IsUndecided t (writes_by t None ops)
undecided_own t [] = tt
undecided_own t (Got key answer from ∷ older) = undecided_own t older
undecided_own t (Walked range found ∷ older) = undecided_own t older
undecided_own t (Wrote key value ∷ older) = (λ e. refl, undecided_own t older)

held_by : (key k : List ℕ) (value : Option (List ℕ)) (t : ℕ) (older : List Operation) (c : Bool) → bytes_eq k key ≡ c → (t == t) ≡ true → has_undecided key t (writes_by t None older) ≡ is_some (write_of key older)
    → has_undecided key t (writes_by t None (Wrote k value ∷ older)) ≡ is_some (write_of key (Wrote k value ∷ older))
held_by key k value t older true e self ih = let here : bytes_eq key k ≡ true = bytes_eq_swapped key k ∙ e in rw (here, self, e) refl
held_by key k value t older false e self ih = let here : bytes_eq key k ≡ false = bytes_eq_swapped key k ∙ e in rw (here, e) ih

held_own : (key : List ℕ) (t : ℕ) (ops : List Operation) → has_undecided key t (writes_by t None ops) ≡ is_some (write_of key ops)
held_own key t [] = refl
held_own key t (Got k answer from ∷ older) = held_own key t older
held_own key t (Walked range found ∷ older) = held_own key t older
held_own key t (Wrote k value ∷ older) = held_by key k value t older (bytes_eq k key) refl (time_itself t) (held_own key t older)

held_both : (key : List ℕ) (t : ℕ) (ops : List Operation) (ws : List Written) → has_undecided key t ws ≡ false → has_undecided key t (writes_by t None ops ++ ws) ≡ is_some (write_of key ops)
held_both key t ops ws none =
    list_any-append (λ (w : Written). bytes_eq key w.key && ((w.timestamp == t) && is_undecided w.fate)) (writes_by t None ops) ws ∙ rw none (or_false (has_undecided key t (writes_by t None ops)) ∙ held_own key t ops)

count_by : (t n m : ℕ) (c : Bool) → n ≡ m → cond (not c) (n + 1) n ≡ cond c m (m + 1)
count_by t n m true e = e
count_by t n m false e = ap (λ (i : ℕ). i + 1) e

pub count_own : (t : ℕ) (ops : List Operation) (ws : List Written) → ((key : List ℕ) → has_undecided key t ws ≡ false) → undecided_keys t ws ≡ 0 → undecided_keys t (writes_by t None ops ++ ws) ≡ written_keys ops
count_own t [] ws none zero_ = zero_
count_own t (Got k answer from ∷ older) ws none zero_ = count_own t older ws none zero_
count_own t (Walked range found ∷ older) ws none zero_ = count_own t older ws none zero_
count_own t (Wrote k value ∷ older) ws none zero_ =
    rw (time_itself t, held_both k t older ws (none k)) (count_by t (undecided_keys t (writes_by t None older ++ ws)) (written_keys older) (is_some (write_of k older)) (count_own t older ws none zero_))

-- a known branch at work, among all branches
pub record IsAtWork (b : Branch) (bs : List Branch) : Type 0 where
  pub all_undecided : IsUndecided b.timestamp (writes_in bs)
  pub held : (key : List ℕ) → has_undecided key b.timestamp (writes_in bs) ≡ is_some (write_of key b.operations)
  pub count : undecided_keys b.timestamp (writes_in bs) ≡ written_keys b.operations

head_works : (b : Branch) (bs : List Branch) (fate : Option Fate) → fate_of b.phase ≡ fate → fate ≡ None → Descends b.timestamp bs → IsAtWork b (b ∷ bs)
head_works b bs None e none h = record {
  all_undecided = rw e (each_append (λ (w : Written). w.timestamp ≡ b.timestamp → w.fate ≡ None) (writes_by b.timestamp None b.operations) (writes_in bs) (undecided_own b.timestamp b.operations) (undecided_below b.timestamp b.timestamp bs h (omega arith)));
  held = λ key. rw e (held_both key b.timestamp b.operations (writes_in bs) (held_below key b.timestamp b.timestamp bs h (omega arith)));
  count = rw e (count_own b.timestamp b.operations (writes_in bs) (λ key. held_below key b.timestamp b.timestamp bs h (omega arith)) (count_below b.timestamp b.timestamp bs h (omega arith)));
}
head_works b bs (Some f) e none h = absurd (cc none)

tail_works : (b c : Branch) (bs : List Branch) → b.timestamp < c.timestamp → IsAtWork b bs → IsAtWork b (c ∷ bs)
tail_works b c bs lt w =
    let ne : (c.timestamp == b.timestamp) ≡ false = not_same b.timestamp c.timestamp lt in
    record {
      all_undecided = each_append (λ (x : Written). x.timestamp ≡ b.timestamp → x.fate ≡ None) (writes_one c) (writes_in bs) (undecided_other b.timestamp c.timestamp (fate_of c.phase) c.operations ne) w.all_undecided;
      held = λ key.
          list_any-append (λ (x : Written). bytes_eq key x.key && ((x.timestamp == b.timestamp) && is_undecided x.fate)) (writes_one c) (writes_in bs)
          ∙ rw (held_other key b.timestamp c.timestamp (fate_of c.phase) c.operations ne) (w.held key);
      count = count_other b.timestamp c.timestamp (fate_of c.phase) c.operations (writes_in bs) ne ∙ w.count;
    }

works_by : (xid : Triple) (b c : Branch) (bs : List Branch) (is : Bool) → is_known_as xid c ≡ is → cond is (Some c) (known_of bs xid) ≡ Some b → fate_of b.phase ≡ None → Descends c.timestamp bs
    → (known_of bs xid ≡ Some b → b.timestamp < c.timestamp) → (known_of bs xid ≡ Some b → IsAtWork b bs) → IsAtWork b (c ∷ bs)
works_by xid b c bs true is found working h under ih =
    let same : c ≡ b = cc found in
    let phase : fate_of c.phase ≡ None = subst (λ (x : Branch). fate_of x.phase ≡ None) (sym same) working in
    let here : IsAtWork c (c ∷ bs) = head_works c bs (fate_of c.phase) refl (rw phase refl) h in
    subst (λ (x : Branch). IsAtWork x (c ∷ bs)) same here
works_by xid b c bs false is found working h under ih = tail_works b c bs (under found) (ih found)

pub at_work : (xid : Triple) (b : Branch) (limit : ℕ) (bs : List Branch) → Descends limit bs → known_of bs xid ≡ Some b → fate_of b.phase ≡ None → IsAtWork b bs
at_work xid b limit [] h found working = absurd (cc found)
at_work xid b limit (c ∷ bs) h found working =
    works_by xid b c bs (is_known_as xid c) refl found working h.2 (λ e. known_below xid b c.timestamp bs h.2 e) (λ e. at_work xid b c.timestamp bs h.2 e working)

-- timestamps of branches are above 0
pub above_zero : (xid : Triple) (b : Branch) (limit : ℕ) (bs : List Branch) → Descends limit bs → known_of bs xid ≡ Some b → 0 < b.timestamp
above_zero xid b limit [] h found = absurd (cc found)
above_zero xid b limit (c ∷ bs) h found = above_by (is_known_as xid c) found (above_zero xid b c.timestamp bs h.2)
  where
    above_by : (is : Bool) → cond is (Some c) (known_of bs xid) ≡ Some b → (known_of bs xid ≡ Some b → 0 < b.timestamp) → 0 < b.timestamp
    above_by true e rest = let same : c ≡ b = cc e in subst (λ (x : Branch). 0 < x.timestamp) same h.0
    above_by false e rest = rest e

pub unsettled : (xid : Triple) (b : Branch) (limit low : ℕ) (bs : List Branch) → Descends limit bs → known_of bs xid ≡ Some b → fate_of b.phase ≡ None → low ≤ b.timestamp → IsUnsettled b.timestamp low (writes_in bs)
unsettled xid b limit low bs h found working above = record {
  positive = above_zero xid b limit bs h found;
  above = above;
  all_undecided = (at_work xid b limit bs h found working).all_undecided;
}

-- a branch in doubt may be settled whichever boot it is of
pub undecided : (xid : Triple) (b : Branch) (limit : ℕ) (bs : List Branch) → Descends limit bs → known_of bs xid ≡ Some b → fate_of b.phase ≡ None → IsUndecided b.timestamp (writes_in bs)
undecided xid b limit bs h found working = (at_work xid b limit bs h found working).all_undecided

-- what one branch wrote is undecided as a whole, or decided

held_decided : (key : List ℕ) (t u : ℕ) (f : Fate) (ops : List Operation) → has_undecided key t (writes_by u (Some f) ops) ≡ false
held_decided key t u f [] = refl
held_decided key t u f (Got k answer from ∷ older) = held_decided key t u f older
held_decided key t u f (Walked range found ∷ older) = held_decided key t u f older
held_decided key t u f (Wrote k value ∷ older) = rw (held_decided key t u f older) (none (bytes_eq key k) (u == t))
  where
    none : (a b : Bool) → ((a && (b && false)) || false) ≡ false
    none true true = refl
    none true false = refl
    none false b = refl

undecided_group : (key : List ℕ) (t u : ℕ) (fate : Option Fate) (ops : List Operation) → u ≡ t → has_undecided key t (writes_by u fate ops) ≡ true → IsUndecided t (writes_by u fate ops)
undecided_group key t u None ops same h = subst (λ (n : ℕ). IsUndecided n (writes_by u None ops)) same (undecided_own u ops)
undecided_group key t u (Some f) ops same h = absurd (cc (held_decided key t u f ops, h))

or_right : (a b : Bool) → a ≡ false → (a || b) ≡ true → b ≡ true
or_right true b e h = absurd (cc e)
or_right false b e h = h

pub are_whole : (limit : ℕ) (bs : List Branch) → Descends limit bs → AreWhole (writes_in bs)
are_whole limit [] h t key all_undecided = tt
are_whole limit (b ∷ bs) h t key all_undecided = at (b.timestamp == t) refl (are_whole b.timestamp bs h.2 t key)
  where
    either : (has_undecided key t (writes_one b) || has_undecided key t (writes_in bs)) ≡ true
    either = sym (list_any-append (λ (w : Written). bytes_eq key w.key && ((w.timestamp == t) && is_undecided w.fate)) (writes_one b) (writes_in bs)) ∙ all_undecided

    at : (c : Bool) → (b.timestamp == t) ≡ c → (has_undecided key t (writes_in bs) ≡ true → IsUndecided t (writes_in bs)) → IsUndecided t (writes_in (b ∷ bs))
    at true e rest =
        let same : b.timestamp ≡ t = grind (arith, nat_tests, e) in
        let none = held_below key t b.timestamp bs h.2 (omega (arith, same)) in
        each_append (λ (w : Written). w.timestamp ≡ t → w.fate ≡ None) (writes_one b) (writes_in bs)
        (undecided_group key t b.timestamp (fate_of b.phase) b.operations same (or_left (has_undecided key t (writes_one b)) (has_undecided key t (writes_in bs)) none either))
        (undecided_below t b.timestamp bs h.2 (omega (arith, same)))
    at false ne rest =
        each_append (λ (w : Written). w.timestamp ≡ t → w.fate ≡ None) (writes_one b) (writes_in bs) (undecided_other t b.timestamp (fate_of b.phase) b.operations ne)
        (rest (or_right (has_undecided key t (writes_one b)) (has_undecided key t (writes_in bs)) (held_other key t b.timestamp (fate_of b.phase) b.operations ne) either))
