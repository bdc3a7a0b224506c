-- Which keys the branches in doubt have written, among the branches that lasted and among the state's.
use Rattle.std.proofs.Common.{◌≡◌, ℕ, ◌+◌, Bool, true, false, ◌&&◌, ◌||◌, ◌==◌, List, [], ◌∷◌, ◌++◌, length, Option, Some, None, refl, ap, sym, ◌∙◌, arith}
use Rattle.std.specs.Prelude.{if◌then◌else◌, bytes_eq, is_some}
use Rattle.std.specs.List.{AllByRecursion as Each}
use Rattle.xa_codes.specs.declared.write.Write.{Write}
use Rattle.mv_chain.specs.declared.fate.Fate.{Fate}
use Rattle.mv_chain.specs.Accesses.{Written, has_undecided, is_undecided}
use Rattle.xa_model.specs.State.{Operation, Got, Walked, Wrote}
use Rattle.xa_model.specs.Source.{write_of}
use Rattle.xa_model.specs.Durable.{Pairwise, keys_before, value_in, writes_of}
use Rattle.xa_model.proofs.LastOfKeys.{writes_of_law}
use Rattle.mv_rules.specs.Accesses.{undecided_keys}
use Rattle.mv_rules.specs.Ties.{writes_by}
use Rattle.mv_rules.specs.Restoring.{with_write, with_branch}
use Rattle.mv_rules.proofs.Ties.{bytes_eq_swapped}
use Rattle.xa_model.proofs.Keys.{key_below}
use Rattle.mv_rules.proofs.Tests.{time_itself, and_no}

-- which keys

or_both : (x y s r : Bool) → ((y && s) || ((x && y) || r)) ≡ ((y && (if x then true else s)) || r)
or_both true true true r = refl
or_both true true false r = refl
or_both true false s r = refl
or_both false y s r = refl

some_if : {A : Type 0} (x : Bool) (v : A) (o : Option A) → is_some (if x then Some v else o) ≡ (if x then true else is_some o)
some_if true v o = refl
some_if false v o = refl

pub held_branch : (key : List ℕ) (t u : ℕ) (fate : Option Fate) (ws : List Write) (rest : List Written) → has_undecided key t (with_branch u fate ws rest) ≡ ((((u == t) && is_undecided fate) && is_some (value_in key ws)) || has_undecided key t rest)
held_branch key t u fate [] rest = none ((u == t) && is_undecided fate)
  where
    none : (y : Bool) → has_undecided key t rest ≡ ((y && false) || has_undecided key t rest)
    none true = refl
    none false = refl
held_branch key t u fate (w ∷ ws) rest =
    held_branch key t u fate ws (with_write u fate rest w)
    ∙ ap (λ x. ((((u == t) && is_undecided fate) && is_some (value_in key ws)) || ((x && ((u == t) && is_undecided fate)) || has_undecided key t rest))) (bytes_eq_swapped key w.key)
    ∙ or_both (bytes_eq w.key key) ((u == t) && is_undecided fate) (is_some (value_in key ws)) (has_undecided key t rest)
    ∙ ap (λ s. ((((u == t) && is_undecided fate) && s) || has_undecided key t rest)) (sym (some_if (bytes_eq w.key key) w.value (value_in key ws)))

or_first : (x y s r : Bool) → ((x && y) || ((y && s) || r)) ≡ ((y && (if x then true else s)) || r)
or_first true true s r = refl
or_first true false s r = refl
or_first false y s r = refl

pub held_group : (key : List ℕ) (t u : ℕ) (fate : Option Fate) (ops : List Operation) (rest : List Written) → has_undecided key t (writes_by u fate ops ++ rest) ≡ ((((u == t) && is_undecided fate) && is_some (write_of key ops)) || has_undecided key t rest)
held_group key t u fate [] rest = none ((u == t) && is_undecided fate)
  where
    none : (y : Bool) → has_undecided key t rest ≡ ((y && false) || has_undecided key t rest)
    none true = refl
    none false = refl
held_group key t u fate (Got k answer from ∷ older) rest = held_group key t u fate older rest
held_group key t u fate (Walked range found ∷ older) rest = held_group key t u fate older rest
held_group key t u fate (Wrote k value ∷ older) rest =
    ap (λ b. ((bytes_eq key k && ((u == t) && is_undecided fate)) || b)) (held_group key t u fate older rest)
    ∙ ap (λ x. ((x && ((u == t) && is_undecided fate)) || ((((u == t) && is_undecided fate) && is_some (write_of key older)) || has_undecided key t rest))) (bytes_eq_swapped key k)
    ∙ or_first (bytes_eq k key) ((u == t) && is_undecided fate) (is_some (write_of key older)) (has_undecided key t rest)
    ∙ ap (λ s. ((((u == t) && is_undecided fate) && s) || has_undecided key t rest)) (sym (some_if (bytes_eq k key) value (write_of key older)))

-- the branch's own writes and those that it leaves
pub held_left : (key : List ℕ) (t u : ℕ) (fate : Option Fate) (ops : List Operation) (xs ys : List Written) → has_undecided key t xs ≡ has_undecided key t ys → has_undecided key t (with_branch u fate (writes_of ops) xs) ≡ has_undecided key t (writes_by u fate ops ++ ys)
held_left key t u fate ops xs ys e = held_branch key t u fate (writes_of ops) xs ∙ rw ((writes_of_law ops).1 key, e) (sym (held_group key t u fate ops ys))

pub held_decided : (key : List ℕ) (t u : ℕ) (f : Fate) (ws : List Write) (rest : List Written) → has_undecided key t (with_branch u (Some f) ws rest) ≡ has_undecided key t rest
held_decided key t u f ws rest = held_branch key t u (Some f) ws rest ∙ rw (and_no (u == t)) refl

pub group_decided : (key : List ℕ) (t u : ℕ) (f : Fate) (ops : List Operation) (rest : List Written) → has_undecided key t (writes_by u (Some f) ops ++ rest) ≡ has_undecided key t rest
group_decided key t u f ops rest = held_group key t u (Some f) ops rest ∙ rw (and_no (u == t)) refl

-- how many keys

pub count_decided : (t u : ℕ) (f : Fate) (ws : List Write) (rest : List Written) → undecided_keys t (with_branch u (Some f) ws rest) ≡ undecided_keys t rest
count_decided t u f [] rest = refl
count_decided t u f (w ∷ ws) rest = count_decided t u f ws (with_write u (Some f) rest w) ∙ rw (and_no (u == t)) refl

pub count_group_decided : (t u : ℕ) (f : Fate) (ops : List Operation) (rest : List Written) → undecided_keys t (writes_by u (Some f) ops ++ rest) ≡ undecided_keys t rest
count_group_decided t u f [] rest = refl
count_group_decided t u f (Got k answer from ∷ older) rest = count_group_decided t u f older rest
count_group_decided t u f (Walked range found ∷ older) rest = count_group_decided t u f older rest
count_group_decided t u f (Wrote k value ∷ older) rest = rw (and_no (u == t)) (count_group_decided t u f older rest)

pub count_branch_other : (t u : ℕ) (fate : Option Fate) (ws : List Write) (rest : List Written) → (u == t) ≡ false → undecided_keys t (with_branch u fate ws rest) ≡ undecided_keys t rest
count_branch_other t u fate [] rest ne = refl
count_branch_other t u fate (w ∷ ws) rest ne = count_branch_other t u fate ws (with_write u fate rest w) ne ∙ rw ne refl

pub count_branch : (t : ℕ) (ws : List Write) (rest : List Written) → Pairwise keys_before ws → Each (λ w. has_undecided w.key t rest ≡ false) ws → undecided_keys t (with_branch t None ws rest) ≡ undecided_keys t rest + length ws
count_branch t [] rest h none = omega arith
count_branch t (w ∷ ws) rest h none =
    let one : undecided_keys t (with_write t None rest w) ≡ undecided_keys t rest + 1 = rw (time_itself t, none.0) refl in
    let more = count_branch t ws (with_write t None rest w) h.1 (others ws h.0 none.1) in
    omega (arith, one, more)
  where
    others : (xs : List Write) → Each (λ x. keys_before w x ≡ true) xs → Each (λ x. has_undecided x.key t rest ≡ false) xs → Each (λ x. has_undecided x.key t (with_write t None rest w) ≡ false) xs
    others [] k n = tt
    others (x ∷ xs) k n =
        let apart : bytes_eq x.key w.key ≡ false = bytes_eq_swapped x.key w.key ∙ key_below w x k.0 in
        (rw (apart, n.0) refl, others xs k.1 n.1)
