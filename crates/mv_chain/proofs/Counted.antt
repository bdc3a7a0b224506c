-- How many versions the pool has after a step.
use Rattle.std.proofs.Common.{◌≡◌, ◌≢◌, ℕ, zero, suc, ◌+◌, ◌<◌, Bool, true, false, List, [], ◌∷◌, length, get_or, Option, None, Some, refl, sym, ap, ◌∙◌, subst, arith}
use Rattle.std.specs.Prelude.{is_some, option_map, ◌==◌, if◌then◌else◌}
use Rattle.std.specs.List.{insert, remove, count_by}
use Rattle.std.proofs.lemmas.Bool.Decides.{nat_tests}
use Rattle.std.proofs.lemmas.List.Edits.{length-remove}
use Rattle.std.proofs.lemmas.List.Recursion.{is_count_by}
use Rattle.slab.specs.Slab.{Updates, SameValues, slab_len}
use Rattle.mv_chain.specs.declared.version.Version.{Version}
use Rattle.mv_chain.specs.declared.pool.Pool.{Pool}
use Rattle.mv_chain.specs.Pool.{at, IsHeld, CountsAt, ChangesAt}
use Rattle.mv_chain.specs.Slots.{IsPutIn}
use Rattle.mv_chain.proofs.Chains.{each_at}

-- how many slots have a version
abbrev filled : List (Option Version) → ℕ
filled [] = 0
filled (x ∷ rest) = if is_some x then suc (filled rest) else filled rest

filled_is : (slots : List (Option Version)) → filled slots ≡ count_by is_some slots
filled_is = is_count_by filled is_some refl (λ x rest. one (is_some x) (filled rest))
  where
    one : (b : Bool) (n : ℕ) → (if b then suc n else n) ≡ (if b then 1 + n else n)
    one true n = omega arith
    one false n = refl

none_filled : (ys : List (Option Version)) → ((k : ℕ) → is_some (get_or ys k None) ≡ false) → filled ys ≡ 0
none_filled [] h = refl
none_filled (y ∷ ys) h = grind (arith, h zero, none_filled ys (λ k. h (suc k)))

same_filled : (xs ys : List (Option Version)) → ((k : ℕ) → is_some (get_or xs k None) ≡ is_some (get_or ys k None)) → filled xs ≡ filled ys
same_filled [] ys h = sym (none_filled ys (λ k. sym (h k)))
same_filled (x ∷ xs) [] h = none_filled (x ∷ xs) h
same_filled (x ∷ xs) (y ∷ ys) h = grind (arith, h zero, same_filled xs ys (λ k. h (suc k)))

one_more : (xs ys : List (Option Version)) (key : ℕ) → is_some (get_or xs key None) ≡ false → is_some (get_or ys key None) ≡ true → ((k : ℕ) → k ≢ key → is_some (get_or xs k None) ≡ is_some (get_or ys k None)) → suc (filled xs) ≡ filled ys
one_more xs [] key a b o = absurd (cc b)
one_more [] (y ∷ ys) zero a b o =
    let rest : filled ys ≡ 0 = none_filled ys (λ k. sym (o (suc k) (λ e. omega (arith, e)))) in
    grind (arith, b, rest)
one_more (x ∷ xs) (y ∷ ys) zero a b o =
    let rest : filled xs ≡ filled ys = same_filled xs ys (λ k. o (suc k) (λ e. omega (arith, e))) in
    grind (arith, a, b, rest)
one_more [] (y ∷ ys) (suc key) a b o =
    let first : false ≡ is_some y = o zero (λ e. omega (arith, e)) in
    let rest : suc (filled []) ≡ filled ys = one_more [] ys key a b (λ k ne. o (suc k) (λ e. ne (omega (arith, e)))) in
    grind (arith, first, rest)
one_more (x ∷ xs) (y ∷ ys) (suc key) a b o =
    let first : is_some x ≡ is_some y = o zero (λ e. omega (arith, e)) in
    let rest : suc (filled xs) ≡ filled ys = one_more xs ys key a b (λ k ne. o (suc k) (λ e. ne (omega (arith, e)))) in
    grind (arith, first, rest)

same_versions : (old new : Pool) → ((slot : ℕ) → is_some (at new slot) ≡ is_some (at old slot)) → slab_len new.slab ≡ slab_len old.slab
same_versions old new h = sym (filled_is new.slab.slots) ∙ (same_filled new.slab.slots old.slab.slots h ∙ filled_is old.slab.slots)

one_version_more : (old new : Pool) (slot : ℕ) → is_some (at old slot) ≡ false → is_some (at new slot) ≡ true → ((other : ℕ) → other ≢ slot → at new other ≡ at old other) → slab_len new.slab ≡ suc (slab_len old.slab)
one_version_more old new slot none some others =
    sym (filled_is new.slab.slots) ∙ (sym (one_more old.slab.slots new.slab.slots slot none some (λ k ne. ap is_some (sym (others k ne)))) ∙ ap suc (filled_is old.slab.slots))

pub changed_counts : (f : Version → Version) (slot : ℕ) (old new : Pool) (slots : List ℕ) → ChangesAt f slot old new → CountsAt old slots new slots
changed_counts f slot old new slots c = ap (λ n. n + length slots) (same_versions old new (λ s. here s (s == slot) refl))
  where
    kept : (o : Option Version) → is_some (option_map f o) ≡ is_some o
    kept None = refl
    kept (Some v) = refl

    here : (s : ℕ) (x : Bool) → (s == slot) ≡ x → is_some (at new s) ≡ is_some (at old s)
    here s true e =
        let same : s ≡ slot = grind (arith, nat_tests, e) in
        subst (λ (t : ℕ). is_some (at new t) ≡ is_some (at old t)) (sym same) (ap is_some c.changed ∙ kept (at old slot))
    here s false e = ap is_some (c.others s (λ same. grind (arith, nat_tests, e, same)))

pub grown_counts : (old new : Pool) (slots : List ℕ) → SameValues old.slab new.slab → CountsAt old slots new slots
grown_counts old new slots same = ap (λ n. n + length slots) (same_versions old new (λ s. ap is_some (same s)))

length_inserted : (slots : List ℕ) (i slot : ℕ) → length (insert slots i slot) ≡ suc (length slots)
length_inserted slots zero slot = refl
length_inserted [] (suc i) slot = refl
length_inserted (s ∷ slots) (suc i) slot = ap suc (length_inserted slots i slot)

pub put_in_counts : (i : ℕ) (v : Version) (old new : Pool) (slots left : List ℕ) → IsPutIn i v old slots new left → CountsAt old slots new left
put_in_counts i v old new slots left (slot, is, vacant, u) =
    let more = one_version_more old new slot (ap is_some vacant) (ap is_some u.changed) u.others in
    let longer = ap length is ∙ length_inserted slots i slot in
    omega (arith, more, longer)

pub taken_out_counts : (old new : Pool) (slots : List ℕ) (i d : ℕ) → i < length slots → IsHeld old slots → Updates old.slab new.slab (get_or slots i d) None → CountsAt old slots new (remove slots i)
taken_out_counts old new slots i d lt h u =
    let less = one_version_more new old (get_or slots i d) (ap is_some u.changed) (each_at (λ s. is_some (at old s) ≡ true) slots i d lt h.present) (λ other ne. sym (u.others other ne)) in
    let shorter = length-remove slots i lt in
    omega (arith, less, shorter)

pub counts_then : (old mid new : Pool) (a b c : List ℕ) → CountsAt old a mid b → CountsAt mid b new c → CountsAt old a new c
counts_then old mid new a b c l m = omega (arith, l, m)
