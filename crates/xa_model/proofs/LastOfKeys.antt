-- The writes that a branch leaves: its last of each key, in the order of keys.
use Rattle.std.proofs.Common.{◌≡◌, ℕ, Bool, true, false, cond, List, [], ◌∷◌, Some, refl, ap, subst, sym, ◌∙◌, rules}
use Rattle.std.specs.Prelude.{bytes_eq}
use Rattle.std.specs.Cmp.Lexicographic.{slice_cmp}
use Rattle.std.specs.Cmp.Rules.{comparing}
use Rattle.std.specs.List.{AllByRecursion}
use Rattle.std.specs.Ordering.{nat_cmp, is_lt, is_eq}
use Rattle.std.specs.declared.cmp.Ordering.{Ordering}
use Rattle.std.specs.declared.cmp.Ordering.TheVariants.{Less, Equal, Greater}
use Rattle.std.proofs.lemmas.Cmp.{nat_list_cmp_total}
use Rattle.std.proofs.lemmas.Slice.Eq.{bytes_eq-Decides}
use Rattle.xa_codes.specs.declared.write.Write.{Write}
use Rattle.xa_model.specs.State.{Operation, Got, Walked, Wrote}
use Rattle.xa_model.specs.Source.{write_of}
use Rattle.xa_model.specs.Durable.{Pairwise, keys_before, value_in, put_write, writes_of}
use Rattle.xa_model.specs.Laws.Durable.{WritesOf}
use Rattle.xa_model.proofs.Inserts.{all_imply}
use Rattle.xa_model.proofs.Tests.{reversed}
use Rattle.xa_model.proofs.Members.{keys_transitive}

-- keys

keys_cmp : (a b : List ℕ) → is_eq (slice_cmp nat_cmp a b) ≡ bytes_eq a b
keys_cmp a b = search (comparing, rules) depth 9

above_by : (a b : List ℕ) (o : Ordering) → slice_cmp nat_cmp a b ≡ o → bytes_eq a b ≡ false → is_lt o ≡ false → is_lt (slice_cmp nat_cmp b a) ≡ true
above_by a b Less e f g = absurd (cc g)
above_by a b Equal e f g = let same : is_eq Equal ≡ bytes_eq a b = ap is_eq (sym e) ∙ keys_cmp a b in absurd (cc (same, f))
above_by a b Greater e f g = ap is_lt (reversed (slice_cmp nat_cmp b a) (sym e ∙ nat_list_cmp_total.antisymm a b))

pub above : (a b : List ℕ) → bytes_eq a b ≡ false → is_lt (slice_cmp nat_cmp a b) ≡ false → is_lt (slice_cmp nat_cmp b a) ≡ true
above a b f g = above_by a b (slice_cmp nat_cmp a b) refl f g

same_key : (a b key : List ℕ) → bytes_eq a b ≡ true → bytes_eq b key ≡ bytes_eq a key
same_key a b key e = ap (λ k. bytes_eq k key) (sym ((bytes_eq-Decides a b).0 e))

not_both : (a b key : List ℕ) → bytes_eq a b ≡ false → bytes_eq b key ≡ true → bytes_eq a key ≡ true → ⊥
not_both a b key e f g =
    let same : a ≡ b = (bytes_eq-Decides a key).0 g ∙ sym ((bytes_eq-Decides b key).0 f) in absurd (cc ((bytes_eq-Decides a b).1 same, e))

-- a write that takes its place is found at its key, and the others at theirs

put_by : (key : List ℕ) (w v : Write) (vs new : List Write) (c d e f : Bool) → bytes_eq v.key w.key ≡ c → bytes_eq w.key key ≡ e → bytes_eq v.key key ≡ f
    → value_in key new ≡ cond (bytes_eq w.key key) (Some w.value) (value_in key vs)
    → value_in key (cond c (w ∷ vs) (cond d (v ∷ new) (w ∷ v ∷ vs))) ≡ cond e (Some w.value) (cond f (Some v.value) (value_in key vs))
put_by key w v vs new true d true f k l m rest = rw l refl
put_by key w v vs new true d false true k l m rest = absurd (cc (same_key v.key w.key key k, l, m))
put_by key w v vs new true d false false k l m rest = rw l refl
put_by key w v vs new false true true true k l m rest = absurd (not_both v.key w.key key k l m)
put_by key w v vs new false true true false k l m rest = rw m (rest ∙ rw l refl)
put_by key w v vs new false true false true k l m rest = rw m refl
put_by key w v vs new false true false false k l m rest = rw m (rest ∙ rw l refl)
put_by key w v vs new false false e f k l m rest = rw (l, m) refl

value_put : (key : List ℕ) (w : Write) (ws : List Write) → value_in key (put_write w ws) ≡ cond (bytes_eq w.key key) (Some w.value) (value_in key ws)
value_put key w [] = refl
value_put key w (v ∷ vs) =
    put_by key w v vs (put_write w vs) (bytes_eq v.key w.key) (is_lt (slice_cmp nat_cmp v.key w.key)) (bytes_eq w.key key) (bytes_eq v.key key) refl refl refl (value_put key w vs)

found_at : (key : List ℕ) (ops : List Operation) → value_in key (writes_of ops) ≡ write_of key ops
found_at key [] = refl
found_at key (Got k answer source ∷ older) = found_at key older
found_at key (Walked range found ∷ older) = found_at key older
found_at key (Wrote k value ∷ older) = value_put key (record { key = k; value = value }) (writes_of older) ∙ ap (cond (bytes_eq k key) (Some value)) (found_at key older)

-- keys ascend

all_by : (P : Write → Type 0) (w v : Write) (vs new : List Write) (c d : Bool) → P w → AllByRecursion P (v ∷ vs) → AllByRecursion P new → AllByRecursion P (cond c (w ∷ vs) (cond d (v ∷ new) (w ∷ v ∷ vs)))
all_by P w v vs new true d here all rest = (here, all.1)
all_by P w v vs new false true here all rest = (all.0, rest)
all_by P w v vs new false false here all rest = (here, all)

pub put_all : (P : Write → Type 0) (w : Write) (ws : List Write) → P w → AllByRecursion P ws → AllByRecursion P (put_write w ws)
put_all P w [] here all = (here, tt)
put_all P w (v ∷ vs) here all = all_by P w v vs (put_write w vs) (bytes_eq v.key w.key) (is_lt (slice_cmp nat_cmp v.key w.key)) here all (put_all P w vs here all.1)

ascend_by : (w v : Write) (vs : List Write) (c d : Bool) → bytes_eq v.key w.key ≡ c → keys_before v w ≡ d → Pairwise keys_before (v ∷ vs) → Pairwise keys_before (put_write w vs)
    → Pairwise keys_before (cond c (w ∷ vs) (cond d (v ∷ put_write w vs) (w ∷ v ∷ vs)))
ascend_by w v vs true d e f h rest =
    let same : v.key ≡ w.key = (bytes_eq-Decides v.key w.key).0 e in
    (subst (λ (k : List ℕ). AllByRecursion (λ u. is_lt (slice_cmp nat_cmp k u.key) ≡ true) vs) same h.0, h.1)
ascend_by w v vs false true e f h rest = (put_all (λ u. keys_before v u ≡ true) w vs f h.0, rest)
ascend_by w v vs false false e f h rest =
    let first : keys_before w v ≡ true = above v.key w.key e f in
    ((first, all_imply (λ u. keys_before v u ≡ true) (λ u. keys_before w u ≡ true) (λ u k. keys_transitive.trans w v u first k) vs h.0), h)

put_ascends : (w : Write) (ws : List Write) → Pairwise keys_before ws → Pairwise keys_before (put_write w ws)
put_ascends w [] h = (tt, tt)
put_ascends w (v ∷ vs) h = ascend_by w v vs (bytes_eq v.key w.key) (keys_before v w) refl refl h (put_ascends w vs h.1)

ascends : (ops : List Operation) → Pairwise keys_before (writes_of ops)
ascends [] = tt
ascends (Got k answer source ∷ older) = ascends older
ascends (Walked range found ∷ older) = ascends older
ascends (Wrote k value ∷ older) = put_ascends (record { key = k; value = value }) (writes_of older) (ascends older)

pub writes_of_law : WritesOf
writes_of_law ops = (ascends ops, λ key. found_at key ops)
