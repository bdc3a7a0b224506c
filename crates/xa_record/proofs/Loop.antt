-- Reading writes one after another.
use Rattle.std.proofs.Common.{◌≡◌, ℕ, suc, ◌+◌, ◌-◌, ◌<◌, ◌≤◌, Bool, true, false, cond, eqb, List, [], ◌∷◌, ◌++◌, length, Option, Some, None, is_some, option_map, refl, sym, ap, ◌∙◌, append_assoc, arith}
use Rattle.std.specs.Prelude.{IsSome}
use Rattle.std.proofs.lemmas.List.{append-nil}
use Rattle.xa_codes.specs.declared.write.Write.{Write}
use Rattle.xa_record.specs.Reading.{◌>>=◌, ended, write_at, writes_at}

with_first : (w : Write) (o : Option (List Write)) → (o >>= λ ws. Some (w ∷ ws)) ≡ option_map (λ ws. w ∷ ws) o
with_first w None = refl
with_first w (Some ws) = refl

-- one write more
one_more : (count i : ℕ) (previous rest : List ℕ) (w : Write) (after : List ℕ) → i < count → write_at previous rest ≡ Some (w, after)
    → writes_at (count - i) previous rest ≡ option_map (λ ws. w ∷ ws) (writes_at (count - (i + 1)) w.key after)
unfolding writes_at
one_more count i previous rest w after lt h =
    let k : count - i ≡ suc (count - (i + 1)) = omega arith in
    rw (k, h) (with_first w (writes_at (count - (i + 1)) w.key after))

-- no write
none_more : (count i : ℕ) (previous rest : List ℕ) → i < count → write_at previous rest ≡ None → writes_at (count - i) previous rest ≡ None
unfolding writes_at
none_more count i previous rest lt h =
    let k : count - i ≡ suc (count - (i + 1)) = omega arith in
    rw (k, h) refl

-- all were read
no_more : (count i : ℕ) (previous rest : List ℕ) → count ≤ i → writes_at (count - i) previous rest ≡ ended [] rest
unfolding writes_at
no_more count i previous rest le =
    let k : count - i ≡ 0 = omega arith in
    rw k refl

is_some-map : {A B : Type 0} (f : A → B) (o : Option A) → is_some (option_map f o) ≡ is_some o
is_some-map f None = refl
is_some-map f (Some x) = refl

moved : (front : List Write) (w : Write) (o : Option (List Write)) → option_map (λ ws. front ++ ws) (option_map (λ ws. w ∷ ws) o) ≡ option_map (λ ws. (front ++ w ∷ []) ++ ws) o
moved front w None = refl
moved front w (Some ws) = ap Some (sym (append_assoc front (w ∷ []) ws))

is_some-cond : {A : Type 0} (b : Bool) (x : A) → is_some (cond b (Some x) None) ≡ b
is_some-cond true x = refl
is_some-cond false x = refl

-- ---- whether all are there

pub tested_none : (count i : ℕ) (previous rest : List ℕ) (total : Option (List Write)) → i < count → None ≡ write_at previous rest
    → is_some (writes_at (count - i) previous rest) ≡ is_some total → false ≡ is_some total
tested_none count i previous rest total lt h so_far = sym (ap is_some (none_more count i previous rest lt (sym h))) ∙ so_far

pub tested_one : (count i : ℕ) (previous rest : List ℕ) (w : Write) (after : List ℕ) (total : Option (List Write)) → i < count → Some (w, after) ≡ write_at previous rest
    → is_some (writes_at (count - i) previous rest) ≡ is_some total → is_some (writes_at (count - (i + 1)) w.key after) ≡ is_some total
tested_one count i previous rest w after total lt h so_far =
    sym (ap is_some (one_more count i previous rest w after lt (sym h)) ∙ is_some-map (λ ws. w ∷ ws) (writes_at (count - (i + 1)) w.key after)) ∙ so_far

pub tested_all : (count i : ℕ) (previous rest : List ℕ) (total : Option (List Write)) → count ≤ i → is_some (writes_at (count - i) previous rest) ≡ is_some total → eqb (length rest) 0 ≡ is_some total
tested_all count i previous rest total le so_far = sym (ap is_some (no_more count i previous rest le) ∙ is_some-cond (eqb (length rest) 0) []) ∙ so_far

-- ---- the list of them

pub read_none : (count i : ℕ) (previous rest : List ℕ) (front : List Write) (total : Option (List Write)) → i < count → None ≡ write_at previous rest
    → option_map (λ ws. front ++ ws) (writes_at (count - i) previous rest) ≡ total → total ≡ None
read_none count i previous rest front total lt h so_far = sym so_far ∙ ap (option_map (λ ws. front ++ ws)) (none_more count i previous rest lt (sym h))

pub read_one : (count i : ℕ) (previous rest : List ℕ) (front next : List Write) (w : Write) (after : List ℕ) (total : Option (List Write)) → i < count → Some (w, after) ≡ write_at previous rest → next ≡ front ++ w ∷ []
    → option_map (λ ws. front ++ ws) (writes_at (count - i) previous rest) ≡ total → option_map (λ ws. next ++ ws) (writes_at (count - (i + 1)) w.key after) ≡ total
read_one count i previous rest front next w after total lt h e so_far =
    ap (λ (f : List Write). option_map (λ ws. f ++ ws) (writes_at (count - (i + 1)) w.key after)) e
    ∙ sym (ap (option_map (λ ws. front ++ ws)) (one_more count i previous rest w after lt (sym h)) ∙ moved front w (writes_at (count - (i + 1)) w.key after))
    ∙ so_far

all_or_none : (b : Bool) (front : List Write) (total : Option (List Write)) → IsSome total → option_map (λ ws. front ++ ws) (cond b (Some []) None) ≡ total → total ≡ Some front
all_or_none true front total h e = sym e ∙ ap Some (append-nil front)
all_or_none false front None h e = absurd cc
all_or_none false front (Some ws) h e = absurd cc

pub read_all : (count i : ℕ) (previous rest : List ℕ) (front : List Write) (total : Option (List Write)) → count ≤ i → IsSome total
    → option_map (λ ws. front ++ ws) (writes_at (count - i) previous rest) ≡ total → total ≡ Some front
read_all count i previous rest front total le h so_far = all_or_none (eqb (length rest) 0) front total h (sym (ap (option_map (λ ws. front ++ ws)) (no_more count i previous rest le)) ∙ so_far)
