-- One step of a loop over the entries of a map.
use Rattle.std.proofs.Common.{◌≡◌, ◌<◌, ◌≤◌, ◌+◌, ◌-◌, ℕ, zero, suc, Bool, true, false, cond, List, [], ◌∷◌, ◌++◌, map, length, take, refl, ap, sym, ◌∙◌, arith}
use Rattle.std.specs.Prelude.{filter, fold}
use Rattle.std.specs.BTreeSet.{insert_key}
use Rattle.xa_xid.specs.Triple.{Triple, xid_cmp}

pub joined : {A : Type 0} (xs ys zs : List A) → (xs ++ ys) ++ zs ≡ xs ++ (ys ++ zs)
joined [] ys zs = refl
joined (x ∷ xs) ys zs = ap (λ us. x ∷ us) (joined xs ys zs)

pub append_none : {A : Type 0} (xs : List A) → xs ++ [] ≡ xs
append_none [] = refl
append_none (x ∷ xs) = ap (λ ys. x ∷ ys) (append_none xs)

-- one more body is put after the others
pub one_body : {E B : Type 0} (f : E → B) (done more : List B) (b : B) (e : E) (rest left : List E) (whole : List B) → left ≡ e ∷ rest → b ≡ f e → more ≡ done ++ b ∷ [] → done ++ map f left ≡ whole
    → more ++ map f rest ≡ whole
one_body f done more b e rest left whole is same put h =
    ap (λ bs. bs ++ map f rest) put ∙ (joined done (b ∷ []) (map f rest) ∙ (ap (λ c. done ++ c ∷ map f rest) same ∙ (sym (ap (λ es. done ++ map f es) is) ∙ h)))

-- once none is left, all stand after the others
pub all_bodies : {E B : Type 0} (f : E → B) (done whole : List B) (left : List E) → left ≡ [] → done ++ map f left ≡ whole → done ≡ whole
all_bodies f done whole left none h = sym (append_none done) ∙ (sym (ap (λ es. done ++ map f es) none) ∙ h)

-- one more XID takes its place, if it passes
name_by : (c : Bool) (x : Triple) (old xs : List Triple) → fold (insert_key xid_cmp) (cond c (insert_key xid_cmp old x) old) xs ≡ fold (insert_key xid_cmp) old (cond c (x ∷ xs) xs)
name_by true x old xs = refl
name_by false x old xs = refl

pub one_name : {E : Type 0} (p : Triple → Bool) (f : E → Triple) (x : Triple) (e : E) (rest left : List E) (old new whole : List Triple) → left ≡ e ∷ rest → x ≡ f e → new ≡ cond (p x) (insert_key xid_cmp old x) old
    → fold (insert_key xid_cmp) old (filter p (map f left)) ≡ whole → fold (insert_key xid_cmp) new (filter p (map f rest)) ≡ whole
one_name p f x e rest left old new whole is same put h =
    ap (λ xs. fold (insert_key xid_cmp) xs (filter p (map f rest))) put
    ∙ (name_by (p x) x old (filter p (map f rest))
    ∙ (ap (λ y. fold (insert_key xid_cmp) old (cond (p y) (y ∷ filter p (map f rest)) (filter p (map f rest)))) same
    ∙ (sym (ap (λ es. fold (insert_key xid_cmp) old (filter p (map f es))) is) ∙ h)))

-- one more of the first
pub first_more : (count i : ℕ) (taken : List Triple) (x : Triple) (old new whole : List Triple) → i < count → old ≡ x ∷ new → taken ++ take (count - i) old ≡ whole → (taken ++ x ∷ []) ++ take (count - (i + 1)) new ≡ whole
first_more count i taken x old new whole less is h =
    let n : count - i ≡ suc (count - (i + 1)) = omega arith in
    joined taken (x ∷ []) (take (count - (i + 1)) new) ∙ (sym (ap (λ xs. taken ++ take (count - i) xs) is ∙ (rw n refl)) ∙ h)

take_nil : (n : ℕ) → ◌≡◌ {A = List Triple} (take n []) []
take_nil zero = refl
take_nil (suc n) = refl

take_none : (n : ℕ) (xs : List Triple) → xs ≡ [] → take n xs ≡ []
take_none n xs e = ap (λ ys. take n ys) e ∙ take_nil n

pub none_left : (xs : List Triple) → (0 < length xs → ⊥) → xs ≡ []
none_left [] h = refl
none_left (x ∷ xs) h = absurd (h (omega arith))

pub first_none : (n : ℕ) (taken old whole : List Triple) → old ≡ [] → taken ++ take n old ≡ whole → taken ≡ whole
first_none n taken old whole none h = sym (append_none taken) ∙ (sym (ap (λ xs. taken ++ xs) (take_none n old none)) ∙ h)

pub first_all : (count i : ℕ) (taken old whole : List Triple) → count ≤ i → taken ++ take (count - i) old ≡ whole → taken ≡ whole
first_all count i taken old whole all h =
    let n : count - i ≡ 0 = omega arith in
    sym (append_none taken) ∙ (sym (ap (λ m. taken ++ take m old) n) ∙ h)

-- lists that are mapped twice
pub mapped_twice : {A B C : Type 0} (f : A → B) (g : B → C) (xs : List A) → map g (map f xs) ≡ map (λ x. g (f x)) xs
mapped_twice f g [] = refl
mapped_twice f g (x ∷ xs) = ap (λ ys. g (f x) ∷ ys) (mapped_twice f g xs)

pub mapped_both : {A B : Type 0} (f : A → B) (xs ys : List A) → map f (xs ++ ys) ≡ map f xs ++ map f ys
mapped_both f [] ys = refl
mapped_both f (x ∷ xs) ys = ap (λ zs. f x ∷ zs) (mapped_both f xs ys)

pub same_name : (p : Triple → Bool) (x : Triple) (rest left : List Triple) (old new whole : List Triple) → left ≡ x ∷ rest → new ≡ cond (p x) (insert_key xid_cmp old x) old
    → fold (insert_key xid_cmp) old (filter p left) ≡ whole → fold (insert_key xid_cmp) new (filter p rest) ≡ whole
same_name p x rest left old new whole is put h =
    ap (λ xs. fold (insert_key xid_cmp) xs (filter p rest)) put ∙ (name_by (p x) x old (filter p rest) ∙ (sym (ap (λ xs. fold (insert_key xid_cmp) old (filter p xs)) is) ∙ h))
