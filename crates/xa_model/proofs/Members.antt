-- Lists in order with the same members are one; so prepared branches and completed XIDs are told by what is found by XID.
use Rattle.std.proofs.Common.{◌≡◌, ◌⊎◌, inl, inr, ℕ, Bool, true, false, not, cond, List, [], ◌∷◌, Some, refl, ap, subst, sym, ◌∙◌, arith}
use Rattle.std.specs.Prelude.{find, nat_lt, bytes_eq}
use Rattle.std.specs.Cmp.Lexicographic.{slice_cmp}
use Rattle.std.specs.List.{AllByRecursion}
use Rattle.std.specs.Ordering.{nat_cmp, is_lt}
use Rattle.std.specs.declared.cmp.Ordering.{Ordering}
use Rattle.std.specs.declared.cmp.Ordering.TheVariants.{Less, Equal, Greater}
use Rattle.std.proofs.lemmas.Bool.{not-true, not_from_false}
use Rattle.std.proofs.lemmas.Bool.Decides.{nat_tests}
use Rattle.std.proofs.lemmas.Cmp.{nat_list_cmp_total, tied_itself}
use Rattle.xa_codes.specs.declared.write.Write.{Write}
use Rattle.xa_xid.specs.Triple.{Triple, xid_eq, xid_cmp}
use Rattle.xa_xid.proofs.Same.{xid_eq_itself}
use Rattle.xa_model.specs.State.{Decided}
use Rattle.xa_model.specs.Durable.{PreparedBranch, Pairwise, commits_before, prepares_before, named_before, named_apart, keys_before}
use Rattle.xa_model.proofs.Inserts.{IsTransitive, all_imply}
use Rattle.xa_model.proofs.Tests.{prepares_transitive, names_transitive, below_apart}
use Rattle.std.proofs.lemmas.Slice.Eq.{bytes_eq-Decides}

-- members

abbrev pub Member : {A : Type 0} → A → List A → Type 0
Member x [] = ⊥
Member x (y ∷ ys) = (x ≡ y) ⊎ Member x ys

pub member_all : {A : Type 0} (P : A → Type 0) (x : A) (xs : List A) → Member x xs → AllByRecursion P xs → P x
member_all P x [] m h = absurd m
member_all P x (y ∷ ys) (inl e) h = subst P (sym e) h.0
member_all P x (y ∷ ys) (inr m) h = member_all P x ys m h.1

pub record IsStrict {A : Type 0} (before : A → A → Bool) : Type 0 where
  pub never : (x : A) → before x x ≡ false

-- lists in order with the same members

heads : {A : Type 0} (before : A → A → Bool) (t : IsTransitive before) (s : IsStrict before) (x y : A) (xs ys : List A) → Pairwise before (x ∷ xs) → Pairwise before (y ∷ ys)
    → (x ≡ y) ⊎ Member x ys → (y ≡ x) ⊎ Member y xs → x ≡ y
heads before t s x y xs ys h k (inl e) n = e
heads before t s x y xs ys h k (inr m) (inl e) = sym e
heads before t s x y xs ys h k (inr m) (inr n) =
    let yx : before y x ≡ true = member_all (λ z. before y z ≡ true) x ys m k.0 in
    let xy : before x y ≡ true = member_all (λ z. before x z ≡ true) y xs n h.0 in
    absurd (cc (t.trans x y x xy yx, s.never x))

tails : {A : Type 0} (before : A → A → Bool) (s : IsStrict before) (x y z : A) (xs ys : List A) → Pairwise before (x ∷ xs) → x ≡ y → Member z xs → (z ≡ y) ⊎ Member z ys → Member z ys
tails before s x y z xs ys h e m (inr n) = n
tails before s x y z xs ys h e m (inl f) =
    let xz : before x z ≡ true = member_all (λ w. before x w ≡ true) z xs m h.0 in
    let same : z ≡ x = f ∙ sym e in
    absurd (cc (subst (λ w. before x w ≡ true) same xz, s.never x))

pub same_members : {A : Type 0} (before : A → A → Bool) (t : IsTransitive before) (s : IsStrict before) (xs ys : List A) → Pairwise before xs → Pairwise before ys
    → ((z : A) → Member z xs → Member z ys) → ((z : A) → Member z ys → Member z xs) → xs ≡ ys
same_members before t s [] [] h k f g = refl
same_members before t s [] (y ∷ ys) h k f g = absurd (g y (inl refl))
same_members before t s (x ∷ xs) [] h k f g = absurd (f x (inl refl))
same_members before t s (x ∷ xs) (y ∷ ys) h k f g =
    let first : x ≡ y = heads before t s x y xs ys h k (f x (inl refl)) (g y (inl refl)) in
    let rest : xs ≡ ys = same_members before t s xs ys h.1 k.1
    (λ z m. tails before s x y z xs ys h first m (f z (inr m))) (λ z m. tails before s y x z ys xs k (sym first) m (g z (inr m))) in
    cc (first, rest)

-- one of two members with one place
pub same_place_by : {A : Type 0} (before : A → A → Bool) (x y : A) (zs : List A) → Pairwise before zs → before x y ≡ false → before y x ≡ false → Member x zs → Member y zs → x ≡ y
same_place_by before x y [] h e f m n = absurd m
same_place_by before x y (z ∷ zs) h e f (inl a) (inl b) = a ∙ sym b
same_place_by before x y (z ∷ zs) h e f (inl a) (inr n) =
    let zy : before z y ≡ true = member_all (λ w. before z w ≡ true) y zs n h.0 in absurd (cc (subst (λ w. before w y ≡ true) (sym a) zy, e))
same_place_by before x y (z ∷ zs) h e f (inr m) (inl b) =
    let zx : before z x ≡ true = member_all (λ w. before z w ≡ true) x zs m h.0 in absurd (cc (subst (λ w. before w x ≡ true) (sym b) zx, f))
same_place_by before x y (z ∷ zs) h e f (inr m) (inr n) = same_place_by before x y zs h.1 e f m n

not_itself : (n : ℕ) → nat_lt n n ≡ false
not_itself n = grind (arith, nat_tests)

pub commits_strict : IsStrict commits_before
commits_strict = record { never = λ x. not_itself x.timestamp }

prepares_strict : IsStrict prepares_before
prepares_strict = record { never = λ x. not_itself x.timestamp }

never_below : (x : Triple) (c : Bool) → is_lt (xid_cmp x x) ≡ c → c ≡ false
never_below x false e = refl
never_below x true e = absurd (cc (below_apart x x e, xid_eq_itself x))

pub names_strict : IsStrict named_before
names_strict = record { never = λ x. never_below x.xid (is_lt (xid_cmp x.xid x.xid)) refl }

pub less_is : (o : Ordering) → is_lt o ≡ true → o ≡ Less
less_is Less e = refl
less_is Equal e = absurd (cc e)
less_is Greater e = absurd (cc e)

pub keys_strict : IsStrict keys_before
keys_strict = record { never = λ w. ap is_lt (tied_itself nat_list_cmp_total w.key) }

pub keys_transitive : IsTransitive keys_before
keys_transitive = record {
  trans = λ x y z e f. ap is_lt (nat_list_cmp_total.trans x.key y.key z.key (less_is (slice_cmp nat_cmp x.key y.key) e) (less_is (slice_cmp nat_cmp y.key z.key) f));
}

other_key_by : (w v : Write) (c : Bool) → bytes_eq v.key w.key ≡ c → keys_before w v ≡ true → c ≡ false
other_key_by w v false e h = refl
other_key_by w v true e h =
    let same : v.key ≡ w.key = (bytes_eq-Decides v.key w.key).0 e in
    let itself : is_lt (slice_cmp nat_cmp w.key w.key) ≡ true = subst (λ (k : List ℕ). is_lt (slice_cmp nat_cmp w.key k) ≡ true) same h in
    absurd (cc (itself, keys_strict.never w))

-- a write after another is of another key
pub other_key : (w v : Write) → keys_before w v ≡ true → bytes_eq v.key w.key ≡ false
other_key w v h = other_key_by w v (bytes_eq v.key w.key) refl h

-- what is found by a name is a member, and a member is found by its name

find_member_by : {A : Type 0} (p : A → Bool) (x y : A) (ys : List A) (c : Bool) → cond c (Some y) (find p ys) ≡ Some x → (find p ys ≡ Some x → Member x ys) → (x ≡ y) ⊎ Member x ys
find_member_by p x y ys true e rest = let same : y ≡ x = cc e in inl (sym same)
find_member_by p x y ys false e rest = inr (rest e)

find_member : {A : Type 0} (p : A → Bool) (x : A) (xs : List A) → find p xs ≡ Some x → Member x xs
find_member p x [] e = absurd (cc e)
find_member p x (y ∷ ys) e = find_member_by p x y ys (p y) e (find_member p x ys)

-- where no other has its name
member_find : {A : Type 0} (named : Triple → A → Bool) (name : A → Triple) (itself : (x : A) → named (name x) x ≡ true) (x : A) (xs : List A) → Pairwise (λ a b. not (named (name b) a)) xs → Member x xs
    → find (named (name x)) xs ≡ Some x
member_find named name itself x [] h m = absurd m
member_find named name itself x (y ∷ ys) h (inl e) = let here : named (name x) y ≡ true = subst (λ z. named (name x) z ≡ true) e (itself x) in rw here (ap Some (sym e))
member_find named name itself x (y ∷ ys) h (inr m) =
    let other : named (name x) y ≡ false = not-true (named (name x) y) (member_all (λ z. not (named (name z) y) ≡ true) x ys m h.0) in
    rw other (member_find named name itself x ys h.1 m)

pairwise_imply : {A : Type 0} (p q : A → A → Bool) → ((x y : A) → p x y ≡ true → q x y ≡ true) → (xs : List A) → Pairwise p xs → Pairwise q xs
pairwise_imply p q f [] h = tt
pairwise_imply p q f (x ∷ xs) h = (all_imply (λ y. p x y ≡ true) (λ y. q x y ≡ true) (f x) xs h.0, pairwise_imply p q f xs h.1)

-- prepared branches, and XIDs that the operator completed

prepared_moves : (ps qs : List PreparedBranch) → Pairwise named_apart ps → ((xid : Triple) → find (λ p. xid_eq p.xid xid) ps ≡ find (λ p. xid_eq p.xid xid) qs) → (p : PreparedBranch) → Member p ps → Member p qs
prepared_moves ps qs h same p m =
    find_member (λ q. xid_eq q.xid p.xid) p qs
    (sym (same p.xid) ∙ member_find (λ xid q. xid_eq q.xid xid) (λ q. q.xid) (λ q. xid_eq_itself q.xid) p ps h m)

pub same_prepared : (ps qs : List PreparedBranch) → Pairwise prepares_before ps → Pairwise prepares_before qs → Pairwise named_apart ps → Pairwise named_apart qs
    → ((xid : Triple) → find (λ p. xid_eq p.xid xid) ps ≡ find (λ p. xid_eq p.xid xid) qs) → ps ≡ qs
same_prepared ps qs h k f g same =
    same_members prepares_before prepares_transitive prepares_strict ps qs h k (prepared_moves ps qs f same) (prepared_moves qs ps g (λ xid. sym (same xid)))

decided_moves : (ds es : List Decided) → Pairwise named_before ds → ((xid : Triple) → find (λ e. xid_eq e.xid xid) ds ≡ find (λ e. xid_eq e.xid xid) es) → (d : Decided) → Member d ds → Member d es
decided_moves ds es h same d m =
    find_member (λ e. xid_eq e.xid d.xid) d es
    (sym (same d.xid)
    ∙ member_find (λ xid e. xid_eq e.xid xid) (λ e. e.xid) (λ e. xid_eq_itself e.xid) d ds
    (pairwise_imply named_before (λ a b. not (xid_eq a.xid b.xid)) (λ a b less. not_from_false (xid_eq a.xid b.xid) (below_apart a.xid b.xid less)) ds h) m)

pub same_decided : (ds es : List Decided) → Pairwise named_before ds → Pairwise named_before es → ((xid : Triple) → find (λ e. xid_eq e.xid xid) ds ≡ find (λ e. xid_eq e.xid xid) es) → ds ≡ es
same_decided ds es h k same = same_members named_before names_transitive names_strict ds es h k (decided_moves ds es h same) (decided_moves es ds k (λ xid. sym (same xid)))
