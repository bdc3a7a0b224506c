-- All of the bytes as one field, or as two: what is read is what was written, and which fault it is.
use Rattle.std.proofs.Common.{◌≡◌, ℕ, Bool, true, false, cond, eqb, List, [], ◌∷◌, ◌++◌, length, Option, Some, None, Result, Ok, Err, refl, sym, ap, subst, ◌∙◌}
use Rattle.std.proofs.lemmas.List.{append-nil, nil_from_length}
use Rattle.xa_frame.specs.declared.fault.FrameFault.{FrameFault}
use Rattle.xa_frame.specs.declared.fault.FrameFault.TheVariants.{Trailing}
use Rattle.xa_frame.specs.Faults.{After, go_on, fault_in}
use Rattle.xa_fields.specs.Reading.{◌>>=◌}
use Rattle.xa_frame.specs.Reading.{Reads, rest_of, ended, one_of, two_of, made}
use Rattle.xa_bytes.proofs.Digits.{IsBytes, Takes-then}
use Rattle.xa_fields.proofs.Results.{bind_ok, ok_is}
use Rattle.xa_frame.proofs.Digits.{done}
use Rattle.xa_frame.proofs.Readers.{IsField, eqb_true}

abbrev pub fault_of : {A : Type 0} → Result A FrameFault → Option FrameFault
fault_of (Ok x) = None
fault_of (Err e) = Some e

guard_ended : {A : Type 0} (b : Bool) (x y : A) → cond b (Ok x) (Err Trailing) ≡ Ok y → (b ≡ true) × (x ≡ y)
guard_ended true x y e = (refl, ok_is x y e)
guard_ended false x y e = absurd cc

pub ended_is : {A : Type 0} (x y : A) (bytes : List ℕ) → ended x bytes ≡ Ok y → (bytes ≡ []) × (x ≡ y)
ended_is x y bytes e =
    let p = guard_ended (eqb (length bytes) 0) x y e in
    (nil_from_length bytes (eqb_true (length bytes) 0 p.0), p.1)

cond_fault : {A : Type 0} (b : Bool) (x : A) → fault_of (cond b (done x) (Err Trailing)) ≡ cond b None (Some Trailing)
cond_fault true x = refl
cond_fault false x = refl

pub ended_fault : {A : Type 0} (x : A) (bytes : List ℕ) → fault_of (ended x bytes) ≡ fault_in [] bytes
ended_fault x bytes = cond_fault (eqb (length bytes) 0) x

bind_fault : {A B : Type 0} (r : Result (A × List ℕ) FrameFault) (s : Result (List ℕ) FrameFault) (f : A × List ℕ → Result B FrameFault) (g : List ℕ → Option FrameFault)
    → rest_of r ≡ s → ((x : A × List ℕ) → fault_of (f x) ≡ g x.1) → fault_of (r >>= f) ≡ go_on s g
bind_fault (Ok x) s f g e h = h x ∙ ap (λ t. go_on t g) e
bind_fault (Err d) s f g e h = ap (λ t. go_on t g) e

-- one step more, for a reader of a field
pub step_fault : {A B : Type 0} {at : Reads A} {spell : A → List ℕ} {fits : A → Type 0} {after : After} (F : IsField A at spell fits after)
    (bytes : List ℕ) (f : A × List ℕ → Result B FrameFault) (g : List ℕ → Option FrameFault) → ((x : A × List ℕ) → fault_of (f x) ≡ g x.1) → fault_of (at bytes >>= f) ≡ go_on (after bytes) g
step_fault {at = at} {after = after} F bytes f g h = bind_fault (at bytes) (after bytes) f g (F.fault bytes) h

-- ---- one field

pub one_takes : {A : Type 0} {at : Reads A} {spell : A → List ℕ} {fits : A → Type 0} {after : After} (F : IsField A at spell fits after)
    (bytes : List ℕ) (x : A) → IsBytes bytes → one_of at bytes ≡ Ok x → (bytes ≡ spell x) × fits x
one_takes {A} {at = at} {spell = spell} {fits = fits} F bytes x small e =
    let b = bind_ok (at bytes) (λ y. ended y.0 y.1) x e in
    let p = ended_is b.0.0 x b.0.1 b.2 in
    let t = F.takes bytes b.0.0 b.0.1 small b.1 in
    let whole : bytes ≡ spell b.0.0 = t.0.parts ∙ ap (λ (r : List ℕ). spell b.0.0 ++ r) p.0 ∙ append-nil (spell b.0.0) in
    subst (λ (y : A). (bytes ≡ spell y) × fits y) p.1 (whole, t.1)

pub one_again : {A : Type 0} {at : Reads A} {spell : A → List ℕ} {fits : A → Type 0} {after : After} (F : IsField A at spell fits after)
    (x : A) → fits x → one_of at (spell x) ≡ Ok x
one_again {A} {at = at} {spell = spell} F x h =
    let read : at (spell x) ≡ Ok (x, []) = ap at (sym (append-nil (spell x))) ∙ F.again x [] h in
    ap (λ (r : Result (A × List ℕ) FrameFault). r >>= λ y. ended y.0 y.1) read

pub one_fault : {A : Type 0} {at : Reads A} {spell : A → List ℕ} {fits : A → Type 0} {after : After} (F : IsField A at spell fits after)
    (bytes : List ℕ) → fault_of (one_of at bytes) ≡ fault_in (after ∷ []) bytes
one_fault F bytes = step_fault F bytes (λ x. ended x.0 x.1) (fault_in []) (λ x. ended_fault x.0 x.1)

-- ---- two fields

pub two_takes : {A B : Type 0} {at : Reads A} {spell : A → List ℕ} {fits : A → Type 0} {after : After} {at' : Reads B} {spell' : B → List ℕ} {fits' : B → Type 0} {after' : After}
    (F : IsField A at spell fits after) (G : IsField B at' spell' fits' after') (bytes : List ℕ) (x : A × B) → IsBytes bytes → two_of at at' bytes ≡ Ok x
    → (bytes ≡ spell x.0 ++ spell' x.1) × fits x.0 × fits' x.1
two_takes {A} {B} {at = at} {spell = spell} {fits = fits} {at' = at'} {spell' = spell'} {fits' = fits'} F G bytes x small e =
    let a = bind_ok (at bytes) (λ y. at' y.1 >>= λ z. ended (y.0, z.0) z.1) x e in
    let b = bind_ok (at' a.0.1) (λ z. ended (a.0.0, z.0) z.1) x a.2 in
    let made : A × B = (a.0.0, b.0.0) in
    let p = ended_is made x b.0.1 b.2 in
    let t = F.takes bytes a.0.0 a.0.1 small a.1 in
    let u = G.takes a.0.1 b.0.0 b.0.1 t.0.rest_fits b.1 in
    let both = Takes-then bytes (spell a.0.0) a.0.1 (spell' b.0.0) b.0.1 t.0 u.0 in
    let whole : bytes ≡ spell a.0.0 ++ spell' b.0.0 = both.parts ∙ ap (λ (r : List ℕ). (spell a.0.0 ++ spell' b.0.0) ++ r) p.0 ∙ append-nil (spell a.0.0 ++ spell' b.0.0) in
    subst (λ (y : A × B). (bytes ≡ spell y.0 ++ spell' y.1) × fits y.0 × fits' y.1) p.1 (whole, t.1, u.1)

pub two_again : {A B : Type 0} {at : Reads A} {spell : A → List ℕ} {fits : A → Type 0} {after : After} {at' : Reads B} {spell' : B → List ℕ} {fits' : B → Type 0} {after' : After}
    (F : IsField A at spell fits after) (G : IsField B at' spell' fits' after') (x : A) (y : B) → fits x → fits' y → two_of at at' (spell x ++ spell' y) ≡ Ok (x, y)
two_again {A} {B} {at = at} {spell = spell} {at' = at'} {spell' = spell'} F G x y h k =
    let second : at' (spell' y) ≡ Ok (y, []) = ap at' (sym (append-nil (spell' y))) ∙ G.again y [] k in
    ap (λ (r : Result (A × List ℕ) FrameFault). r >>= λ v. at' v.1 >>= λ z. ended (v.0, z.0) z.1) (F.again x (spell' y) h)
    ∙ ap (λ (r : Result (B × List ℕ) FrameFault). r >>= λ z. ended (x, z.0) z.1) second

pub two_fault : {A B : Type 0} {at : Reads A} {spell : A → List ℕ} {fits : A → Type 0} {after : After} {at' : Reads B} {spell' : B → List ℕ} {fits' : B → Type 0} {after' : After}
    (F : IsField A at spell fits after) (G : IsField B at' spell' fits' after') (bytes : List ℕ) → fault_of (two_of at at' bytes) ≡ fault_in (after ∷ after' ∷ []) bytes
two_fault {A} {B} {at' = at'} {after' = after'} F G bytes =
    step_fault F bytes (λ y. at' y.1 >>= λ z. ended (y.0, z.0) z.1) (fault_in (after' ∷ []))
    (λ y. step_fault G y.1 (λ z. ended (y.0, z.0) z.1) (fault_in []) (λ z. ended_fault (y.0, z.0) z.1))

-- ---- what is made of them

pub made_ok : {A B : Type 0} (f : A → B) (r : Result A FrameFault) (y : B) → made f r ≡ Ok y → (x : A) × (r ≡ Ok x) × (f x ≡ y)
made_ok f (Ok x) y e = (x, refl, ok_is (f x) y e)
made_ok f (Err d) y e = absurd cc

pub made_fault : {A B : Type 0} (f : A → B) (r : Result A FrameFault) → fault_of (made f r) ≡ fault_of r
made_fault f (Ok x) = refl
made_fault f (Err d) = refl
