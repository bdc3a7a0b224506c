-- Where the first of some byte stands, and what a text has in front.
use Rattle.std.proofs.Common.{◌≡◌, ◌≢◌, ℕ, Bool, true, false, inl, inr, List, [], ◌∷◌, ◌++◌, refl, sym, ap, ◌∙◌}
use Rattle.std.specs.List.{list_all}
use Rattle.std.proofs.lemmas.Bool.{cases_Bool}
use Rattle.std.proofs.lemmas.List.{append_cancel_left}
use Rattle.std.proofs.lemmas.List.Elements.{All-nil, All-cons, All-head, All-tail}
use Rattle.xa_scram.specs.Believed.Limits.{is_name_byte, is_nonce_byte}
use Rattle.xa_scram.specs.Cutting.{HasNone}

pub one_cut : (byte : ℕ) (a b s t : List ℕ) → HasNone byte a → HasNone byte b → a ++ (byte ∷ s) ≡ b ++ (byte ∷ t) → (a ≡ b) × (s ≡ t)
one_cut byte [] [] s t h k e = (refl, cc)
one_cut byte [] (y ∷ b) s t h k e = absurd (All-head (λ c. c ≢ byte) y b k cc)
one_cut byte (x ∷ a) [] s t h k e = absurd (All-head (λ c. c ≢ byte) x a h cc)
one_cut byte (x ∷ a) (y ∷ b) s t h k e =
    let others : a ++ (byte ∷ s) ≡ b ++ (byte ∷ t) = cc in
    let r = one_cut byte a b s t (All-tail (λ c. c ≢ byte) x a h) (All-tail (λ c. c ≢ byte) y b k) others in
    let heads : x ≡ y = cc in
    (cc (heads, r.0), r.1)

-- a text with the byte isn't one without
pub no_cut : (byte : ℕ) (text a s : List ℕ) → HasNone byte text → text ≢ a ++ (byte ∷ s)
no_cut byte [] [] s h e = absurd cc
no_cut byte [] (y ∷ a) s h e = absurd cc
no_cut byte (x ∷ text) [] s h e = All-head (λ c. c ≢ byte) x text h cc
no_cut byte (x ∷ text) (y ∷ a) s h e = no_cut byte text a s (All-tail (λ c. c ≢ byte) x text h) cc

-- what a cut gave is how the text is made
pub cut_so : (byte : ℕ) (text a b s t : List ℕ) → HasNone byte a × (text ≡ a ++ (byte ∷ s)) → HasNone byte b → text ≡ b ++ (byte ∷ t)
    → (a ≡ b) × (s ≡ t)
cut_so byte text a b s t p none e = one_cut byte a b s t p.0 none (sym p.1 ∙ e)

-- what is after a front is one text
pub after_so : (front text rest others : List ℕ) → text ≡ front ++ rest → text ≡ front ++ others → rest ≡ others
after_so front text rest others e f = append_cancel_left front rest others (sym e ∙ f)

none_head : (p : ℕ → Bool) (byte x : ℕ) → p byte ≡ false → p x ≡ true → x ≢ byte
none_head p byte x fails passes e = let both : true ≡ false = sym passes ∙ ap p e ∙ fails in cc

-- bytes that pass a test that this one doesn't
pub none_from : (p : ℕ → Bool) (byte : ℕ) (xs : List ℕ) → p byte ≡ false → list_all p xs ≡ true → HasNone byte xs
none_from p byte [] fails all = All-nil (λ c. c ≢ byte)
none_from p byte (x ∷ xs) fails all = elim (cases_Bool (p x)) [
  | inl passes ↦
      let rest : list_all p xs ≡ true = rw passes at all in
      All-cons (λ c. c ≢ byte) x xs (none_head p byte x fails passes) (none_from p byte xs fails rest)
  | inr fails ↦ absurd (let both : false ≡ true = rw fails at all in cc)
]

pub name_no_comma : (name : List ℕ) → list_all is_name_byte name ≡ true → HasNone 44 name
name_no_comma name all = none_from is_name_byte 44 name refl all

pub nonce_no_comma : (nonce : List ℕ) → list_all is_nonce_byte nonce ≡ true → HasNone 44 nonce
nonce_no_comma nonce all = none_from is_nonce_byte 44 nonce refl all
