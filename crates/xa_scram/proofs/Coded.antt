-- Base64 of bytes.
use Rattle.std.proofs.Common.{◌≡◌, ℕ, zero, suc, ◌+◌, ◌*◌, ◌/◌, ◌%◌, ◌<◌, ◌≤◌, Bool, true, false, List, [], ◌∷◌, ◌++◌, length, replicate, get_or}
use Rattle.std.proofs.Common.{Result, Ok, Err, refl, sym, ap, subst, ◌∙◌, arith, inl, inr}
use Rattle.std.specs.List.{list_all}
use Rattle.std.specs.Prelude.{not, ◌==◌}
use Rattle.std.proofs.lemmas.Bool.{cases_lt, cases_Bool}
use Rattle.std.proofs.lemmas.List.Elements.{All-tail}
use Rattle.std.proofs.lemmas.List.{length-append, length-replicate, get_or_past}
use Rattle.base64.specs.Engines.{standard}
use Rattle.base64.specs.GeneralPurpose.{decode_of, engine_symbols, IsBytes}
use Rattle.base64.specs.Rfc4648.{encode_symbols, padding_len}
use Rattle.base64.proofs.RoundTrip.{length-encode_symbols}
use Rattle.base64.proofs.EngineFacts.{decode_of-encode_of, decode_of_strict}
use Rattle.xa_scram.specs.Believed.Limits.{AreBytes}
use Rattle.xa_scram.specs.Believed.Messages.{base64}
use Rattle.xa_scram.specs.Cutting.{HasNone}
use Rattle.xa_scram.proofs.Cuts.{none_from}

pub each_byte : (bytes : List ℕ) → AreBytes bytes → IsBytes bytes
each_byte bytes all i = elim (cases_lt i (length bytes)) [
  | inl lt ↦ all i 0 lt
  | inr past ↦ let none : get_or bytes i 0 ≡ 0 = get_or_past bytes i 0 past in omega arith
]

-- what decodes is the Base64 of what it decodes to
pub base64_strict : (text bytes : List ℕ) → IsBytes text → decode_of standard text ≡ Ok bytes → text ≡ base64 bytes
base64_strict text bytes are e = decode_of_strict standard text bytes (refl, refl) are e

-- and Base64 decodes
pub base64_back : (text bytes : List ℕ) → AreBytes bytes → text ≡ base64 bytes → decode_of standard text ≡ Ok bytes
base64_back text bytes are e = ap (decode_of standard) e ∙ decode_of-encode_of standard bytes refl (each_byte bytes are)

-- four characters for each three bytes or fewer
pub length-base64 : (bytes : List ℕ) → length (base64 bytes) ≡ (4 * length bytes + 2) / 3 + padding_len (length bytes)
length-base64 bytes =
    omega (
      arith,
      length-append (encode_symbols (engine_symbols standard) bytes) (replicate {A = ℕ} (padding_len (length bytes)) 61),
      length-encode_symbols (engine_symbols standard) bytes,
      length-replicate {A = ℕ} (padding_len (length bytes)) 61,
    )

pub length-base64_short : (bytes : List ℕ) → length bytes ≤ 33 → length (base64 bytes) ≤ 44
length-base64_short bytes h = omega (arith, length-base64 bytes)

-- what was decoded, in a vector that was empty
filled : (items none part : List ℕ) → none ≡ [] → items ≡ none ++ part → items ≡ part
filled items none part e f = f ∙ ap (λ (x : List ℕ). x ++ part) e

pub decoded_found : (text items none part : List ℕ) → IsBytes text → decode_of standard text ≡ Ok part → AreBytes part → length part ≤ 33
    → none ≡ [] → items ≡ none ++ part
    → AreBytes items × (length items ≤ 33) × (text ≡ base64 items)
decoded_found text items none part are e bytes few f g =
    let P : List ℕ → Type 0 = λ x. AreBytes x × (length x ≤ 33) × (text ≡ base64 x) in
    subst P (sym (filled items none part f g)) (bytes, few, base64_strict text part are e)

same_ok : {E : Type 0} (r : Result (List ℕ) E) (a b : List ℕ) → r ≡ Ok a → r ≡ Ok b → a ≡ b
same_ok r a b e f = cc

pub no_ok : {E : Type 0} (r : Result (List ℕ) E) (a : List ℕ) (x : E) → r ≡ Ok a → r ≡ Err x → ⊥
no_ok r a x e f = cc

pub decoded_only : (text items none part bytes : List ℕ) → decode_of standard text ≡ Ok part → none ≡ [] → items ≡ none ++ part → AreBytes bytes
    → text ≡ base64 bytes → items ≡ bytes
decoded_only text items none part bytes e f g are spelled =
    filled items none part f g ∙ same_ok (decode_of standard text) part bytes e (base64_back text bytes are spelled)

-- ---- the characters

passes_cons : (p : ℕ → Bool) (x : ℕ) (t : List ℕ) (i : ℕ) → p x ≡ true → i < length (x ∷ t)
    → ((j : ℕ) → j < length t → p (get_or t j 0) ≡ true) → p (get_or (x ∷ t) i 0) ≡ true
passes_cons p x t zero passes lt more = passes
passes_cons p x t (suc i) passes lt more = more i (omega arith)

pub passes_at : (p : ℕ → Bool) (t : List ℕ) (i : ℕ) → list_all p t ≡ true → i < length t → p (get_or t i 0) ≡ true
passes_at p [] i all lt = absurd (omega arith)
passes_at p (x ∷ t) i all lt = elim (cases_Bool (p x)) [
  | inl passes ↦ passes_cons p x t i passes lt (λ j h. passes_at p t j (rw passes at all) h)
  | inr fails ↦ absurd (let both : false ≡ true = rw fails at all in cc)
]

passes_append : (p : ℕ → Bool) (xs ys : List ℕ) → list_all p xs ≡ true → list_all p ys ≡ true → list_all p (xs ++ ys) ≡ true
passes_append p [] ys e f = f
passes_append p (x ∷ xs) ys e f = elim (cases_Bool (p x)) [
  | inl passes ↦ rw passes (passes_append p xs ys (rw passes at e) f)
  | inr fails ↦ absurd (let both : false ≡ true = rw fails at e in cc)
]

passes_replicate : (p : ℕ → Bool) (n x : ℕ) → p x ≡ true → list_all p (replicate n x) ≡ true
passes_replicate p zero x e = refl
passes_replicate p (suc n) x e = rw e (passes_replicate p n x e)

passes_symbols : (p : ℕ → Bool) (t m : List ℕ) → length t ≡ 64 → list_all p t ≡ true → AreBytes m → list_all p (encode_symbols t m) ≡ true
unfolding encode_symbols
passes_symbols p t [] len all are = refl
passes_symbols p t (a ∷ []) len all are =
    let byte : a < 256 = are 0 0 (omega arith) in
    let e0 = passes_at p t (a / 4) all (omega arith) in
    let e1 = passes_at p t (a % 4 * 16) all (omega arith) in
    rw (e0, e1) refl
passes_symbols p t (a ∷ b ∷ []) len all are =
    let byte : a < 256 = are 0 0 (omega arith) in
    let next : b < 256 = are 1 0 (omega arith) in
    let e0 = passes_at p t (a / 4) all (omega arith) in
    let e1 = passes_at p t (a % 4 * 16 + b / 16) all (omega arith) in
    let e2 = passes_at p t (b % 16 * 4) all (omega arith) in
    rw (e0, e1, e2) refl
passes_symbols p t (a ∷ b ∷ c ∷ rest) len all are =
    let byte : a < 256 = are 0 0 (omega arith) in
    let next : b < 256 = are 1 0 (omega arith) in
    let last : c < 256 = are 2 0 (omega arith) in
    let e0 = passes_at p t (a / 4) all (omega arith) in
    let e1 = passes_at p t (a % 4 * 16 + b / 16) all (omega arith) in
    let e2 = passes_at p t (b % 16 * 4 + c / 64) all (omega arith) in
    let e3 = passes_at p t (c % 64) all (omega arith) in
    let others : AreBytes rest = All-tail (λ x. x < 256) c rest
    (All-tail (λ x. x < 256) b (c ∷ rest) (All-tail (λ x. x < 256) a (b ∷ c ∷ rest) are)) in
    rw (e0, e1, e2, e3) (passes_symbols p t rest len all others)

-- what the 64 characters and = pass, Base64 passes
pub base64_passes : (p : ℕ → Bool) (m : List ℕ) → list_all p (engine_symbols standard) ≡ true → p 61 ≡ true → AreBytes m
    → list_all p (base64 m) ≡ true
base64_passes p m all pad are =
    passes_append p (encode_symbols (engine_symbols standard) m) (replicate {A = ℕ} (padding_len (length m)) 61)
    (passes_symbols p (engine_symbols standard) m refl all are) (passes_replicate p (padding_len (length m)) 61 pad)

-- no colon, comma or dollar sign
pub base64_no_colon : (m : List ℕ) → AreBytes m → HasNone 58 (base64 m)
base64_no_colon m are = none_from (λ b. not (b == 58)) 58 (base64 m) refl (base64_passes (λ b. not (b == 58)) m refl refl are)

pub base64_no_comma : (m : List ℕ) → AreBytes m → HasNone 44 (base64 m)
base64_no_comma m are = none_from (λ b. not (b == 44)) 44 (base64 m) refl (base64_passes (λ b. not (b == 44)) m refl refl are)

pub base64_no_dollar : (m : List ℕ) → AreBytes m → HasNone 36 (base64 m)
base64_no_dollar m are = none_from (λ b. not (b == 36)) 36 (base64 m) refl (base64_passes (λ b. not (b == 36)) m refl refl are)
