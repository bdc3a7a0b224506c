-- A text is one verifier's.
use Rattle.std.proofs.Common.{◌≡◌, ℕ, ◌<◌, ◌^◌, List, [], ◌∷◌, ◌++◌, Result, Ok, codes, refl, arith, append_assoc}
use Rattle.std.specs.Prelude.{decimal}
use Rattle.std.proofs.lemmas.Fmt.{decimal_injective}
use Rattle.xa_scram.specs.Believed.Keys.{Credentials}
use Rattle.xa_scram.specs.Believed.Limits.{AreBytes, IsWithinLimits}
use Rattle.xa_scram.specs.Believed.Messages.{base64, text_of}
use Rattle.xa_scram.proofs.Coded.{base64_back, base64_no_colon, base64_no_dollar}
use Rattle.xa_scram.proofs.Decimals.{decimal_none}
use Rattle.xa_scram.proofs.Texts.{count_part, front_part, keys_are, keys_part, keys_text, salt_part, salt_text}

grouped : (p d c s e a f b : List ℕ) → p ++ d ++ c ++ s ++ e ++ a ++ f ++ b ≡ p ++ (d ++ (c ++ (s ++ (e ++ (a ++ f ++ b)))))
grouped p d c s e a f b = simp append_assoc

split : (v : Credentials) → text_of v ≡ codes "SCRAM-SHA-256$" ++ (decimal v.iterations ++ (58 ∷ salt_text v))
split v = grouped (codes "SCRAM-SHA-256$") (decimal v.iterations) (58 ∷ []) (base64 v.salt) (36 ∷ []) (base64 v.stored) (58 ∷ []) (base64 v.server)

keys_split : (v : Credentials) → keys_text v ≡ base64 v.stored ++ (58 ∷ base64 v.server)
keys_split v = append_assoc (base64 v.stored) (58 ∷ []) (base64 v.server)

same_ok : {A E : Type 0} (r : Result A E) (a b : A) → r ≡ Ok a → r ≡ Ok b → a ≡ b
same_ok r a b e f = cc

same_bytes : (a b : List ℕ) → AreBytes a → AreBytes b → base64 a ≡ base64 b → a ≡ b
same_bytes a b p q e = same_ok _ a b (base64_back (base64 a) a p refl) (base64_back (base64 a) b q e)

pub one_text : (v w : Credentials) → IsWithinLimits v → IsWithinLimits w → text_of v ≡ text_of w → v ≡ w
one_text v w h k e =
    let rest = front_part (text_of v) (decimal v.iterations ++ (58 ∷ salt_text v)) w (split v) e in
    let few : v.iterations < 2 ^ 64 = omega (arith, h.count.1) in
    let short : v.iterations < 2 ^ 32 = omega (arith, h.count.1) in
    let few' : w.iterations < 2 ^ 64 = omega (arith, k.count.1) in
    let counts = count_part _ (decimal v.iterations) (salt_text v) w (decimal_none 58 v.iterations short (λ low high. omega arith), refl) k rest in
    let salts = salt_part (salt_text v) (base64 v.salt) (keys_text v) w (base64_no_dollar v.salt h.salt_bytes, refl) k counts.1 in
    let keys =
    keys_part (keys_text v) (base64 v.stored) (base64 v.server) w.stored w.server (base64_no_colon v.stored h.stored_bytes, keys_split v)
    (keys_are (keys_text v) w k salts.1) in
    let salt = same_bytes v.salt w.salt h.salt_bytes k.salt_bytes salts.0 in
    let iterations = decimal_injective v.iterations w.iterations few few' counts.0 in
    let stored = same_bytes v.stored w.stored h.stored_bytes k.stored_bytes keys.0 in
    let server = same_bytes v.server w.server h.server_bytes k.server_bytes keys.1 in
    (λ i. record { salt = salt i; iterations = iterations i; stored = stored i; server = server i })
