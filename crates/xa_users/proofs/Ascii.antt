-- Names and texts of verifiers are ASCII, and so UTF-8.
use Rattle.std.proofs.Common.{◌≡◌, ℕ, ◌<◌, Bool, true, nat_lt, List, codes, get_or, length, refl, arith, inl, inr}
use Rattle.std.specs.Prelude.{IsUtf8, decimal}
use Rattle.std.specs.List.{list_all}
use Rattle.std.proofs.lemmas.Bool.{cases_lt}
use Rattle.std.proofs.lemmas.Bool.Decides.{nat_tests}
use Rattle.std.proofs.lemmas.List.{get_or_past}
use Rattle.std.proofs.lemmas.Str.{IsUtf8-append, IsUtf8-from_ascii}
use Rattle.xa_scram.specs.Believed.Keys.{Credentials}
use Rattle.xa_scram.specs.Believed.Limits.{AreBytes, IsName, IsWithinLimits, is_name_byte}
use Rattle.xa_scram.specs.Believed.Messages.{base64, text_of}
use Rattle.xa_scram.proofs.Coded.{base64_passes, passes_at}
use Rattle.xa_scram.proofs.Decimals.{spelled_utf8}

utf8_from : (p : ℕ → Bool) (t : List ℕ) → ((b : ℕ) → p b ≡ true → b < 128) → list_all p t ≡ true → IsUtf8 t
utf8_from p t small all = IsUtf8-from_ascii t (λ i. elim (cases_lt i (length t)) [
  | inl within ↦ small (get_or t i 0) (passes_at p t i all within)
  | inr past ↦ rw (get_or_past t i 0 past) (omega arith)
])

small_name_byte : (b : ℕ) → is_name_byte b ≡ true → b < 128
small_name_byte b h = grind (arith, nat_tests)

pub name_utf8 : (name : List ℕ) → IsName name → IsUtf8 name
name_utf8 name h = utf8_from is_name_byte name small_name_byte h.plain

small_from : (b : ℕ) → nat_lt b 128 ≡ true → b < 128
small_from b h = grind (arith, nat_tests)

utf8_small : (t : List ℕ) → list_all (λ b. nat_lt b 128) t ≡ true → IsUtf8 t
utf8_small t all = utf8_from (λ b. nat_lt b 128) t small_from all

base64_utf8 : (m : List ℕ) → AreBytes m → IsUtf8 (base64 m)
base64_utf8 m are = utf8_small (base64 m) (base64_passes (λ b. nat_lt b 128) m refl refl are)

count_utf8 : (c : Credentials) → IsWithinLimits c → IsUtf8 (decimal c.iterations)
count_utf8 c h = spelled_utf8 c.iterations (decimal c.iterations) (omega (arith, h.count.1)) refl

pub verifier_utf8 : (c : Credentials) → IsWithinLimits c → IsUtf8 (text_of c)
verifier_utf8 c h =
    IsUtf8-append _ _
    (IsUtf8-append _ _
    (IsUtf8-append _ _
    (IsUtf8-append _ _
    (IsUtf8-append _ _
    (IsUtf8-append _ _
    (IsUtf8-append _ _ (utf8_small (codes "SCRAM-SHA-256$") refl) (count_utf8 c h)) (utf8_small (codes ":") refl))
    (base64_utf8 c.salt h.salt_bytes)) (utf8_small (codes "$") refl))
    (base64_utf8 c.stored h.stored_bytes)) (utf8_small (codes ":") refl))
    (base64_utf8 c.server h.server_bytes)
