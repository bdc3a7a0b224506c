-- Who has the secret is let in, and accepts the server.
use Rattle.std.proofs.Common.{◌≡◌, ℕ, zero, suc, ◌/◌, ◌%◌, ◌<◌, ◌^◌, List, [], ◌∷◌, length, refl, sym, ap, ◌∙◌, arith, w32}
use Rattle.std.specs.Prelude.{bit_xor, slice_index}
use Rattle.std.specs.Int.{byte_at, bytes_high_first, to_be_bytes}
use Rattle.std.proofs.lemmas.Nat.{xor_of_8}
use Rattle.std.proofs.lemmas.List.Elements.{All-append, All-cons, All-head, All-nil, All-tail}
use Rattle.sha2.specs.Sha256.{digest_bytes, sha256}
use Rattle.sha2.proofs.Facts256.{length-sha256}
use Rattle.xa_scram.specs.Believed.Keyed.{hi, hmac, xor_bytes}
use Rattle.xa_scram.specs.Believed.Keys.{client_key, client_signature, stored_key}
use Rattle.xa_scram.specs.Believed.Limits.{AreBytes, IsNonce, is_nonce_byte}
use Rattle.xa_scram.specs.Believed.Messages.{auth_message, base64}
use Rattle.xa_scram.specs.Believed.Exchanges.{asked_of}
use Rattle.xa_scram.specs.Laws.{IsMutualAlways, begun_by}
use Rattle.xa_scram.proofs.Coded.{base64_passes, length-base64}
use Rattle.xa_scram.proofs.Xored.{length-xor_bytes, xor_bytes_back}

one_byte : (k n : ℕ) → byte_at k n < 256
one_byte zero n = omega arith
one_byte (suc k) n = let high : ℕ = n / 256 ^ suc k in let small : high % 256 < 256 = omega arith in small

high_bytes : (k n : ℕ) → AreBytes (bytes_high_first k n)
high_bytes zero n = All-nil (λ b. b < 256)
high_bytes (suc k) n = All-cons (λ b. b < 256) (byte_at k n) (bytes_high_first k n) (one_byte k n) (high_bytes k n)

digest_is_bytes : (h : List ℕ) (n : ℕ) → AreBytes (digest_bytes h n)
unfolding digest_bytes
digest_is_bytes h zero = All-nil (λ b. b < 256)
digest_is_bytes h (suc n) = All-append (λ b. b < 256) (digest_bytes h n) (to_be_bytes w32 (slice_index h n)) (digest_is_bytes h n)
    (high_bytes 4 (slice_index h n))

hmac_bytes : (key message : List ℕ) → AreBytes (hmac key message)
unfolding hmac sha256
hmac_bytes key message = digest_is_bytes _ 8

length-hmac : (key message : List ℕ) → length (hmac key message) ≡ 32
unfolding hmac
length-hmac key message = length-sha256 _

xored_bytes : (xs ys : List ℕ) → AreBytes xs → AreBytes ys → AreBytes (xor_bytes xs ys)
xored_bytes [] ys a b = All-nil (λ b. b < 256)
xored_bytes (x ∷ xs) [] a b = All-nil (λ b. b < 256)
xored_bytes (x ∷ xs) (y ∷ ys) a b =
    All-cons (λ b. b < 256) (bit_xor x y) (xor_bytes xs ys) (xor_of_8 x y (All-head (λ b. b < 256) x xs a) (All-head (λ b. b < 256) y ys b))
    (xored_bytes xs ys (All-tail (λ b. b < 256) x xs a) (All-tail (λ b. b < 256) y ys b))

pub own_nonce : (own : List ℕ) → length own ≡ 18 → AreBytes own → IsNonce (base64 own)
own_nonce own size are = record {
  least = omega (arith, length-base64 own);
  most = omega (arith, length-base64 own);
  plain = base64_passes is_nonce_byte own refl refl are;
}

-- a key's proof, by the signature over its digest, shows the key
key_back : (key signature : List ℕ) → length key ≡ length signature → sha256 (xor_bytes (xor_bytes key signature) signature) ≡ sha256 key
key_back key signature e = ap sha256 (xor_bytes_back key signature e)

pub mutual_always : IsMutualAlways
mutual_always name nonce secret salt iterations own is_salt salt_bytes count size are =
    let e = begun_by name nonce secret salt iterations own in
    let key : List ℕ = client_key (hi secret salt iterations) in
    let signature : List ℕ = client_signature (stored_key (hi secret salt iterations)) (auth_message e.opening (asked_of e)) in
    let same : length key ≡ length signature = length-hmac _ _ ∙ sym (length-hmac _ _) in
    record {
      asked = record { own = own_nonce own size are; salt = is_salt; salt_bytes = salt_bytes; count = count; bytes_are = refl };
      let_in = (
        refl,
        (
          xor_bytes key signature,
          record {
            size = length-xor_bytes key signature same ∙ length-hmac _ _;
            bytes = xored_bytes key signature (hmac_bytes _ _) (hmac_bytes _ _);
            bytes_are = refl;
            right = key_back key signature same;
          },
        ),
      );
      accepted = refl;
    }
