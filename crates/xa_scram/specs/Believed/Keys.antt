-- The keys, signatures and proofs of SCRAM-SHA-256 (RFC 5802, 3; RFC 7677), and what a server keeps of a secret.
use Rattle.std.specs.Prelude.{ℕ, List, codes, take}
use Rattle.sha2.specs.Sha256.{sha256}
use Rattle.xa_scram.specs.Believed.Keyed.{hi, hmac, xor_bytes}

-- the first argument is Hi of the secret

abbrev pub client_key : List ℕ → List ℕ
client_key salted = hmac salted (codes "Client Key")

abbrev pub stored_key : List ℕ → List ℕ
stored_key salted = sha256 (client_key salted)

abbrev pub server_key : List ℕ → List ℕ
server_key salted = hmac salted (codes "Server Key")

-- by a stored key
abbrev pub client_signature : List ℕ → List ℕ → List ℕ
client_signature stored auth_message = hmac stored auth_message

abbrev pub client_proof : List ℕ → List ℕ → List ℕ
client_proof salted auth_message = xor_bytes (client_key salted) (client_signature (stored_key salted) auth_message)

-- by a server key
abbrev pub server_signature : List ℕ → List ℕ → List ℕ
server_signature server auth_message = hmac server auth_message

-- what a server keeps of a secret, and tells no one but for the salt and the count
pub record Credentials : Type 0 where
  pub salt : List ℕ
  pub iterations : ℕ
  pub stored : List ℕ
  pub server : List ℕ

abbrev pub credentials_of : List ℕ → List ℕ → ℕ → Credentials
credentials_of secret salt iterations =
    record {
      salt = salt;
      iterations = iterations;
      stored = stored_key (hi secret salt iterations);
      server = server_key (hi secret salt iterations);
    }

-- in place of those of a name that nobody has: the same each time, and of no secret that anybody knows
abbrev pub stand_in_of : List ℕ → List ℕ → ℕ → Credentials
stand_in_of name key iterations =
    record { salt = take 16 (hmac key name); iterations = iterations; stored = hmac key name; server = hmac key name }
