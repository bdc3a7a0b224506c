-- Which names, nonces, salts and counts there are. Secrets are bytes, taken as they are.
use Rattle.std.specs.Prelude.{◌≡◌, ℕ, ◌<◌, ◌≤◌, ◌==◌, ◌&&◌, ◌||◌, nat_le, not, Bool, true, List, All, length}
use Rattle.std.specs.List.{list_all}
use Rattle.xa_scram.specs.declared.limits.TheConstants.{LEAST_ITERATIONS, MOST_ITERATIONS, MOST_NAME, MOST_NONCE, MOST_SALT}
use Rattle.xa_scram.specs.Believed.Keys.{Credentials}

abbrev pub is_between : ℕ → ℕ → ℕ → Bool
is_between least most b = nat_le least b && nat_le b most

-- a to z, A to Z, 0 to 9, - _ . @: nothing that would have to be escaped, or that SASLprep (RFC 4013) changes
abbrev pub is_name_byte : ℕ → Bool
is_name_byte b =
    is_between 97 122 b || is_between 65 90 b || is_between 48 57 b || (b == 45) || (b == 95) || (b == 46) || (b == 64)

-- printable, and no comma
abbrev pub is_nonce_byte : ℕ → Bool
is_nonce_byte b = is_between 33 126 b && not (b == 44)

pub record IsName (bytes : List ℕ) : Type 0 where
  pub least : 1 ≤ length bytes
  pub most : length bytes ≤ MOST_NAME
  pub plain : list_all is_name_byte bytes ≡ true

pub record IsNonce (bytes : List ℕ) : Type 0 where
  pub least : 1 ≤ length bytes
  pub most : length bytes ≤ MOST_NONCE
  pub plain : list_all is_nonce_byte bytes ≡ true

abbrev pub IsSalt : List ℕ → Type 0
IsSalt salt = (1 ≤ length salt) × (length salt ≤ MOST_SALT)

abbrev pub IsCount : ℕ → Type 0
IsCount iterations = (LEAST_ITERATIONS ≤ iterations) × (iterations ≤ MOST_ITERATIONS)

-- each is a byte
abbrev pub AreBytes : List ℕ → Type 0
AreBytes bytes = All (λ b. b < 256) bytes

pub record IsWithinLimits (c : Credentials) : Type 0 where
  pub salt : IsSalt c.salt
  pub count : IsCount c.iterations
  pub stored : length c.stored ≡ 32
  pub server : length c.server ≡ 32
  pub salt_bytes : AreBytes c.salt
  pub stored_bytes : AreBytes c.stored
  pub server_bytes : AreBytes c.server
