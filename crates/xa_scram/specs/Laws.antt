-- Who has the secret is let in, and accepts the server. No message is longer than there is room for.
use Rattle.std.specs.Prelude.{◌≡◌, ℕ, ◌≤◌, true, List, length}
use Rattle.xa_scram.specs.declared.limits.TheConstants.{MOST_MESSAGE, OWN_BYTES}
use Rattle.xa_scram.specs.declared.opening.Opening.{Opening}
use Rattle.xa_scram.specs.Believed.Keys.{Credentials, credentials_of}
use Rattle.xa_scram.specs.Believed.Limits.{AreBytes, IsCount, IsNonce, IsSalt, IsWithinLimits}
use Rattle.xa_scram.specs.Believed.Messages.{Asked, SpellsChallenge, SpellsOpening, acceptance_bytes, text_of}
use Rattle.xa_scram.specs.Believed.Exchanges.{Begun, LetsIn, Proves, acceptance_of, answer_of, asked_of, challenge_of, opened_by}

-- a client without channel binding, with this secret, and a server that keeps what it was given of the secret
abbrev pub begun_by : List ℕ → List ℕ → List ℕ → List ℕ → ℕ → List ℕ → Begun
begun_by name nonce secret salt iterations own =
    record {
      opening = opened_by name nonce;
      credentials = credentials_of secret salt iterations;
      is_known = true;
      own = own;
    }

-- the client can read what the server asks, its answer lets it in, and it accepts what the server then says
pub record IsMutual (e : Begun) (secret : List ℕ) : Type 0 where
  pub asked : SpellsChallenge e.opening.nonce (challenge_of e) (asked_of e)
  pub let_in : LetsIn e (answer_of e.opening secret (asked_of e)).message
  pub accepted : (answer_of e.opening secret (asked_of e)).acceptance ≡ acceptance_of e

abbrev pub IsMutualAlways : Type 0
IsMutualAlways =
    (name nonce secret salt : List ℕ) (iterations : ℕ) (own : List ℕ) → IsSalt salt → AreBytes salt → IsCount iterations
    → length own ≡ OWN_BYTES → AreBytes own → IsMutual (begun_by name nonce secret salt iterations own) secret

-- so that what is longer is no message
pub record AreShort : Type 0 where
  pub opening : (bytes : List ℕ) (o : Opening) → SpellsOpening bytes o → length bytes ≤ MOST_MESSAGE
  pub challenge : (nonce bytes : List ℕ) (a : Asked) → IsNonce nonce → SpellsChallenge nonce bytes a → length bytes ≤ MOST_MESSAGE
  pub answer : (e : Begun) (message proof : List ℕ) → IsNonce e.opening.nonce → length e.own ≡ OWN_BYTES → Proves e message proof
      → length message ≤ MOST_MESSAGE
  pub acceptance : (signature : List ℕ) → length signature ≡ 32 → length (acceptance_bytes signature) ≤ MOST_MESSAGE
  pub text : (c : Credentials) → IsWithinLimits c → length (text_of c) ≤ MOST_MESSAGE
