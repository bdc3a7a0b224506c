-- How messages are spelled (RFC 5802, 7), with no channel binding, no authzid and no extension, and how PostgreSQL spells
-- what a server keeps.
use Rattle.std.specs.Prelude.{◌≡◌, ℕ, List, ◌++◌, codes, decimal}
use Rattle.base64.specs.Engines.{standard}
use Rattle.base64.specs.GeneralPurpose.{encode_of}
use Rattle.xa_scram.specs.declared.opening.Binding.{Binding}
use Rattle.xa_scram.specs.declared.opening.Binding.TheVariants.{Unsupported, Unoffered}
use Rattle.xa_scram.specs.declared.opening.Opening.{Opening}
use Rattle.xa_scram.specs.Believed.Keys.{Credentials}
use Rattle.xa_scram.specs.Believed.Limits.{AreBytes, IsCount, IsName, IsNonce, IsSalt}

-- Base64 (RFC 4648, 4)
abbrev pub base64 : List ℕ → List ℕ
base64 bytes = encode_of standard bytes

-- that a client supports no channel binding, or that it thinks that the server doesn't
abbrev pub header_bytes : Binding → List ℕ
header_bytes Unsupported = codes "n,,"
header_bytes Unoffered = codes "y,,"

-- client-first-message-bare
abbrev pub opening_bare : Opening → List ℕ
opening_bare o = codes "n=" ++ o.name ++ codes ",r=" ++ o.nonce

-- client-first-message
abbrev pub opening_bytes : Opening → List ℕ
opening_bytes o = header_bytes o.binding ++ opening_bare o

pub record SpellsOpening (bytes : List ℕ) (o : Opening) : Type 0 where
  pub name : IsName o.name
  pub nonce : IsNonce o.nonce
  pub bytes_are : bytes ≡ opening_bytes o

-- what a server asks: its own part of the nonce, which comes after the client's, the salt and the count
pub record Asked : Type 0 where
  pub own : List ℕ
  pub salt : List ℕ
  pub iterations : ℕ

-- server-first-message, after this nonce of a client
abbrev pub challenge_bytes : List ℕ → Asked → List ℕ
challenge_bytes nonce a =
    codes "r=" ++ nonce ++ a.own ++ codes ",s=" ++ base64 a.salt ++ codes ",i=" ++ decimal a.iterations

pub record SpellsChallenge (nonce bytes : List ℕ) (a : Asked) : Type 0 where
  pub own : IsNonce a.own
  pub salt : IsSalt a.salt
  pub salt_bytes : AreBytes a.salt
  pub count : IsCount a.iterations
  pub bytes_are : bytes ≡ challenge_bytes nonce a

-- client-final-message-without-proof
abbrev pub final_bare : Opening → List ℕ → List ℕ
final_bare o own = codes "c=" ++ base64 (header_bytes o.binding) ++ codes ",r=" ++ o.nonce ++ own

-- client-final-message, with this proof
abbrev pub final_bytes : Opening → List ℕ → List ℕ → List ℕ
final_bytes o own proof = final_bare o own ++ codes ",p=" ++ base64 proof

-- server-final-message, with this signature
abbrev pub acceptance_bytes : List ℕ → List ℕ
acceptance_bytes signature = codes "v=" ++ base64 signature

-- what is signed
abbrev pub auth_message : Opening → Asked → List ℕ
auth_message o a = opening_bare o ++ codes "," ++ challenge_bytes o.nonce a ++ codes "," ++ final_bare o a.own

-- PostgreSQL's text of what a server keeps
abbrev pub text_of : Credentials → List ℕ
text_of c =
    codes "SCRAM-SHA-256$" ++ decimal c.iterations ++ codes ":" ++ base64 c.salt ++ codes "$" ++ base64 c.stored ++ codes ":"
    ++ base64 c.server
