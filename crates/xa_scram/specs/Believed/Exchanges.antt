-- Who is let in, and what each side says.
use Rattle.std.specs.Prelude.{◌≡◌, ℕ, Bool, IsTrue, List, length}
use Rattle.sha2.specs.Sha256.{sha256}
use Rattle.xa_scram.specs.declared.opening.Opening.{Opening}
use Rattle.xa_scram.specs.declared.opening.Binding.TheVariants.{Unsupported}
use Rattle.xa_scram.specs.Believed.Keyed.{hi, xor_bytes}
use Rattle.xa_scram.specs.Believed.Keys.{Credentials, client_proof, client_signature, server_key, server_signature}
use Rattle.xa_scram.specs.Believed.Limits.{AreBytes}
use Rattle.xa_scram.specs.Believed.Messages.{Asked, acceptance_bytes, auth_message, base64, challenge_bytes, final_bytes}

-- an exchange at a server: how it was opened, what the server keeps of that name, whether anybody has the name, and the
-- bytes of the server's part of the nonce
pub record Begun : Type 0 where
  pub opening : Opening
  pub credentials : Credentials
  pub is_known : Bool
  pub own : List ℕ

abbrev pub asked_of : Begun → Asked
asked_of e = record { own = base64 e.own; salt = e.credentials.salt; iterations = e.credentials.iterations }

abbrev pub challenge_of : Begun → List ℕ
challenge_of e = challenge_bytes e.opening.nonce (asked_of e)

-- this message is the exchange's last of the client, with this proof, and whose proof it is has the client's key
pub record Proves (e : Begun) (message proof : List ℕ) : Type 0 where
  pub size : length proof ≡ 32
  pub bytes : AreBytes proof
  pub bytes_are : message ≡ final_bytes e.opening (base64 e.own) proof
  pub right :
      sha256 (xor_bytes proof (client_signature e.credentials.stored (auth_message e.opening (asked_of e))))
      ≡ e.credentials.stored

-- who sends this message is let in
abbrev pub LetsIn : Begun → List ℕ → Type 0
LetsIn e message = IsTrue e.is_known × ((proof : List ℕ) × Proves e message proof)

-- what the server then says: it has the server key
abbrev pub acceptance_of : Begun → List ℕ
acceptance_of e = acceptance_bytes (server_signature e.credentials.server (auth_message e.opening (asked_of e)))

-- what a client says, and what it accepts
pub record Answered : Type 0 where
  pub message : List ℕ
  pub acceptance : List ℕ

-- how a client without channel binding opens
abbrev pub opened_by : List ℕ → List ℕ → Opening
opened_by name nonce = record { name = name; nonce = nonce; binding = Unsupported }

-- what the client with this opening and secret says when it is asked this
abbrev pub answer_of : Opening → List ℕ → Asked → Answered
answer_of o secret a =
    let salted = hi secret a.salt a.iterations in
    let signed = auth_message o a in
    record {
      message = final_bytes o a.own (client_proof salted signed);
      acceptance = acceptance_bytes (server_signature (server_key salted) signed);
    }
