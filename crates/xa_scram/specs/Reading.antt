-- What the readers of parts of a message read.
use Rattle.std.specs.Prelude.{◌≡◌, ℕ, List, ◌++◌, codes, decimal, length}
use Rattle.xa_scram.specs.declared.opening.Binding.{Binding}
use Rattle.xa_scram.specs.declared.opening.Opening.{Opening}
use Rattle.xa_scram.specs.Believed.Limits.{AreBytes, IsCount, IsName, IsNonce, IsSalt}
use Rattle.xa_scram.specs.Believed.Messages.{base64}

-- an opening with this header, of which these bytes are all after `n=`
pub record IsBare (binding : Binding) (bytes : List ℕ) (o : Opening) : Type 0 where
  pub same : o.binding ≡ binding
  pub name : IsName o.name
  pub nonce : IsNonce o.nonce
  pub bytes_are : bytes ≡ o.name ++ codes ",r=" ++ o.nonce

-- a salt and a count, of which these bytes are all after the nonce of a challenge
pub record IsTail (bytes s : List ℕ) (n : ℕ) : Type 0 where
  pub salt : IsSalt s
  pub salt_bytes : AreBytes s
  pub count : IsCount n
  pub bytes_are : bytes ≡ codes "s=" ++ base64 s ++ codes ",i=" ++ decimal n

-- the two keys at the end of a verifier's text
pub record AreKeys (bytes stored server : List ℕ) : Type 0 where
  pub stored_size : length stored ≡ 32
  pub server_size : length server ≡ 32
  pub stored_bytes : AreBytes stored
  pub server_bytes : AreBytes server
  pub bytes_are : bytes ≡ base64 stored ++ codes ":" ++ base64 server
