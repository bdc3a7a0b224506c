-- Whether a record chains.
use Rattle.std.specs.Prelude.{◌≡◌, ℕ, false, List, length}
use Rattle.xa_log.specs.Believed.Chain.{digest, is_record, record_of, size_at}
use Rattle.xa_log.specs.declared.format.Format.{Format}

-- These bytes are the record of a body of this size, after a record of one digest, and have another one.
pub record Chains (size : ℕ) (prev bytes after : List ℕ) : Type 0 where
  pub body : List ℕ
  pub long : length body ≡ size
  pub is : bytes ≡ record_of prev body
  pub digest_is : after ≡ digest prev body

-- they are none
abbrev pub IsUnchained : ℕ → List ℕ → List ℕ → Type 0
IsUnchained size prev bytes = size_at bytes ≡ size → (format : Format) → is_record format prev bytes ≡ false
