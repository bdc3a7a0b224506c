-- A key that is made of bytes within the limits.
use Rattle.std.proofs.Common.{◌≡◌, ℕ, List, Option, Some, None, ap}
use Rattle.std.specs.Prelude.{◌↔◌, IfSome, IsSome}
use Rattle.xa_frame.specs.Limits.{IsKey}

pub is_made : (made : Option (List ℕ)) (bytes : List ℕ) → IfSome made (λ k. k ≡ bytes) → (IsSome made ↔ IsKey bytes) → IsKey bytes → made ≡ Some bytes
is_made None bytes same valid key = absurd (cc (valid.1 key))
is_made (Some k) bytes same valid key = ap Some same
