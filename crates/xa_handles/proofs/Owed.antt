-- That a share owes this many answers is known in one way.
use Rattle.std.proofs.Common.{◌≡◌, ℕ}
use native.Mathlib.Nat.{ℕ_set}
use Rattle.xa_tokens.specs.Believed.Account.{Account, Owes}

pub one_owes : (a : Account) (n : ℕ) (p q : Owes a n) → p ≡ q
one_owes a n p q = ℕ_set _ _ p q
