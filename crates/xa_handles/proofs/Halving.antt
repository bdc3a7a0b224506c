-- How often a number can be halved.
use Rattle.std.proofs.Common.{◌≡◌, ℕ, zero, suc, ◌/◌, ◌==◌, false, cond, refl, sym, ap, subst}
use Rattle.xa_handles.specs.Counts.{halvings}

-- 0 can't be
pub none : (most n : ℕ) → n ≡ 0 → halvings most n ≡ 0
none zero n e = refl
none (suc most) n e = subst (λ m. halvings (suc most) m ≡ 0) (sym e) refl

-- any other can be, once more than its half
pub once_more : (most n : ℕ) → (n == 0) ≡ false → halvings (suc most) n ≡ suc (halvings most (n / 2))
once_more most n e = ap (λ b. cond b 0 (suc (halvings most (n / 2)))) e
