-- Who is connected.
use Rattle.std.specs.Prelude.{ℕ, ◌≡◌, ◌+◌, ◌==◌, Bool, true, false, cond, is_some, if◌then◌else◌}
use Rattle.xa_assoc.specs.declared.sessions.Sessions.{Sessions}
use Rattle.xa_assoc.specs.Seats.{connected_in, opened_at}

-- which numbers are connected, and how many
pub record Company : Type 0 where
  pub has : ℕ → Bool
  pub count : ℕ

abbrev pub company : (ℕ → Bool) → ℕ → Company
company who many = record { has = who; count = many }

unfoldable pub company_of : Sessions → Company
company_of m = company (λ n. is_some (opened_at m n)) (connected_in m)

-- a number comes that wasn't connected
pub record Gains (c : Company) (n : ℕ) (d : Company) : Type 0 where
  pub new : c.has n ≡ false
  pub has : (k : ℕ) → d.has k ≡ cond (n == k) true (c.has k)
  pub count : d.count ≡ c.count + 1

-- a number goes, if it is connected
pub record Loses (c : Company) (n : ℕ) (d : Company) : Type 0 where
  pub has : (k : ℕ) → d.has k ≡ cond (n == k) false (c.has k)
  pub count : d.count + (if c.has n then 1 else 0) ≡ c.count
