-- The states that a restart and an opening lead to, from what lasted.
use Rattle.std.specs.Prelude.{ℕ, ◌≡◌, true, false, []}
use Rattle.std.specs.List.{AllByRecursion}
use Rattle.xa_model.specs.State.{State, Up, is_working}
use Rattle.xa_model.specs.Durable.{Durable, durable, is_past}
use Rattle.xa_model.specs.Logging.{snapshot_end}
use Rattle.xa_model.specs.Invariants.Loggable.{IsRecoverable}

-- The next boot began with this, and nothing was asked of it yet: no branch is at work, and
-- nobody has read. Committed branches may have reads, and writes that later ones overwrote:
-- what lasts is all that later branches can see of them.
pub record IsRestored (d : Durable) (next : ℕ) (s : State) : Type 0 where
  pub recoverable : IsRecoverable s
  pub lasts : durable s ≡ record d { boot = next }
  pub boot : s.boot ≡ next
  pub logged_boot : s.logged_boot ≡ next
  pub given : s.given ≡ 0
  pub associations : s.associations ≡ []
  pub reads : s.reads ≡ []
  pub idle : AllByRecursion (λ b. is_working b.phase ≡ false) s.branches
  pub past : AllByRecursion (λ b. is_past next b.timestamp ≡ true) s.branches
  pub standing : s.standing ≡ Up
  pub open_records : s.open_records ≡ []
  pub end : s.end ≡ snapshot_end s next
