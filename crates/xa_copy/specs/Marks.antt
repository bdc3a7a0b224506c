-- How far a log was copied, by what a copy tells of it.
use Rattle.std.specs.Prelude.{◌≡◌, ℕ, List, length}
use Rattle.std.specs.List.{AllByRecursion}
use Rattle.xa_log.specs.Believed.Chain.{IsBody, last, start, text}
use Rattle.xa_log.specs.Believed.Damage.{is_snapshot}
use Rattle.xa_copy.specs.declared.copied.Copied.{Copied}

-- these bodies were copied
pub record Marks (bodies : List (List ℕ)) (copied : Copied) : Type 0 where
  pub sizes : AllByRecursion (IsBody copied.format) bodies
  pub digest : copied.digest ≡ last (start copied.format) bodies
  pub records : copied.records ≡ length bodies
  pub end : copied.end ≡ length (text copied.format bodies)
  pub snapshot : copied.is_snapshot ≡ is_snapshot bodies
