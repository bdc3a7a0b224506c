-- What an append of a group leaves, by the log's own answer.
use Rattle.std.proofs.Common.{◌≡◌, ◌≢◌, ◌≤◌, ◌<◌, ◌+◌, ℕ, List, [], ◌∷◌, length, subst, arith}
use Rattle.xa_disk.specs.Time.{LeavesOnly}
use Rattle.xa_disk.specs.declared.disk.Disk.{Ghosts}
use Rattle.xa_log.specs.Ahead.{AppendsBy}
use Rattle.xa_log.specs.Believed.Damage.{AreAppended}
use Rattle.xa_log.specs.Believed.Group.{as_one, first_of_group}
use Rattle.xa_log.specs.Believed.Stands.{Stands, Leaves, Moves, Renumbers}
use Rattle.xa_log.specs.Believed.TwoFiles.{Pair, AppendsTo}
use Rattle.xa_log.specs.declared.appending.Appended.{Appended}
use Rattle.xa_log.specs.declared.appending.Appended.TheVariants as appended
use Rattle.xa_log.specs.Believed.LogView.{LogView}
use Rattle.xa_model.specs.declared.outcome.Appending.{Appending}
use Rattle.xa_manager.specs.Believed.Answered.{as_appended}
use Rattle.xa_manager.specs.Turns.{HasAppended}

pub has_appended : {D : Type 0} (disks : Ghosts D) (group : List (List ℕ)) (a : Appending) (r : Appended) (old new : LogView D)
    → r ≡ as_appended a → new.log_bytes ≡ old.log_bytes → (new.other ≡ old.other) × (new.on_first ≡ old.on_first)
    → Moves r (as_one group) old new → Renumbers r (first_of_group group) old new
    → (disks.honest → (bodies stood : List (List ℕ)) → Pair disks bodies stood old → AreAppended bodies group → AppendsTo disks r bodies group stood new)
    → AppendsBy disks (as_one group) r old new
    → (disks.honest → (bodies : List (List ℕ)) → Stands disks bodies old
    → LeavesOnly disks old.disk new.disk (Leaves old.log_bytes old.format bodies group))
    → HasAppended disks group a old new
has_appended disks group a r old new is bytes other moves numbers pair calls leaves = record {
  log_bytes = bytes;
  other = other;
  moves = subst (λ (x : Appended). Moves x (as_one group) old new) is moves;
  numbers = subst (λ (x : Appended). Renumbers x (first_of_group group) old new) is numbers;
  pair = λ honest bodies stood p kinds. subst (λ (x : Appended). AppendsTo disks x bodies group stood new) is (pair honest bodies stood p kinds);
  calls = subst (λ (x : Appended). AppendsBy disks (as_one group) x old new) is calls;
  leaves = leaves;
}

-- a body by itself
pub alone : (body : List ℕ) → as_one (body ∷ []) ≡ length body
alone body = omega arith

-- one that has its room was not answered that it has none
pub never_full : (r : Appended) (most end around size : ℕ) → (r ≡ appended.Full → most < end + around + size) → end + around + size ≤ most → r ≢ appended.Full
never_full r most end around size full room is = let none : most < end + around + size = full is in absurd (omega (arith, none))
