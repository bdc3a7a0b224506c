-- Every history that begins without reads is one copy at each place.
use Rattle.std.proofs.Common.{◌+◌, ◌<◌, List, [], ◌∷◌, map, refl, arith}
use Rattle.std.specs.List.{AllByRecursion}
use Rattle.xa_codes.specs.declared.write.Write.{Write}
use Rattle.xa_model.specs.State.{State, Branch, timestamp_of}
use Rattle.xa_model.specs.Fold.{nothing}
use Rattle.xa_model.specs.Restarting.{wrote, opening}
use Rattle.xa_model.specs.Invariants.Loggable.{IsRecoverable}
use Rattle.xa_model.specs.OneCopy.{HasOneCopy, HasNoGet, AlwaysOneCopy, FreshOneCopy, OpenedOneCopy}
use Rattle.xa_model.proofs.Inserts.{all_imply}
use Rattle.xa_model.proofs.Openings.{all_branches, every, opens_restored}
use Rattle.xa_model.proofs.Recoveries.{always_recoverable}
use Rattle.xa_model.proofs.Moves.{core}
use Rattle.xa_model.proofs.Pins.{IsRight, IsPinned, Settled, WorksAbove, AreSettled, IsOrdered, settled_weaker}
use Rattle.xa_model.proofs.ReadsAndWrites.{above_zero, moves_settled}
use Rattle.xa_model.proofs.OneByOne.{settled_one_copy, committed_descends, unread_settled}
use Rattle.xa_model.proofs.MovingTurns.{always}

pub ordered : (s : State) → IsRecoverable s → IsOrdered (core s)
ordered s h = record { few = omega (arith, h.sound.given); descends = h.sound.descends }

pub settled_copy : (s : State) → IsRecoverable s → AreSettled (core s) → HasOneCopy s
settled_copy s h k = (
  committed_descends (timestamp_of s.boot s.given + 1) s.branches h.sound.descends,
  settled_one_copy (timestamp_of s.boot s.given + 1) s.branches h.sound.descends
      (all_imply (λ b. Settled (IsPinned k.floor (core s) b.timestamp) b.operations) (λ b. Settled (IsRight s.branches b.timestamp) b.operations)
      (λ b p. settled_weaker (IsPinned k.floor (core s) b.timestamp) (IsRight s.branches b.timestamp)
      b.operations (λ key answer from pin. pin.right) p) s.branches k.pins),
)

-- before all timestamps, where nobody has read
pub unread_first : (s : State) → IsRecoverable s → AllByRecursion (λ b. HasNoGet b.operations) s.branches → AreSettled (core s)
unread_first s h unread = record {
  floor = 0;
  low = omega arith;
  work = all_imply (λ (b : Branch). 0 < b.timestamp) (WorksAbove 0) (λ b above works. above) s.branches
      (above_zero (timestamp_of s.boot s.given + 1) s.branches h.sound.descends);
  pins =
      all_imply (λ b. HasNoGet b.operations) (λ b. Settled (IsPinned 0 (core s) b.timestamp) b.operations)
      (λ b none. unread_settled (IsPinned 0 (core s) b.timestamp) b.operations none) s.branches unread;
}

pub always_one_copy : AlwaysOneCopy
always_one_copy first last entries h unread happened leads =
    settled_copy last (always_recoverable first last entries happened h leads)
    (always AreSettled (λ s d r m k. moves_settled m (ordered s r) k) first last entries happened h leads (unread_first first h unread))

-- openings

wrote_only : (ws : List Write) → HasNoGet (map wrote ws)
wrote_only [] = tt
wrote_only (w ∷ ws) = wrote_only ws

pub opened_one_copy : OpenedOneCopy
opened_one_copy rs d name log_bytes last entries k e less few happened leads =
    always_one_copy (opening d name log_bytes (d.boot + 1)) last entries (opens_restored rs d name log_bytes k e less few).0.recoverable
    (all_branches (λ (b : Branch). HasNoGet b.operations) d (every _ (λ c. wrote_only c.writes) d.committed)
    (every _ (λ p. wrote_only p.writes) d.prepared))
    happened leads

pub fresh_one_copy : FreshOneCopy
fresh_one_copy name log_bytes last entries happened leads =
    opened_one_copy [] nothing name log_bytes last entries tt refl (omega arith) (omega arith) happened leads
