use Rattle.std.proofs.Common.{refl}
use Rattle.xa_log.specs.LogFields.{shown}
use Rattle.xa_log.proofs.Plans.{left_kept}
use Rattle.xa_log.proofs.Still.{keeps_all}
use Rattle.xa_log.proofs.Viewed.{keeps_seen}
use Rattle.xa_log.proofs.planning.Log+MemDisk.fail_other.Goals as goal

pub returns-clause-state : goal.returns-clause-state
returns-clause-state c =
    keeps_seen c.self.view_is
    (keeps_all _ (shown c.self.inside) _ (record { on_first = refl; log_bytes = refl; format = refl; end = refl; digest = refl; number = refl; lost = refl; known = refl; other_known = refl })
    refl (λ x left. left) c.fail.ensures.same.same.bytes (left_kept _ _ c.fail.ensures.same))
