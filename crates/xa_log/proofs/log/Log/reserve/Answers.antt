use Rattle.std.proofs.Common.{refl}
use Rattle.xa_log.specs.LogFields.{shown}
use Rattle.xa_log.proofs.Still.{keeps_all}
use Rattle.xa_log.proofs.Viewed.{keeps_seen}
use Rattle.xa_log.proofs.log.Log.reserve.Goals as goal

pub returns-in_ok-self-inside-clause-state : goal.returns-in_ok-self-inside-clause-state
returns-in_ok-self-inside-clause-state g c =
    keeps_seen c.self.view_is
    (keeps_all g.D.Disk (shown c.self.inside) _ (record { on_first = refl; log_bytes = refl; format = refl; end = refl; digest = refl; number = refl; lost = refl; known = refl; other_known = refl })
    refl (λ x left. left) refl (λ x left. left))
