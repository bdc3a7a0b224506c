use Rattle.std.proofs.Common.{◌∙◌, ◌||◌, ap, Bool, List, ℕ}
use Rattle.xa_log.specs.Believed.LeftOut.{stops_short}
use Rattle.xa_log.specs.Reading.{bodies_of}
use Rattle.xa_log.proofs.Left.{stops_by}
use Rattle.xa_log.proofs.damage.is_broken_behind.Goals as goal

pub returns-else-is_broken : goal.returns-else-is_broken
returns-else-is_broken c = λ file behind left.
    let format = c.args.format in
    let bodies : List (List ℕ) = bodies_of c.args.bodies.now in
    c.stops_short.ensures ∙ stops_by format bodies file c.args.left.now left
    ∙ ap (λ (t : Bool). t || stops_short format bodies file) (c.if-is_broken.ensures file behind)
