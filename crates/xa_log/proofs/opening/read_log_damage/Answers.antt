use Rattle.std.proofs.Common.{subst, sym, ap, ◌∙◌}
use Rattle.xa_log.specs.Believed.Chain.{Rests, format_in}
use Rattle.xa_log.specs.Reading.{bodies_of}
use Rattle.xa_log.proofs.Records.{format_text}
use Rattle.xa_log.proofs.opening.read_log_damage.Goals as goal

pub returns-clause-value : goal.returns-clause-value
returns-clause-value g c h = let read = c.in_ok-scan.ensures.value h in
    let file = g.D.Disk.seen c.args.disk.now in
    (read.0, subst (λ k. Rests k (bodies_of c.in_ok-scan.scan.bodies.items) file) (sym (ap format_in read.1.rests.split ∙ format_text _ _ read.1.rests.rest)) read.1.rests)

pub returns-clause-logged : goal.returns-clause-logged
returns-clause-logged g c h = c.in_ok-scan.ensures.logged h
