use Rattle.std.proofs.Common.{◌∙◌, refl, sym}
use Rattle.xa_log.specs.Reading.{bodies_of}
use Rattle.xa_copy.proofs.Opening.{begun, same_format}
use Rattle.xa_copy.proofs.standby.Standby.begin.Goals as goal

pub returns-clause-stands : goal.returns-clause-stands
returns-clause-stands g c h old new old_second new_second copies =
    let it = c.in_ok-log.ensures in
    let same = it.same h in
    let format = same_format c.in_ok-log.log.format c.args.copied.format (sym c.format.ensures ∙ c.if-format-number.false ∙ c.number.ensures) in
    begun g.D.Disk c.args.log_bytes old new old_second new_second (g.D.Disk.seen c.args.first) (g.D.Disk.seen c.args.second) c.args.copied _
    (bodies_of c.in_ok-log._bodies.items) copies (sym (it.logged h) ∙ copies.copies.pair.logged) (it.log h) same.0 same.1 refl format
