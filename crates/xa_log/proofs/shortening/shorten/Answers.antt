use Rattle.std.proofs.Common.{sym, subst}
use Rattle.xa_disk.specs.Disk.{Cut}
use Rattle.xa_disk.specs.Images.{cut_same}
use Rattle.xa_log.specs.Ahead.{cut_behind}
use Rattle.xa_log.proofs.Cuts.{uncut}
use Rattle.xa_log.proofs.shortening.shorten.Goals as goal

pub returns-then-saturating_sub-le-SPARE_BYTES-clause-front : goal.returns-then-saturating_sub-le-SPARE_BYTES-clause-front
returns-then-saturating_sub-le-SPARE_BYTES-clause-front g c h = cut_same (cut_behind c.args.keep) (g.D.Disk.seen c.args.disk.now)

pub returns-then-saturating_sub-le-SPARE_BYTES-clause-time : goal.returns-then-saturating_sub-le-SPARE_BYTES-clause-time
returns-then-saturating_sub-le-SPARE_BYTES-clause-time g c h = uncut g.D.Disk (cut_behind c.args.keep) c.args.disk.now

pub returns-else-shorten-clause-front : goal.returns-else-shorten-clause-front
returns-else-shorten-clause-front g c h = subst (λ f. Cut (cut_behind c.args.keep) (g.D.Disk.seen c.args.disk.now) f) (sym (c.if-shorten.ensures.cut h)) (cut_same (cut_behind c.args.keep) (g.D.Disk.seen c.args.disk.now))
