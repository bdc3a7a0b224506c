use Rattle.std.proofs.Common.{ap, subst, sym, arith}
use Rattle.xa_disk.specs.Time.{LeavesOnly}
use Rattle.xa_log.specs.Believed.Group.{bodies_in}
use Rattle.xa_log.specs.Believed.Stands.{Leaves}
use Rattle.xa_log.proofs.Grouped.{no_group_moments}
use Rattle.xa_log.proofs.log.Log.append_group.Goals as goal

pub returns-in-Some-clause-room : goal.returns-in-Some-clause-room
returns-in-Some-clause-room g c = (c.settle.ensures.group c.args.self.now (bodies_in c.args.group) c.in-Some.ensures.written).room

pub returns-in-None-clause-any_moment : goal.returns-in-None-clause-any_moment
returns-in-None-clause-any_moment g c h stand s =
    subst (λ l. LeavesOnly g.D.Disk c.args.self.now.disk l.disk (Leaves c.args.self.now.log_bytes c.args.self.now.format stand (bodies_in c.args.group))) (sym c.in-None.ensures.none.0)
    (no_group_moments _ stand _ c.args.self.now s (g.met.D.Disk.only_now c.args.self.now.disk) c.requires.sizes (omega (arith, c.self.invariant.within, ap (λ l. l.end) c.self.view_is, ap (λ l. l.log_bytes) c.self.view_is)))
