use Rattle.std.proofs.Common.{Option, subst}
use Rattle.std.specs.Option.{option_map}
use Rattle.xa_users.specs.declared.users.Users.{Users}
use Rattle.xa_reactor.specs.Believed.Tending.{SeedsHaveTended}
use Rattle.xa_reactor.proofs.Doing.{have_tended}
use Rattle.xa_reactor.proofs.loops.run_loops.Goals as goal

pub returns-clause-tended : goal.returns-clause-tended
returns-clause-tended g c =
    have_tended g.D.Reception.posts (option_map (λ u. u.now) c.args.users) g.D.Reception.connected g.D.Door.called g.D.Door.left g.D.Reception.is_settled
    c.in_ok-seeds.seeds.items c.args.doors.items c.in_ok-run_all.field-0.items c.in_ok-seeds.ensures
    (subst (λ (users : Option Users). SeedsHaveTended g.D.Reception.posts users g.D.Reception.connected g.D.Door.called g.D.Door.left g.D.Reception.is_settled
    c.in_ok-seeds.seeds.items c.in_ok-run_all.field-0.items) c.new-common.ensures.users c.in_ok-run_all.ensures.tended)
