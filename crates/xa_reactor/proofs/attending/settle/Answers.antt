use Rattle.std.proofs.Common.{subst}
use Rattle.xa_reactor.specs.Believed.Tending.{Table, sessions_of}
use Rattle.xa_reactor.specs.ForAll.{TendsForAll}
use Rattle.xa_reactor.proofs.attending.settle.Goals as goal

pub returns-then-not-put_off : goal.returns-then-not-put_off
returns-then-not-put_off g c =
    subst (λ (t : Table). TendsForAll g.D.Reception.connected g.D.Door.called g.D.Door.left t c.args.door.now (sessions_of c.go_on.new.self.all) c.go_on.new.door)
    c.put_off.ensures.same c.go_on.ensures.tends

pub returns-then-not-wait_for : goal.returns-then-not-wait_for
returns-then-not-wait_for g c =
    subst (λ (t : Table). TendsForAll g.D.Reception.connected g.D.Door.called g.D.Door.left t c.args.door.now (sessions_of c.go_on-then-not-wait_for.new.self.all) c.go_on-then-not-wait_for.new.door)
    c.wait_for.ensures.same c.go_on-then-not-wait_for.ensures.tends

pub returns-in-Some : goal.returns-in-Some
returns-in-Some g c =
    subst (λ (t : Table). TendsForAll g.D.Reception.connected g.D.Door.called g.D.Door.left t c.args.door.now (sessions_of c.go_on-in-Some.new.self.all) c.go_on-in-Some.new.door)
    c.answer_control.ensures.same c.go_on-in-Some.ensures.tends
