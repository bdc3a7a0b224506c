use Rattle.std.proofs.Common.{ap, List, ℕ, ◌∙◌, refl, cond, nat_eq, arith}
use Rattle.std.specs.List.{AllByRecursion}
use Rattle.xa_log.specs.Buffer.{Holds}
use Rattle.xa_log.specs.Believed.Chain.{IsBody}
use Rattle.xa_log.specs.Believed.Group.{as_one, bodies_in}
use Rattle.xa_log.specs.LogFields.{shown}
use Rattle.xa_log.specs.Believed.Pair.{number_in}
use Rattle.xa_log.proofs.Room.{keeps_refilled, refilled}
use Rattle.xa_log.proofs.Viewed.{of_fields, written_seen}
use Rattle.xa_log.proofs.Writing.{buffer_holds, has_written}
use Rattle.xa_log.proofs.log.Log.write_group.Goals as goal

pub returns-clause-written : goal.returns-clause-written
returns-clause-written g c =
    let log = c.self.inside in
    let group = bodies_in c.args.group in
    let sizes = of_fields (λ l. AllByRecursion (IsBody l.format) group) c.self.view_is c.requires.sizes in
    let holds = of_fields (λ l. Holds l (as_one group)) c.self.view_is c.requires.holds in
    written_seen c.self.view_is
    (has_written g.D.Disk g.met.D.Disk.only_now group _ (shown log) _ c.ready_behind-ready.result c.if-self.false c.requires.some sizes c.in_ok-to.ensures.some.0 c.ready_behind-ready.ensures.exact c.ready_behind-ready.ensures.within
    c.write_group_at-write.ensures.digest (c.generation_with.ensures ∙ ap (λ (l : List ℕ). cond (nat_eq log.end 8) (number_in l) log.generation) c.first.ensures)
    (omega (arith, buffer_holds (shown log) group c.in_ok-to.to c.requires.some c.in_ok-to.ensures.some.0 holds c.self.invariant.room, refilled log.buffer c.write_group_at-write.new.buffer))
    c.write_group_at-write.ensures.went c.write_group_at-write.ensures.time c.write_group_at-write.ensures.calls
    refl refl refl refl refl refl refl refl refl refl (keeps_refilled (shown log) log.buffer c.write_group_at-write.new.buffer refl))
