use Rattle.std.proofs.Common.{◌∙◌, sym}
use Rattle.xa_log.specs.Believed.Chain.{text}
use Rattle.xa_copy.proofs.Following.{stands_more, stands_on, stands_roomed}
use Rattle.xa_copy.proofs.copying.Copying.copy_record.Goals as goal

pub returns-in_default-clause-steps : goal.returns-in_default-clause-steps
returns-in_default-clause-steps g c begin bodies s =
    let now = g.S.Source.state c.next_size.new.source in (
      stands_on g.S.Source.honest g.D.Disk.honest begin (g.S.Source.state c.args.source.now) now _ bodies c.args.self.now s c.next_size.ensures.goes,
      λ h. c.in_ok-size.ensures.none h begin bodies s.has (s.follows h) c.in_default.is,
    )

pub returns-clause-steps : goal.returns-clause-steps
returns-clause-steps g c begin bodies s =
    let mid = g.S.Source.state c.next_size.new.source in
    let old = c.args.self.now in
    let stands = stands_on g.S.Source.honest g.D.Disk.honest begin (g.S.Source.state c.args.source.now) mid _ bodies old s c.next_size.ensures.goes in
    let roomed = stands_roomed g.S.Source.honest g.D.Disk.honest begin mid _ (g.D.Disk.seen c.make_room.new.to) bodies old c.make_room.new.self stands c.in_ok-make_room.ensures.end
    (λ k. c.in_ok-make_room.ensures.gathers k (text old.format bodies) (s.gathers k)) in
    let takes = c.in_ok-take_record.ensures.takes c.if-not-branch.false in (
      takes.body,
      stands_more g.S.Source.honest g.D.Disk.honest begin mid (g.S.Source.state c.take_record.new.source) (g.D.Disk.seen c.make_room.new.to) bodies
          (record old { gather = c.make_room.new.self }) c.take_record.new.self c.end-at.result roomed c.in_ok-take_record.ensures.goes
          (c.end-at.ensures ∙ sym c.in_ok-make_room.ensures.end) takes,
    )
