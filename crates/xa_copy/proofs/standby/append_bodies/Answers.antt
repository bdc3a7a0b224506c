use Rattle.std.proofs.Common.{inl, inr}
use Rattle.xa_log.specs.Believed.LogStates.{Whole}
use Rattle.xa_log.specs.Reading.{bodies_of}
use Rattle.xa_copy.proofs.Standing.{leaving_reserved}
use Rattle.xa_copy.proofs.standby.append_bodies.Goals as goal

pub returns-then-not-branch-clause-appends : goal.returns-then-not-branch-clause-appends
returns-then-not-branch-clause-appends g c h stand stood pair appended = inl (c.in_ok-reserve_group.ensures.state.state (Whole stand stood) pair)

pub returns-in-Kept-clause-appends : goal.returns-in-Kept-clause-appends
returns-in-Kept-clause-appends g c h stand stood pair appended =
    (c.in-Kept.ensures.pair h stand stood (c.in_ok-reserve_group.ensures.state.state (Whole stand stood) pair) appended)

pub returns-in-Refused-clause-appends : goal.returns-in-Refused-clause-appends
returns-in-Refused-clause-appends g c h stand stood pair appended =
    inl ((c.in-Refused.ensures.pair h stand stood (c.in_ok-reserve_group.ensures.state.state (Whole stand stood) pair) appended))

pub returns-in-Lost-clause-appends : goal.returns-in-Lost-clause-appends
returns-in-Lost-clause-appends g c h stand stood pair appended =
    inr ((c.in-Lost.ensures.pair h stand stood (c.in_ok-reserve_group.ensures.state.state (Whole stand stood) pair) appended))

pub returns-in-Kept-clause-any_moment : goal.returns-in-Kept-clause-any_moment
returns-in-Kept-clause-any_moment g c h stand stood pair =
    let room = c.in_ok-reserve_group.ensures in
    leaving_reserved g.D.Disk c.args.log.now c.reserve_group.new.self c.append_group.new.self.disk stand (bodies_of c.args.bodies.now)
    room.disks.0 room.untouched.log_bytes room.untouched.format (c.in-Kept.ensures.any_moment h stand (room.state.stands stand pair.current))

pub returns-in-Refused-clause-any_moment : goal.returns-in-Refused-clause-any_moment
returns-in-Refused-clause-any_moment g c h stand stood pair =
    let room = c.in_ok-reserve_group.ensures in
    leaving_reserved g.D.Disk c.args.log.now c.reserve_group.new.self c.append_group.new.self.disk stand (bodies_of c.args.bodies.now)
    room.disks.0 room.untouched.log_bytes room.untouched.format (c.in-Refused.ensures.any_moment h stand (room.state.stands stand pair.current))

pub returns-in-Lost-clause-any_moment : goal.returns-in-Lost-clause-any_moment
returns-in-Lost-clause-any_moment g c h stand stood pair =
    let room = c.in_ok-reserve_group.ensures in
    leaving_reserved g.D.Disk c.args.log.now c.reserve_group.new.self c.append_group.new.self.disk stand (bodies_of c.args.bodies.now)
    room.disks.0 room.untouched.log_bytes room.untouched.format (c.in-Lost.ensures.any_moment h stand (room.state.stands stand pair.current))
