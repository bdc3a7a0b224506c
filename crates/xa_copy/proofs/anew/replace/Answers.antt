use Rattle.std.proofs.Common.{◌∙◌, [], inl, inr, ap}
use Rattle.xa_log.specs.Believed.LogStates.{Whole}
use Rattle.xa_log.specs.Believed.LogView.{LogView}
use Rattle.xa_copy.proofs.Renewing.{holds_each, leaving_room}
use Rattle.xa_copy.proofs.anew.replace.Goals as goal

pub checkpoint-requires-clause-holds : goal.checkpoint-requires-clause-holds
checkpoint-requires-clause-holds g c =
    holds_each c.reserve.new.self c.args.longest c.args.bodies.now c.in_ok-reserve.ensures.holds c.requires.fit

pub returns-in-Kept-clause-replaces : goal.returns-in-Kept-clause-replaces
returns-in-Kept-clause-replaces g c h old stood pair =
    let p = c.in_ok-reserve.ensures.state.state (Whole old stood) pair in (
      (c.in-Kept.ensures.answer h old stood p).0,
      (c.in-Kept.ensures.swaps p.current.alive).2,
    )

pub returns-in-Kept-clause-any_moment : goal.returns-in-Kept-clause-any_moment
returns-in-Kept-clause-any_moment g c h old stood pair =
    let room = c.in_ok-reserve.ensures in
    let p = room.state.state (Whole old stood) pair in (
      (c.in-Kept.ensures.swaps p.current.alive).0 ∙ room.disks.0,
      leaving_room g.D.Disk c.args.log.now c.reserve.new.self c.checkpoint.new.self.disk stood c.args.bodies.now room.disks.1 room.untouched.log_bytes
          (c.in-Kept.ensures.any_moment h old stood p),
    )

pub returns-in-Refused-clause-replaces : goal.returns-in-Refused-clause-replaces
returns-in-Refused-clause-replaces g c h old stood pair =
    let p = c.in_ok-reserve.ensures.state.state (Whole old stood) pair in (
      elim (c.in-Refused.ensures.answer h old stood p) [ inl a ↦ inl (stood, a) | inr a ↦ inl ([], a.0) ],
      (c.in-Refused.ensures.swaps p.current.alive).2 ∙ c.in_ok-reserve.ensures.untouched.format,
    )

pub returns-in-Refused-clause-any_moment : goal.returns-in-Refused-clause-any_moment
returns-in-Refused-clause-any_moment g c h old stood pair =
    let room = c.in_ok-reserve.ensures in
    let p = room.state.state (Whole old stood) pair in (
      (c.in-Refused.ensures.swaps p.current.alive).0 ∙ room.disks.0,
      inr (
        c.requires.some,
        leaving_room g.D.Disk c.args.log.now c.reserve.new.self c.checkpoint.new.self.other stood c.args.bodies.now room.disks.1
            room.untouched.log_bytes (c.in-Refused.ensures.any_moment h old stood p),
      ),
    )

pub returns-in-Lost-clause-replaces : goal.returns-in-Lost-clause-replaces
returns-in-Lost-clause-replaces g c h old stood pair =
    let p = c.in_ok-reserve.ensures.state.state (Whole old stood) pair in (
      inr (c.in-Lost.ensures.answer h old stood p),
      (c.in-Lost.ensures.swaps p.current.alive).2 ∙ c.in_ok-reserve.ensures.untouched.format,
    )

pub returns-in-Lost-clause-any_moment : goal.returns-in-Lost-clause-any_moment
returns-in-Lost-clause-any_moment g c h old stood pair =
    let room = c.in_ok-reserve.ensures in
    let p = room.state.state (Whole old stood) pair in (
      (c.in-Lost.ensures.swaps p.current.alive).0 ∙ room.disks.0,
      inr (
        c.requires.some,
        leaving_room g.D.Disk c.args.log.now c.reserve.new.self c.checkpoint.new.self.other stood c.args.bodies.now room.disks.1
            room.untouched.log_bytes (c.in-Lost.ensures.any_moment h old stood p),
      ),
    )

pub returns-in-Full-clause-replaces : goal.returns-in-Full-clause-replaces
returns-in-Full-clause-replaces g c h old stood pair =
    let p = c.in_ok-reserve.ensures.state.state (Whole old stood) pair in (
      inl (stood, c.in-Full.ensures.answer h old stood p),
      ap (λ (l : LogView g.row.D.Denot). l.format) (c.in-Full.ensures.swaps p.current.alive) ∙ c.in_ok-reserve.ensures.untouched.format,
    )

pub returns-in-Full-clause-any_moment : goal.returns-in-Full-clause-any_moment
returns-in-Full-clause-any_moment g c h old stood pair =
    let room = c.in_ok-reserve.ensures in
    let p = room.state.state (Whole old stood) pair in
    let same = c.in-Full.ensures.swaps p.current.alive in (
      ap (λ (l : LogView g.row.D.Denot). l.disk) same ∙ room.disks.0,
      inl (ap (λ (l : LogView g.row.D.Denot). l.other) same ∙ room.disks.1),
    )
