use Rattle.std.proofs.Common.{◌≡◌, true, false, rules}
use Rattle.xa_assoc.proofs.Follows.{suspended_follows, migrated_follows}
use Rattle.xa_assoc.proofs.sessions.Sessions.suspend.Goals as goal

pub returns-then-migrates-clause-after : goal.returns-then-migrates-clause-after
returns-then-migrates-clause-after c =
    let is : c.args.migrates ≡ true = search rules in
    rw is (migrated_follows c.args.self.now c.leave_seat.new.self c.args.session c.args.xid.now c.leave_seat.ensures.room c.leave_seat.ensures.seat)

pub returns-else-migrates-clause-after : goal.returns-else-migrates-clause-after
returns-else-migrates-clause-after c =
    let is : c.args.migrates ≡ false = search rules in
    rw is (suspended_follows c.args.self.now c.stand_up.new.self c.args.session c.args.xid.now c.stand_up.ensures.room c.stand_up.ensures.seat)
