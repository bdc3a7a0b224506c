use Rattle.std.proofs.Common.{subst}
use Rattle.xa_handles.specs.Believed.Shared.{HoldsAt}
use Rattle.xa_handles.specs.Believed.Standing.{Standing}
use Rattle.xa_handles.proofs.Booking.{holds_at}
use Rattle.xa_sequencer.specs.Believed.GroupManager.{GroupManager}
use Rattle.xa_handles.proofs.locked.Locked.look.Goals as goal

pub returns-clause-holds : goal.returns-clause-holds
returns-clause-holds g c =
    subst (λ (s : Standing (GroupManager g.row.M.Denot)). HoldsAt g.M.Manages.manages g.S.Start.start g.S.Start.base s.at c.args.share) c.self.view_is
    (holds_at g.M.Manages.manages g.S.Start.start g.S.Start.base c.self.inside.sequencer c.self.inside.keeper c.args.share
    c.self.invariant.0 c.promises.ensures.promises c.look.ensures.within)
