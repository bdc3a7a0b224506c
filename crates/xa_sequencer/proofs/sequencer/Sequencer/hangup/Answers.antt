use Rattle.std.proofs.Common.{◌+◌, ◌∙◌, sym, ap, refl, subst, arith}
use Rattle.xa_sequencer.proofs.Adding.{so_true}
use Rattle.xa_sequencer.proofs.Alone.{at, hangup_adds}
use Rattle.xa_sequencer.proofs.Keeping.{keeps_on}
use Rattle.xa_sequencer.specs.Believed.GroupManager.{GroupManager, HasItsGroup}
use Rattle.xa_sequencer.specs.Believed.Numbers.{Left}
use Rattle.xa_sequencer.specs.Believed.Stands.{Numbered}
use Rattle.xa_sequencer.proofs.sequencer.Sequencer.hangup.Goals as goal

pub overflow_add-self : goal.overflow_add-self
overflow_add-self g c =
    let s = c.self.inside in
    let h = c.self.invariant.0 in
    omega (arith, h.1.upholds.reserved, h.1.count_is, c.if-not-hangup.ensures.sessions refl (sym (c.if-not-is_connected.ensures s.pending)))

-- it has to wait
pub invariant_of-self : goal.invariant_of-self
invariant_of-self g c = rw c.if-not-hangup.ensures.did.0 c.self.invariant

pub invariant_of-self-2 : goal.invariant_of-self-2
invariant_of-self-2 g c =
    let m = g.M.Manages.manages in
    let s = c.self.inside in
    let now : GroupManager g.row.M.Denot = record { manager = s.manager; pending = s.pending } in
    let then = record now { manager = c.hangup.new.self } in
    let fewer = c.if-not-hangup.ensures.sessions refl (sym (c.if-not-is_connected.ensures s.pending)) in
    let adds = hangup_adds m g.S.Start.start g.S.Start.base s.manager c.hangup.new.self s.pending s.count c.args.session
    c.if-not-hangup.ensures.did fewer c.self.invariant.0 in
    keeps_on m (HasItsGroup g.M.Manages.is_group) g.S.Start.start g.S.Start.base _ _ (at s.manager s.pending s.count) (at c.hangup.new.self s.pending (s.count + 1)) _ adds.goes_on c.if-not-hangup.ensures.group refl
    (omega (arith, c.self.invariant.1.reserved, fewer)) c.self.invariant

pub returns-clause-left : goal.returns-clause-left
returns-clause-left g c =
    let m = g.M.Manages.manages in
    let s = c.self.inside in
    let now : GroupManager g.row.M.Denot = record { manager = s.manager; pending = s.pending } in
    let was = sym (c.if-not-is_connected.ensures s.pending) in
    let adds = hangup_adds m g.S.Start.start g.S.Start.base s.manager c.hangup.new.self s.pending s.count c.args.session
    c.if-not-hangup.ensures.did (c.if-not-hangup.ensures.sessions refl was) c.self.invariant.0 in
    subst (λ (o : Numbered (GroupManager g.row.M.Denot)). Left m g.S.Start.start g.S.Start.base c.args.session o (at c.hangup.new.self s.pending (s.count + 1))) c.self.view_is
    (so_true _ _ _ was adds)
