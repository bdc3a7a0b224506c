use Rattle.std.proofs.Common.{◌+◌, ◌∙◌, refl, sym, ap, subst, arith}
use Rattle.xa_assoc.specs.Refusals.{is_memory}
use Rattle.xa_frame.specs.declared.reply.Reply.{Reply}
use Rattle.xa_history.proofs.Longer.{one_more}
use Rattle.xa_sequencer.proofs.Adding.{none_more, so_false, so_true}
use Rattle.xa_sequencer.proofs.Alone.{at, connect_adds, connect_leaves}
use Rattle.xa_sequencer.proofs.Keeping.{keeps_on}
use Rattle.xa_sequencer.specs.Believed.GroupManager.{GroupManager, HasItsGroup}
use Rattle.xa_sequencer.specs.Believed.Numbers.{Connected}
use Rattle.xa_sequencer.specs.Believed.Stands.{Numbered}
use Rattle.xa_sequencer.proofs.sequencer.Sequencer.connect.Goals as goal

pub invariant_of-self : goal.invariant_of-self
invariant_of-self g c =
    let m = g.M.Manages.manages in
    let s = c.self.inside in
    let now : GroupManager g.row.M.Denot = record { manager = s.manager; pending = s.pending } in
    let connect = c.connect-session in
    let then = record now { manager = connect.new.self } in
    let wanted = ap (λ (r : Reply). is_memory r.detail) (sym c.connect_reply.ensures.value) ∙ sym c.if-is_memory.ensures in
    let leaves = connect_leaves m g.S.Start.start g.S.Start.base s.manager connect.new.self s.pending s.count connect.result
    connect.ensures.acts wanted connect.ensures.sessions in
    keeps_on m (HasItsGroup g.M.Manages.is_group) g.S.Start.start g.S.Start.base _ _ (at s.manager s.pending s.count) (at connect.new.self s.pending s.count) _ leaves.goes_on connect.ensures.group refl
    (omega (arith, c.self.invariant.1.reserved, none_more connect.result (m.sessions now) (m.sessions then) wanted connect.ensures.sessions)) c.self.invariant

pub invariant_of-self-2 : goal.invariant_of-self-2
invariant_of-self-2 g c =
    let m = g.M.Manages.manages in
    let s = c.self.inside in
    let now : GroupManager g.row.M.Denot = record { manager = s.manager; pending = s.pending } in
    let connect = c.connect-session in
    let then = record now { manager = connect.new.self } in
    let left = c.if-not-are_left.ensures.left refl in
    let found = ap (λ (r : Reply). is_memory r.detail) (sym c.connect_reply.ensures.value) ∙ sym c.if-is_memory.ensures in
    let adds = connect_adds m g.S.Start.start g.S.Start.base s.manager connect.new.self s.pending s.count connect.result
    connect.ensures.acts found connect.ensures.sessions (omega (arith, left, c.connected.ensures s.pending)) in
    keeps_on m (HasItsGroup g.M.Manages.is_group) g.S.Start.start g.S.Start.base _ _ (at s.manager s.pending s.count) (at connect.new.self s.pending (s.count + 1)) _ adds.goes_on connect.ensures.group refl
    (omega (arith, left, c.connected.ensures s.pending, c.pending_calls.ensures, one_more connect.result (m.sessions now) (m.sessions then) connect.ensures.sessions)) c.self.invariant

pub returns-clause-connected : goal.returns-clause-connected
returns-clause-connected g c =
    let m = g.M.Manages.manages in
    let s = c.self.inside in
    let now : GroupManager g.row.M.Denot = record { manager = s.manager; pending = s.pending } in
    let connect = c.connect-session in
    let found = ap (λ (r : Reply). is_memory r.detail) (sym c.connect_reply.ensures.value) ∙ sym c.if-is_memory.ensures in
    let adds = connect_adds m g.S.Start.start g.S.Start.base s.manager connect.new.self s.pending s.count connect.result
    connect.ensures.acts found connect.ensures.sessions (omega (arith, c.if-not-are_left.ensures.left refl, c.connected.ensures s.pending)) in
    subst (λ (o : Numbered (GroupManager g.row.M.Denot)). Connected m g.S.Start.start g.S.Start.base o connect.result (at connect.new.self s.pending (s.count + 1))) c.self.view_is
    (so_false _ _ _ found adds)

pub returns-then-is_memory-clause-connected : goal.returns-then-is_memory-clause-connected
returns-then-is_memory-clause-connected g c =
    let m = g.M.Manages.manages in
    let s = c.self.inside in
    let now : GroupManager g.row.M.Denot = record { manager = s.manager; pending = s.pending } in
    let connect = c.connect-session in
    let wanted = ap (λ (r : Reply). is_memory r.detail) (sym c.connect_reply.ensures.value) ∙ sym c.if-is_memory.ensures in
    let leaves = connect_leaves m g.S.Start.start g.S.Start.base s.manager connect.new.self s.pending s.count connect.result
    connect.ensures.acts wanted connect.ensures.sessions in
    subst (λ (o : Numbered (GroupManager g.row.M.Denot)). Connected m g.S.Start.start g.S.Start.base o connect.result (at connect.new.self s.pending s.count)) c.self.view_is
    (so_true _ _ _ wanted leaves)
