use Rattle.std.proofs.Common.{◌+◌, ◌∙◌, refl, sym, ap, subst, arith}
use Rattle.xa_assoc.specs.Refusals.{is_memory}
use Rattle.xa_frame.specs.declared.reply.Reply.{Reply}
use Rattle.xa_model.specs.declared.event.Event.TheVariants.{Call}
use Rattle.xa_sequencer.proofs.Adding.{added, left_out, so_false, so_true}
use Rattle.xa_sequencer.proofs.Keeping.{keeps_on}
use Rattle.xa_sequencer.specs.Believed.GroupManager.{GroupManager, HasItsGroup}
use Rattle.xa_sequencer.specs.Believed.Numbers.{Called}
use Rattle.xa_sequencer.specs.Believed.Stands.{Numbered}
use Rattle.xa_sequencer.proofs.sequencer.Sequencer.call.Goals as goal

pub invariant_of-self-2 : goal.invariant_of-self-2
invariant_of-self-2 g c =
    let m = g.M.Manages.manages in
    let s = c.self.inside in
    let call = c.in_ok-reply.ensures in
    let now : GroupManager g.row.M.Denot = record { manager = s.manager; pending = s.pending } in
    let then = record now { manager = c.call.new.self } in
    let old : Numbered (GroupManager g.row.M.Denot) = record { now = now; count = s.count } in
    let new : Numbered (GroupManager g.row.M.Denot) = record { now = then; count = s.count + 1 } in
    let left = c.if-not-are_left.ensures.left refl in
    let adds = added m g.S.Start.start g.S.Start.base old new (Call c.args.session c.args.request) c.in_ok-reply.reply (record c.in_ok-reply.reply { place = s.count + 1 })
    call.acts (sym c.if-is_memory.ensures) call.place (record { limits = c.requires; held = c.hold.ensures }) refl refl
    (omega (arith, left, c.connected.ensures s.pending, c.pending_calls.ensures, call.sessions)) in
    keeps_on m (HasItsGroup g.M.Manages.is_group) g.S.Start.start g.S.Start.base _ _ old new _ adds.goes_on call.group refl
    (omega (arith, left, c.connected.ensures s.pending, c.pending_calls.ensures, call.sessions)) c.self.invariant

pub returns-clause-called : goal.returns-clause-called
returns-clause-called g c =
    let m = g.M.Manages.manages in
    let s = c.self.inside in
    let call = c.in_ok-reply.ensures in
    let now : GroupManager g.row.M.Denot = record { manager = s.manager; pending = s.pending } in
    let then = record now { manager = c.call.new.self } in
    let old : Numbered (GroupManager g.row.M.Denot) = record { now = now; count = s.count } in
    let new : Numbered (GroupManager g.row.M.Denot) = record { now = then; count = s.count + 1 } in
    let served = sym c.if-is_memory.ensures in
    let adds = added m g.S.Start.start g.S.Start.base old new (Call c.args.session c.args.request) c.in_ok-reply.reply c.placed.result
    call.acts served call.place (record { limits = c.requires; held = c.hold.ensures }) c.placed.ensures refl
    (omega (arith, c.if-not-are_left.ensures.left refl, c.connected.ensures s.pending, c.pending_calls.ensures, call.sessions)) in
    subst (λ (o : Numbered (GroupManager g.row.M.Denot)). Called m g.S.Start.start g.S.Start.base c.args.session o c.args.request c.placed.result new) c.self.view_is
    (so_false _ _ (is_memory c.placed.result.detail) (ap (λ (r : Reply). is_memory r.detail) c.placed.ensures ∙ served) adds)

pub returns-then-is_memory-clause-called : goal.returns-then-is_memory-clause-called
returns-then-is_memory-clause-called g c =
    let m = g.M.Manages.manages in
    let s = c.self.inside in
    let call = c.in_ok-reply.ensures in
    let now : GroupManager g.row.M.Denot = record { manager = s.manager; pending = s.pending } in
    let then = record now { manager = c.call.new.self } in
    let old : Numbered (GroupManager g.row.M.Denot) = record { now = now; count = s.count } in
    let new : Numbered (GroupManager g.row.M.Denot) = record { now = then; count = s.count } in
    let wanted = sym c.if-is_memory.ensures in
    let leaves = left_out m g.S.Start.start g.S.Start.base old new (Call c.args.session c.args.request) c.in_ok-reply.reply call.acts wanted refl
    (omega (arith, call.sessions)) in
    subst (λ (o : Numbered (GroupManager g.row.M.Denot)). Called m g.S.Start.start g.S.Start.base c.args.session o c.args.request c.in_ok-reply.reply new) c.self.view_is
    (so_true _ _ (is_memory c.in_ok-reply.reply.detail) wanted leaves)
