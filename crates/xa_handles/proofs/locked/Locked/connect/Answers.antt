use Rattle.std.proofs.Common.{◌≡◌, ◌∙◌, ◌+◌, List, Option, refl, sym, ap, subst}
use Rattle.xa_assoc.specs.Refusals.{is_memory}
use Rattle.xa_frame.specs.declared.reply.Reply.{Reply}
use Rattle.xa_manager.specs.Believed.Answered.{connect_reply}
use Rattle.xa_manager.specs.declared.together.Asked.{Asked}
use Rattle.xa_history.specs.Believed.Book.{placed}
use Rattle.xa_handles.specs.Mail.{FitPending}
use Rattle.xa_handles.proofs.Booking.{adds}
use Rattle.xa_handles.proofs.Calling.{connect_adds, connect_counts, connect_none, connect_told}
use Rattle.xa_handles.proofs.locked.Locked.connect.Goals as goal

pub returns-then-is_memory-clause-connected : goal.returns-then-is_memory-clause-connected
returns-then-is_memory-clause-connected g c =
    let found = ap (λ (r : Reply). is_memory r.detail) (sym c.connect_reply-reply.ensures.value) ∙ sym c.if-is_memory.ensures in
    connect_none g.M.Manages.manages g.S.Start.start g.S.Start.base c.self.inside.sequencer c.connect-session.new.self c.connect-session.result c.args.asker.now
    c.promises.ensures.history found c.connect-session.ensures.connected

pub invariant_of-self-2 : goal.invariant_of-self-2
invariant_of-self-2 g c =
    let m = g.M.Manages.manages in
    let found = ap (λ (r : Reply). is_memory r.detail) (sym c.connect_reply-reply.ensures.value) ∙ sym c.if-is_memory.ensures in
    let did = c.connect-session.ensures in
    let counts = connect_counts m g.S.Start.start g.S.Start.base c.self.inside.sequencer c.connect-session.new.self c.connect-session.result found did.connected in
    let is : c.placed-reply.result ≡ placed (c.self.inside.sequencer.count + 1) (connect_reply c.connect-session.result) =
    c.placed-reply.ensures ∙ (λ i. placed ((c.count.ensures ∙ counts) i) (c.connect_reply-reply.ensures.value i)) in (
      adds m g.S.Start.start g.S.Start.base c.self.inside.sequencer c.connect-session.new.self c.self.inside.keeper c.note.new.keeper _ _ c.placed-reply.result
          (connect_adds m g.S.Start.start g.S.Start.base c.self.inside.sequencer c.connect-session.new.self c.connect-session.result c.placed-reply.result found did.connected is)
          refl c.note.ensures.keeper c.self.invariant.0,
      subst (λ (p : Option (List Asked)). FitPending p c.self.inside.letters.items) (sym did.pending) c.self.invariant.1,
    )

pub returns-clause-connected : goal.returns-clause-connected
returns-clause-connected g c =
    let m = g.M.Manages.manages in
    let found = ap (λ (r : Reply). is_memory r.detail) (sym c.connect_reply-reply.ensures.value) ∙ sym c.if-is_memory.ensures in
    let did = c.connect-session.ensures in
    let counts = connect_counts m g.S.Start.start g.S.Start.base c.self.inside.sequencer c.connect-session.new.self c.connect-session.result found did.connected in
    let is : c.placed-reply.result ≡ placed (c.self.inside.sequencer.count + 1) (connect_reply c.connect-session.result) =
    c.placed-reply.ensures ∙ (λ i. placed ((c.count.ensures ∙ counts) i) (c.connect_reply-reply.ensures.value i)) in
    connect_told m g.S.Start.start g.S.Start.base c.self.inside.sequencer c.connect-session.new.self c.connect-session.result c.placed-reply.result c.args.asker.now c.note.new.asker
    c.promises.ensures.history found did.connected is c.note.ensures.told
