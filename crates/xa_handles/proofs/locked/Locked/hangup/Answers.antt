use Rattle.std.proofs.Common.{◌≡◌, ◌∙◌, ◌+◌, List, Option, true, false, refl, sym, subst}
use Rattle.std.specs.Prelude.{pos}
use Rattle.xa_frame.specs.Made.{plain}
use Rattle.xa_manager.specs.declared.together.Asked.{Asked}
use Rattle.xa_history.specs.Believed.Book.{placed}
use Rattle.xa_handles.specs.Mail.{FitPending}
use Rattle.xa_handles.proofs.Booking.{adds}
use Rattle.xa_handles.proofs.Calling.{hangup_adds, hangup_counts, hangup_none, hangup_told}
use Rattle.xa_handles.proofs.locked.Locked.hangup.Goals as goal

pub returns-then-not-was_connected-clause-left : goal.returns-then-not-was_connected-clause-left
returns-then-not-was_connected-clause-left g c =
    let did = c.in-Some.ensures in
    hangup_none g.M.Manages.manages g.S.Start.start g.S.Start.base c.self.inside.sequencer c.hangup.new.self c.args.session c.args.asker.now
    c.promises.ensures.history (sym c.if-not-was_connected.true ∙ did.was) did.left

pub invariant_of-self-2 : goal.invariant_of-self-2
invariant_of-self-2 g c =
    let m = g.M.Manages.manages in
    let was = sym c.if-not-was_connected.false ∙ c.in-Some.ensures.was in
    let left = c.in-Some.ensures.left in
    let counts = hangup_counts m g.S.Start.start g.S.Start.base c.self.inside.sequencer c.hangup.new.self c.args.session was left in
    let is : c.placed-reply.result ≡ placed (c.self.inside.sequencer.count + 1) (plain (pos 0)) =
    c.placed-reply.ensures ∙ (λ i. placed ((c.count.ensures ∙ counts) i) (c.plain.ensures i)) in (
      adds m g.S.Start.start g.S.Start.base c.self.inside.sequencer c.hangup.new.self c.self.inside.keeper c.note.new.keeper _ _ c.placed-reply.result
          (hangup_adds m g.S.Start.start g.S.Start.base c.self.inside.sequencer c.hangup.new.self c.args.session c.placed-reply.result was left is)
          refl c.note.ensures.keeper c.self.invariant.0,
      subst (λ (p : Option (List Asked)). FitPending p c.self.inside.letters.items) (sym c.hangup.ensures.pending) c.self.invariant.1,
    )

pub returns-clause-left : goal.returns-clause-left
returns-clause-left g c =
    let m = g.M.Manages.manages in
    let was = sym c.if-not-was_connected.false ∙ c.in-Some.ensures.was in
    let left = c.in-Some.ensures.left in
    let counts = hangup_counts m g.S.Start.start g.S.Start.base c.self.inside.sequencer c.hangup.new.self c.args.session was left in
    let is : c.placed-reply.result ≡ placed (c.self.inside.sequencer.count + 1) (plain (pos 0)) =
    c.placed-reply.ensures ∙ (λ i. placed ((c.count.ensures ∙ counts) i) (c.plain.ensures i)) in
    hangup_told m g.S.Start.start g.S.Start.base c.self.inside.sequencer c.hangup.new.self c.args.session c.placed-reply.result c.args.asker.now c.note.new.asker
    c.promises.ensures.history was left is c.note.ensures.told
