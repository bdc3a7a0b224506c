use Rattle.std.proofs.Common.{◌≡◌, ◌∙◌, ◌+◌, List, ap, arith, length, refl, subst, sym}
use Rattle.std.specs.Prelude.{◌==◌}
use Rattle.std.specs.Slice.Iter.{iter_rest}
use Rattle.mio.specs.declared.event.event.Event.{Event}
use Rattle.mio.specs.declared.token.Token.{Token}
use Rattle.xa_reactor.specs.Peers.{NoticesAll}
use Rattle.xa_reactor.specs.declared.noticing.TheConstants.{LISTENER}
use Rattle.xa_reactor.proofs.Noticed.{none_left, told_all, told_more}
use Rattle.xa_reactor.proofs.noticing.note_all.Goals as goal

pub loop-event-preserved : goal.loop-event-preserved
loop-event-preserved c =
    let one : length (iter_rest c.loop-event.event-iterator) ≡ length (iter_rest c.next.new.self) + 1 = ap (λ (xs : List Event). length xs) c.in-Some.ensures.steps ∙ omega arith in
    record {
      room = c.note.ensures.room (length (iter_rest c.next.new.self)) (omega (arith, one, c.loop-event.invariant.room));
      same = c.note.ensures.same ∙ c.loop-event.invariant.same;
      noticed = λ final later.
          c.loop-event.invariant.noticed final
          (subst (λ events. NoticesAll c.loop-event.peers events final) (sym c.in-Some.ensures.steps) (c.note.new.self, c.note.ensures.turn, later));
      accepts = told_more LISTENER c.loop-event.accepts c.eq-accepts.result _ c.in-Some.event.now (iter_rest c.loop-event.event-iterator) (iter_rest c.next.new.self)
          c.in-Some.ensures.steps (c.eq-accepts.ensures ∙ ap (λ (t : Token). t.0 == 18446744073709551615) c.token.ensures) c.loop-event.invariant.accepts;
    }

pub returns-clause-noticed : goal.returns-clause-noticed
returns-clause-noticed c =
    c.loop-event.invariant.noticed c.loop-event.peers
    (subst (λ events. NoticesAll c.loop-event.peers events c.loop-event.peers) (sym (none_left _ c.in-None.ensures.steps.0)) refl)

pub returns-clause-same : goal.returns-clause-same
returns-clause-same c = c.loop-event.invariant.same

pub returns-clause-accepts : goal.returns-clause-accepts
returns-clause-accepts c =
    told_all LISTENER c.loop-event.accepts _ (iter_rest c.loop-event.event-iterator) c.in-None.ensures.steps.0 c.loop-event.invariant.accepts
