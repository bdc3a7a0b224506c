use Rattle.std.proofs.Common.{◌∙◌, ap, refl, subst, sym}
use Rattle.std.specs.Prelude.{◌==◌}
use Rattle.std.specs.Slice.Iter.{iter_rest}
use Rattle.mio.specs.declared.token.Token.{Token}
use Rattle.xa_reactor.specs.Believed.Tending.{sessions_of}
use Rattle.xa_reactor.specs.Peers.{NoticesAll}
use Rattle.xa_reactor.specs.declared.noticing.TheConstants.{LISTENER}
use Rattle.xa_reactor.proofs.Noticed.{none_left, told_all, told_more}
use Rattle.xa_reactor.proofs.ForAll.{all_twice}
use Rattle.xa_reactor.proofs.noticing.notice_all.Goals as goal

pub loop-event-preserved : goal.loop-event-preserved
loop-event-preserved g c = record {
  tends = all_twice g.D.Reception.connected g.D.Door.called g.D.Door.left (sessions_of c.args.peers.now.all) (sessions_of c.loop-event.peers.all) (sessions_of c.notice.new.self.all)
      c.args.door.now c.loop-event.door c.notice.new.door c.loop-event.invariant.tends c.notice.ensures.tends;
  noticed = λ final later.
      c.loop-event.invariant.noticed final
      (subst (λ events. NoticesAll c.loop-event.peers events final) (sym c.in-Some.ensures.steps) (c.notice.new.self, c.notice.ensures.turn, later));
  accepts = told_more LISTENER c.loop-event.accepts c.eq-accepts.result _ c.in-Some.event.now (iter_rest c.loop-event.event-iterator) (iter_rest c.next.new.self)
      c.in-Some.ensures.steps (c.eq-accepts.ensures ∙ ap (λ (t : Token). t.0 == 18446744073709551615) c.token.ensures) c.loop-event.invariant.accepts;
}

pub returns-clause-noticed : goal.returns-clause-noticed
returns-clause-noticed g c =
    c.loop-event.invariant.noticed c.loop-event.peers
    (subst (λ events. NoticesAll c.loop-event.peers events c.loop-event.peers) (sym (none_left _ c.in-None.ensures.steps.0)) refl)

pub returns-clause-tends : goal.returns-clause-tends
returns-clause-tends g c = c.loop-event.invariant.tends

pub returns-clause-accepts : goal.returns-clause-accepts
returns-clause-accepts g c =
    told_all LISTENER c.loop-event.accepts _ (iter_rest c.loop-event.event-iterator) c.in-None.ensures.steps.0 c.loop-event.invariant.accepts
