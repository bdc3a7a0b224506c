use Rattle.std.proofs.Common.{◌≡◌, ◌∙◌, List, sym, subst, arith}
use Rattle.std.proofs.lemmas.Iterator.Adapters.{YieldsList-from_vec}
use Rattle.std.proofs.lemmas.Iterator.Consumers.{YieldsList-end}
use Rattle.std.proofs.lemmas.List.{map-id}
use Rattle.xa_model.specs.declared.event.Event.{Event}
use Rattle.xa_model.specs.Events.{AreEvents}
use Rattle.xa_manager.specs.Believed.Answered.{AnswersAll, RunsAll}
use Rattle.xa_manager.specs.Believed.Counted.{CountsAll}
use Rattle.xa_manager.proofs.Counting.{counts_more}
use Rattle.xa_manager.proofs.Driving.{answers_more, pinned_each, pinned_more, runs_more}
use Rattle.xa_manager.proofs.Promised.{promises_all}
use Rattle.xa_manager.proofs.manager.Manager.drive.Given.{Over}
use Rattle.xa_manager.proofs.manager.Manager.drive.Goals.{After-drop-event-iterator}
use Rattle.xa_manager.proofs.manager.Manager.drive.Goals as goal

pub push_reserved-requires : goal.push_reserved-requires
push_reserved-requires g c = grind (arith, c.loop-event.invariant.room, c.in-Some.ensures.steps.1)

pub happen-reply-requires : goal.happen-reply-requires
happen-reply-requires g c = (subst AreEvents c.in-Some.ensures.steps.0 c.loop-event.invariant.spelled).0

pub loop-event-preserved : goal.loop-event-preserved
loop-event-preserved g c =
    let m = c.args.self.now in
    let mid = c.loop-event.self in
    let m' = c.happen-reply.new.self in
    let es = c.loop-event.yielded in
    let rs = c.loop-event.replies.items in
    let e = c.in-Some.event in
    let r = c.happen-reply.result in
    let h = c.loop-event.invariant in
    let pinned = pinned_each es rs h.pinned in record {
      answered = rw c.push_reserved.ensures.items (answers_more g.D.Disk m mid m' es rs e r pinned h.answered c.happen-reply.ensures.answered);
      each = rw c.push_reserved.ensures.items (runs_more g.D.Disk m mid m' es rs e r h.each c.happen-reply.ensures);
      counted = rw c.push_reserved.ensures.items (counts_more g.D.Disk m mid m' es rs e r pinned h.counted c.happen-reply.ensures);
      pinned = rw c.push_reserved.ensures.items (pinned_more es rs e r h.pinned c.happen-reply.ensures.pinned);
      room = grind (arith, h.room, c.in-Some.ensures.steps.1, c.push_reserved.ensures.len, c.push_reserved.ensures.capacity);
      spelled = (subst AreEvents c.in-Some.ensures.steps.0 h.spelled).1;
    }

-- all events were looked at
all_yielded : (g : Over) (c : After-drop-event-iterator g) → c.loop-event.yielded ≡ c.args.events.items
all_yielded g c =
    sym (map-id c.loop-event.yielded)
    ∙ (YieldsList-end (YieldsList-from_vec c.args.events.items (cc) (cc)) c.loop-event.yielded c.loop-event.event-iterator c.loop-event.yielded_by c.next.result c.next.new.self c.in-None.is c.next.ensures.steps).0

pub returns-clause-history : goal.returns-clause-history
returns-clause-history g c = subst (λ (events : List Event). AnswersAll g.D.Disk c.args.self.now events c.loop-event.replies.items c.loop-event.self) (all_yielded g c) c.loop-event.invariant.answered

pub returns-clause-counted : goal.returns-clause-counted
returns-clause-counted g c = subst (λ (events : List Event). CountsAll g.D.Disk c.args.self.now events c.loop-event.replies.items c.loop-event.self) (all_yielded g c) c.loop-event.invariant.counted

pub returns-clause-promises : goal.returns-clause-promises
returns-clause-promises g c =
    promises_all g.D.Disk c.args.self.now c.loop-event.self c.args.events.items
    c.loop-event.replies.items c.requires (returns-clause-history g c)

pub returns-clause-each : goal.returns-clause-each
returns-clause-each g c = subst (λ (events : List Event). RunsAll g.D.Disk c.args.self.now events c.loop-event.replies.items c.loop-event.self) (all_yielded g c) c.loop-event.invariant.each
