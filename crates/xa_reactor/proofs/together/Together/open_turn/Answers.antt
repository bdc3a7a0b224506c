use Rattle.std.proofs.Common.{◌≡◌, ◌∙◌, ◌⊎◌, ℕ, ap, arith, subst, sym}
use Rattle.std.specs.Prelude.{IsSomeAnd}
use Rattle.xa_reactor.specs.Asking.{IsLent}
use Rattle.xa_reactor.specs.Believed.Tending.{Table, sessions_of}
use Rattle.xa_reactor.specs.declared.ask.Ask.{Ask}
use Rattle.xa_reactor.proofs.Asking.{lent_more, lent_still, may_of}
use Rattle.xa_reactor.specs.ForAll.{TendsForAll}
use Rattle.xa_reactor.proofs.ForAll.{all_posting_posted, all_posting_tended}
use Rattle.xa_reactor.proofs.together.Together.open_turn.Goals as goal

-- an ask that was lent in the turn is lent in the table after it, which holds the sessions that there were
lent_one : (old turned new : Table) (ask : Ask) → new ≡ turned → turned ≡ old → IsLent turned ask → (new ≡ old) × IsLent new ask
lent_one old turned new ask same is one = (same ∙ is, subst (λ (t : Table). IsLent t ask) (sym same) one)

pub returns-then-may_wait-clause-tends : goal.returns-then-may_wait-clause-tends
returns-then-may_wait-clause-tends g c =
    let ask = c.in-Asks.ask in
    let opened = c.in-Asks.ensures.opens in
    let next = ap sessions_of c.next.ensures.same in
    all_posting_posted g.D.Reception.connected g.D.Door.called g.D.Door.left g.D.Reception.posts (sessions_of c.args.peers.now.all) (sessions_of c.open_turn.new.self.all)
    c.args.door.now c.post.new.self ask.key opened.0.seat ask.request
    (ap (λ (t : Table). t ask.key) (sym next) ∙ opened.0.at)
    (may_of opened.0.seat.standing ask.connection ask.front ask.request opened.0.opened.1)
    (subst (λ (n : ℕ). (c.post.new.self ≡ c.args.door.now) ⊎ IsSomeAnd ask.request (λ request. g.D.Reception.posts n request c.args.door.now c.post.new.self))
    (sym opened.0.session)
    (subst (λ d. (c.post.new.self ≡ d) ⊎ IsSomeAnd ask.request (λ request. g.D.Reception.posts ask.session request d c.post.new.self))
    opened.1 c.post.ensures))
    (sym (c.open_turn.ensures.same ∙ next))

pub returns-then-may_wait-clause-lent : goal.returns-then-may_wait-clause-lent
returns-then-may_wait-clause-lent g c =
    let lent = lent_one _ _ _ c.in-Asks.ask c.open_turn.ensures.same (ap sessions_of c.next.ensures.same) c.in-Asks.ensures.opens.0 in
    record {
      quick = lent_still _ _ _ lent.0 c.requires.quick;
      waiting = lent_more _ _ _ _ c.in-Asks.ask lent.0 c.push_reserved.ensures.items c.requires.waiting lent.1;
      left = c.requires.left;
      room = omega arith;
    }

pub returns-else-may_wait-clause-lent : goal.returns-else-may_wait-clause-lent
returns-else-may_wait-clause-lent g c =
    let lent = lent_one _ _ _ c.in-Asks.ask c.open_turn.ensures.same (ap sessions_of c.next.ensures.same) c.in-Asks.ensures.opens.0 in
    record {
      quick = lent_more _ _ _ _ c.in-Asks.ask lent.0 c.push_reserved-else-may_wait.ensures.items c.requires.quick lent.1;
      waiting = lent_still _ _ _ lent.0 c.requires.waiting;
      left = c.requires.left;
      room = omega arith;
    }

pub returns-in-Over-clause-tends : goal.returns-in-Over-clause-tends
returns-in-Over-clause-tends g c =
    let before : Table = sessions_of c.args.peers.now.all in
    let after : Table = sessions_of c.go_on_or_keep.new.peers.all in
    let next = ap sessions_of c.next.ensures.same in
    all_posting_tended g.D.Reception.connected g.D.Door.called g.D.Door.left g.D.Reception.posts before after c.args.door.now c.open_turn.new.door
    (subst (λ (t : Table). TendsForAll g.D.Reception.connected g.D.Door.called g.D.Door.left before c.args.door.now t c.open_turn.new.door)
    (sym (ap sessions_of c.go_on_or_keep.ensures.same ∙ c.open_turn.ensures.same ∙ next))
    (subst (λ (t : Table). TendsForAll g.D.Reception.connected g.D.Door.called g.D.Door.left t c.args.door.now t c.open_turn.new.door) next c.in-Over.ensures.opens))

pub returns-in-Over-clause-lent : goal.returns-in-Over-clause-lent
returns-in-Over-clause-lent g c =
    let same = ap sessions_of c.go_on_or_keep.ensures.same ∙ c.open_turn.ensures.same ∙ ap sessions_of c.next.ensures.same in
    record {
      quick = lent_still _ _ _ same c.requires.quick;
      waiting = lent_still _ _ _ same c.requires.waiting;
      left = c.requires.left;
      room = omega (arith, c.go_on_or_keep.ensures.turns, c.go_on_or_keep.ensures.more.1, c.go_on_or_keep.ensures.room);
    }
