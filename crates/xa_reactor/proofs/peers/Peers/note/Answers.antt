use Rattle.std.proofs.Common.{◌≡◌, ◌∙◌, ◌++◌, Bool, [], ◌∷◌, ap, inl, refl, subst, sym}
use Rattle.std.specs.VecDeque.{deque_items}
use Rattle.mio.specs.declared.token.Token.{Token}
use Rattle.slab.specs.Slab.{Slab, get, with_value}
use Rattle.xa_reactor.specs.Believed.Tending.{sessions_of}
use Rattle.xa_reactor.specs.Peers.{HasTurn, IsNews, key_of, noticed, with_noticed}
use Rattle.xa_reactor.specs.declared.peer.Peer.{Peer}
use Rattle.xa_reactor.proofs.Doing.{same_table}
use Rattle.xa_reactor.proofs.Noticed.{puts, stays_out}
use Rattle.xa_reactor.proofs.peers.Peers.note.Goals as goal

pub returns-then-notice_in-clause-same : goal.returns-then-notice_in-clause-same
returns-then-notice_in-clause-same c = sym (same_table (sessions_of c.args.self.now.all) (sessions_of c.notice_in.new.all) c.notice_in.ensures.same)

pub returns-else-notice_in-clause-same : goal.returns-else-notice_in-clause-same
returns-else-notice_in-clause-same c = sym (same_table (sessions_of c.args.self.now.all) (sessions_of c.notice_in.new.all) c.notice_in.ensures.same)

pub returns-then-notice_in-clause-turn : goal.returns-then-notice_in-clause-turn
returns-then-notice_in-clause-turn c =
    let old = c.args.self.now in
    let event = c.args.event.now in
    let all = c.notice_in.new.all in
    let new = record old { all = all; queue = c.push_back_reserved.new.self } in
    puts (new ≡ old) (λ p. new ≡ with_noticed old event p) (λ p. HasTurn (with_noticed old event p) (key_of event) new)
    (λ p. all ≡ with_value old.all (key_of event) (noticed event p)) (all ≡ old.all) (get old.all (key_of event))
    (subst (λ (puts : Bool). IsNews old.all event puts all) c.if-notice_in.true c.notice_in.ensures.news)
    (λ p is. inl (record {
      all = is;
      turns = c.push_back_reserved.ensures.items ∙ ap (λ (t : Token). deque_items old.queue ++ t.0 ∷ []) c.token.ensures;
      orders = refl;
    }))

pub returns-else-notice_in-clause-turn : goal.returns-else-notice_in-clause-turn
returns-else-notice_in-clause-turn c =
    let old = c.args.self.now in
    let event = c.args.event.now in
    let all = c.notice_in.new.all in
    let new = record old { all = all } in
    stays_out (new ≡ old) (λ p. new ≡ with_noticed old event p) (λ p. HasTurn (with_noticed old event p) (key_of event) new)
    (λ p. all ≡ with_value old.all (key_of event) (noticed event p)) (all ≡ old.all) (get old.all (key_of event))
    (subst (λ (puts : Bool). IsNews old.all event puts all) c.if-notice_in.false c.notice_in.ensures.news)
    (λ is. ap (λ (a : Slab Peer). record old { all = a }) is) (λ p is. ap (λ (a : Slab Peer). record old { all = a }) is)
