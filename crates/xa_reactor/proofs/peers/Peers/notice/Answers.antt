use Rattle.std.proofs.Common.{◌≡◌, Bool, ap, subst}
use Rattle.mio.specs.declared.token.Token.{Token}
use Rattle.slab.specs.Slab.{Slab, get, with_value}
use Rattle.xa_reactor.specs.Believed.Tending.{sessions_of}
use Rattle.xa_reactor.specs.Peers.{HasTurn, IsNews, key_of, noticed, with_noticed}
use Rattle.xa_reactor.specs.declared.peer.Peer.{Peer}
use Rattle.xa_reactor.proofs.Doing.{same_table}
use Rattle.xa_reactor.proofs.Noticed.{puts, stays_out}
use Rattle.xa_reactor.proofs.ForAll.{all_none, all_twice}
use Rattle.xa_reactor.proofs.peers.Peers.notice.Goals as goal

pub returns-then-notice_in-clause-tends : goal.returns-then-notice_in-clause-tends
returns-then-notice_in-clause-tends g c =
    let before = sessions_of c.args.self.now.all in
    let noticed = sessions_of c.notice_in.new.all in
    all_twice g.D.Reception.connected g.D.Door.called g.D.Door.left before noticed (sessions_of c.go_on.new.self.all)
    c.args.door.now c.args.door.now c.go_on.new.door
    (all_none g.D.Reception.connected g.D.Door.called g.D.Door.left before noticed c.args.door.now (same_table before noticed c.notice_in.ensures.same))
    c.go_on.ensures.tends

pub returns-then-notice_in-clause-turn : goal.returns-then-notice_in-clause-turn
returns-then-notice_in-clause-turn g c =
    let old = c.args.self.now in
    let event = c.args.event.now in
    let all = c.notice_in.new.all in
    let new = c.go_on.new.self in
    puts (new ≡ old) (λ p. new ≡ with_noticed old event p) (λ p. HasTurn (with_noticed old event p) (key_of event) new)
    (λ p. all ≡ with_value old.all (key_of event) (noticed event p)) (all ≡ old.all) (get old.all (key_of event))
    (subst (λ (puts : Bool). IsNews old.all event puts all) c.if-notice_in.true c.notice_in.ensures.news)
    (λ p is.
    subst (λ (a : Slab Peer). HasTurn (record old { all = a }) (key_of event) new) is
    (subst (λ (t : Token). HasTurn (record old { all = all }) t.0 new) c.token.ensures c.go_on.ensures.goes))

pub returns-else-notice_in-clause-turn : goal.returns-else-notice_in-clause-turn
returns-else-notice_in-clause-turn g c =
    let old = c.args.self.now in
    let event = c.args.event.now in
    let all = c.notice_in.new.all in
    let new = record old { all = all } in
    stays_out (new ≡ old) (λ p. new ≡ with_noticed old event p) (λ p. HasTurn (with_noticed old event p) (key_of event) new)
    (λ p. all ≡ with_value old.all (key_of event) (noticed event p)) (all ≡ old.all) (get old.all (key_of event))
    (subst (λ (puts : Bool). IsNews old.all event puts all) c.if-notice_in.false c.notice_in.ensures.news)
    (λ is. ap (λ (a : Slab Peer). record old { all = a }) is) (λ p is. ap (λ (a : Slab Peer). record old { all = a }) is)
