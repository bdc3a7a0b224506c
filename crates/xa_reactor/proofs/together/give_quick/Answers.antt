use Rattle.std.proofs.Common.{List, length, subst, sym}
use Rattle.std.specs.Prelude.{All}
use Rattle.std.proofs.lemmas.List.Elements.{All-append, All-drop, All-take}
use Rattle.xa_reactor.specs.declared.ask.Ask.{Ask}
use Rattle.xa_reactor.specs.Asking.{IsLeft, IsLent}
use Rattle.xa_reactor.specs.Believed.Tending.{Table, sessions_of}
use Rattle.xa_reactor.proofs.Asking.{are_left, are_open, left_turned}
use Rattle.xa_reactor.specs.ForAll.{TendsForAll}
use Rattle.xa_reactor.proofs.ForAll.{all_turned}
use Rattle.xa_reactor.proofs.together.give_quick.Goals as goal

pub returns-clause-tends : goal.returns-clause-tends
returns-clause-tends g c =
    let table : Table = sessions_of c.args.peers.now.all in
    let lent : All (IsLent table) c.deref_mut.result.now = subst (λ (xs : List Ask). All (IsLent table) xs) (sym c.deref_mut.ensures.value) c.requires.lent in
    subst (λ (t : Table). TendsForAll g.D.Reception.connected g.D.Door.called g.D.Door.left table c.args.door.now t c.answer_quick.new.door) (sym c.send_answered.ensures.same)
    (all_turned g.D.Reception.connected g.D.Door.called g.D.Door.left table c.deref_mut.result.now c.answer_quick.ensures.turned.told c.args.door.now c.answer_quick.new.door
    lent c.answer_quick.ensures.turned.tells)

pub send_answered-requires-clause-asks : goal.send_answered-requires-clause-asks
send_answered-requires-clause-asks g c =
    let table : Table = sessions_of c.args.peers.now.all in
    let lent : All (IsLent table) c.deref_mut.result.now = subst (λ (xs : List Ask). All (IsLent table) xs) (sym c.deref_mut.ensures.value) c.requires.lent in
    let are : All (IsLeft table) c.answer_quick.new.asks = left_turned g.D.Door.called table c.deref_mut.result.now c.answer_quick.new.asks c.args.door.now c.answer_quick.new.door lent c.answer_quick.ensures.turned in
    All-take (IsLeft table) c.args.asks.now.len _
    (All-append (IsLeft table) c.answer_quick.new.asks _ are
    (All-drop (IsLeft table) (length c.answer_quick.new.asks) c.args.asks.now.items (are_left table c.args.asks.now.items c.requires.lent)))

pub answer_quick-requires : goal.answer_quick-requires
answer_quick-requires g c =
    let table : Table = sessions_of c.args.peers.now.all in
    let lent : All (IsLent table) c.deref_mut.result.now = subst (λ (xs : List Ask). All (IsLent table) xs) (sym c.deref_mut.ensures.value) c.requires.lent in
    are_open table c.deref_mut.result.now lent
