use Rattle.std.proofs.Common.{List, subst, sym}
use Rattle.std.specs.Prelude.{All}
use Rattle.xa_reactor.specs.declared.ask.Ask.{Ask}
use Rattle.xa_reactor.specs.Asking.{IsLent}
use Rattle.xa_reactor.specs.Believed.Tending.{Table, sessions_of}
use Rattle.xa_reactor.proofs.Asking.{are_open}
use Rattle.xa_reactor.specs.ForAll.{TendsForAll}
use Rattle.xa_reactor.proofs.ForAll.{all_turned}
use Rattle.xa_reactor.proofs.together.give_waiting.Goals as goal

pub returns-clause-tends : goal.returns-clause-tends
returns-clause-tends g c =
    let table : Table = sessions_of c.args.peers.now.all in
    let lent : All (IsLent table) c.deref_mut.result.now = subst (λ (xs : List Ask). All (IsLent table) xs) (sym c.deref_mut.ensures.value) c.requires.lent in
    subst (λ (t : Table). TendsForAll g.D.Reception.connected g.D.Door.called g.D.Door.left table c.args.door.now t c.answer_all.new.door) (sym c.send_all.ensures.same)
    (all_turned g.D.Reception.connected g.D.Door.called g.D.Door.left table c.deref_mut.result.now c.answer_all.ensures.turned.told c.args.door.now c.answer_all.new.door
    lent c.answer_all.ensures.turned.tells.some)

pub answer_all-requires : goal.answer_all-requires
answer_all-requires g c =
    let table : Table = sessions_of c.args.peers.now.all in
    let lent : All (IsLent table) c.deref_mut.result.now = subst (λ (xs : List Ask). All (IsLent table) xs) (sym c.deref_mut.ensures.value) c.requires.lent in
    are_open table c.deref_mut.result.now lent
