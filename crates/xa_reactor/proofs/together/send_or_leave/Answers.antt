use Rattle.std.proofs.Common.{◌≡◌, ◌∙◌, true, true≢false, not, ap, arith, refl, sym}
use Rattle.std.specs.Option.{is_some}
use Rattle.xa_reactor.specs.Believed.Tending.{Table, sessions_of}
use Rattle.xa_reactor.proofs.Asking.{lent_left, lent_more, lent_still}
use Rattle.xa_reactor.proofs.Keeping.{kept_none, kept_one, kept_still, kept_twice}
use Rattle.xa_reactor.proofs.together.send_or_leave.Goals as goal

pub returns-then-is_none-clause-lent : goal.returns-then-is_none-clause-lent
returns-then-is_none-clause-lent g c =
    lent_still (sessions_of c.args.peers.now.all) (sessions_of c.go_on_or_keep.new.peers.all) c.args.left.now.items
    (ap sessions_of c.go_on_or_keep.ensures.same ∙ c.close_turn-step.ensures.same) c.requires.left

pub returns-then-is_none-clause-same : goal.returns-then-is_none-clause-same
returns-then-is_none-clause-same g c = ap sessions_of c.go_on_or_keep.ensures.same ∙ c.close_turn-step.ensures.same

pub returns-then-is_none-clause-kept : goal.returns-then-is_none-clause-kept
returns-then-is_none-clause-kept g c =
    let closed = c.close_turn-step.new.self in
    let went = c.go_on_or_keep.new.peers in
    kept_twice c.args.peers.now closed went c.args.over.now.items c.args.over.now.items c.go_on_or_keep.new.over.items
    (kept_still c.args.peers.now closed c.args.over.now.items c.close_turn-step.ensures.turns.0)
    (kept_one closed went c.args.over.now.items c.go_on_or_keep.new.over.items c.args.ask.key c.close_turn-step.result
    (omega (arith, c.go_on_or_keep.ensures.turns)) c.go_on_or_keep.ensures.kept)

pub returns-else-is_none-clause-kept : goal.returns-else-is_none-clause-kept
returns-else-is_none-clause-kept g c = kept_none c.args.peers.now c.args.over.now.items

pub returns-else-is_none-clause-lent : goal.returns-else-is_none-clause-lent
returns-else-is_none-clause-lent g c =
    let table : Table = sessions_of c.args.peers.now.all in
    let is : is_some c.args.ask.request ≡ true = c.is_none.ensures ∙ ap not c.if-is_none.false in
    lent_more table table c.args.left.now.items _ c.args.ask refl c.push_reserved.ensures.items c.requires.left
    (lent_left table c.args.ask (λ none. true≢false (sym is ∙ ap is_some none)) c.requires.ask)
