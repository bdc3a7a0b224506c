use Rattle.std.proofs.Common.{◌∙◌, refl}
use Rattle.xa_server.specs.Believed.Loops.{Called}
use Rattle.xa_server.specs.Believed.Watching.{seen_of}
use Rattle.xa_server.proofs.Letters.{OwesSome, owes_called}
use Rattle.xa_server.proofs.Rounds.{have_requests, left_within, lifted, none_still, tells_twice}
use Rattle.xa_server.proofs.door.PostReception.call_all.Goals as goal

pub answer_left-requires : goal.answer_left-requires
answer_left-requires g c =
    left_within (Called g.M.Manages.manages g.S.Start.start g.S.Start.base) c.args.asks.now c.take_back.new.asks _ _ c.take_back.ensures.back.some
    (have_requests c.args.asks.now c.requires)

pub returns-clause-told : goal.returns-clause-told
returns-clause-told g c =
    let called = Called g.M.Manages.manages g.S.Start.start g.S.Start.base in
    let x = c.args.self.now in
    let back = c.take_back.ensures.back.some in
    lifted (λ p. p.handle.asker) OwesSome
    (λ s k. record x { handle = record x.handle { asker = s; owed = k.0; owes = k.1 }; seen = seen_of s.told; kept = refl }) (λ s k. refl) called
    (λ session a q reply b owes h. owes_called g.M.Manages.manages g.S.Start.start g.S.Start.base session a q reply b owes h)
    c.args.asks.now c.answer_left.new.asks x c.answer_left.new.self (x.handle.owed, x.handle.owes)
    (λ none. c.answer_left.ensures.same (none_still called c.args.asks.now c.take_back.new.asks _ _ none back) ∙ c.take_back.ensures.same none)
    c.requires c.answer_left.ensures.none
    (tells_twice called c.args.asks.now c.take_back.new.asks c.answer_left.new.asks _ _ _ back c.answer_left.ensures.some)
