use Rattle.xa_server.proofs.Rounds.{takes_twice}
use Rattle.xa_server.proofs.post.Post.take_turn.Goals as goal

pub returns-then-has_turn-clause-back : goal.returns-then-has_turn-clause-back
returns-then-has_turn-clause-back g c =
    takes_twice g.M.Manages.manages g.S.Start.start g.S.Start.base c.args.asks.now c.take_letters.new.asks c.take_letters-lock.new.asks _ _ _
    c.take_letters.ensures.back c.take_letters-lock.ensures.back
