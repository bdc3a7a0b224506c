use Rattle.std.proofs.Common.{◌<◌, length, arith}
use Rattle.xa_server.proofs.Rounds.{takes_one}
use Rattle.xa_server.proofs.post.Post.take_letter.Goals as goal

pub returns-then-place-asks : goal.returns-then-place-asks
returns-then-place-asks g c =
    let lt : c.place-place.result < length c.args.asks.now = omega arith in
    takes_one g.M.Manages.manages g.S.Start.start g.S.Start.base c.args.asks.now c.args.self.now.handle.asker c.take_letter_to.new.self.handle.asker
    c.place-place.result _ c.take_letter_to.new.ask lt c.take_letter_to.ensures.told c.take_letter_to.ensures.asked
