use Rattle.std.proofs.Common.{arith}
use Rattle.xa_reactor.specs.Believed.Tending.{Table, sessions_of}
use Rattle.xa_reactor.proofs.Asking.{lent_still}
use Rattle.xa_reactor.proofs.Keeping.{kept_none}
use Rattle.xa_reactor.proofs.together.Together.answer_quick.Goals as goal

pub returns-clause-lent : goal.returns-clause-lent
returns-clause-lent g c =
    let table : Table = sessions_of c.give_quick.new.peers.all in
    record {
      quick = c.give_quick.ensures.lent;
      waiting = lent_still (sessions_of c.args.peers.now.all) table c.args.self.now.waiting.items c.give_quick.ensures.same c.requires.waiting;
      left = c.give_quick.ensures.left;
      room = omega (arith, c.give_quick.ensures.turns, c.give_quick.ensures.more, c.give_quick.ensures.room, c.requires.room);
    }

pub returns-then-is_err-clause-kept : goal.returns-then-is_err-clause-kept
returns-then-is_err-clause-kept g c = kept_none c.args.peers.now c.args.self.now.over.items
