use Rattle.std.proofs.Common.{subst}
use Rattle.xa_connection.specs.declared.asked.Asked.{Asked}
use Rattle.xa_connection.specs.Calls.{Asks}
use Rattle.xa_connection.proofs.Turning.{turns-called, turns-refused}
use Rattle.xa_connection.proofs.connection.Connection.answer_asked.Goals as goal

pub returns-in-One : goal.returns-in-One
returns-in-One g c =
    turns-called c.args._standing (g.D.Door.called c.args.session) _ _ _ _ c.reply.result c.in-One.count c.in-One.question c.put_to-reply.result
    (subst (λ (asked : Asked). Asks c.args._standing c.args.self.now asked) c.in-One.is c.requires.asks) c.put_to-reply.ensures.put c.reply.ensures

pub returns-in-Refused : goal.returns-in-Refused
returns-in-Refused g c =
    turns-refused c.args._standing (g.D.Door.called c.args.session) _ _ _ c.reply-in-Refused.result c.in-Refused.front c.in-Refused.reply
    (subst (λ (asked : Asked). Asks c.args._standing c.args.self.now asked) c.in-Refused.is c.requires.asks) c.reply-in-Refused.ensures
