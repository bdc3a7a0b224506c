use Rattle.xa_reactor.proofs.Asking.{are_told, have_requests}
use Rattle.xa_reactor.proofs.together.answer_quick.Goals as goal

pub call_quick-requires : goal.call_quick-requires
call_quick-requires g c = have_requests c.args.asks.now c.requires

pub put_replies-requires : goal.put_replies-requires
put_replies-requires g c = are_told g.D.Door.called c.args.asks.now c.call_quick.new.asks c.args.door.now c.call_quick.new.self c.requires c.call_quick.ensures

pub returns-clause-turned : goal.returns-clause-turned
returns-clause-turned g c = record { told = c.call_quick.new.asks; tells = c.call_quick.ensures; puts = c.put_replies.ensures }
