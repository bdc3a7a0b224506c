use Rattle.xa_reactor.proofs.Asking.{are_told, have_requests, put_answered}
use Rattle.xa_reactor.proofs.together.answer_all.Goals as goal

pub call_all-requires : goal.call_all-requires
call_all-requires g c = have_requests c.args.asks.now c.requires

pub put_replies-requires : goal.put_replies-requires
put_replies-requires g c = are_told g.D.Door.called c.args.asks.now c.call_all.new.asks c.args.door.now c.call_all.new.self c.requires c.call_all.ensures.told.some

pub returns-clause-turned : goal.returns-clause-turned
returns-clause-turned g c = record { told = c.call_all.new.asks; tells = c.call_all.ensures.told; puts = c.put_replies.ensures }

pub returns-clause-answered : goal.returns-clause-answered
returns-clause-answered g c = put_answered c.call_all.new.asks c.put_replies.new.asks c.put_replies.ensures c.call_all.ensures.told.none
