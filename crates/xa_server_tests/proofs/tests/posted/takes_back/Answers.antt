use Rattle.xa_handles.specs.Owing.{owes_some}
use Rattle.xa_server_tests.proofs.tests.posted.takes_back.Goals as goal

pub call_back-reply-requires-clause-owes : goal.call_back-reply-requires-clause-owes
call_back-reply-requires-clause-owes g c = owes_some c.args.handle.now.asker c.owed.result c.owed.ensures c.if-owed-eq0.false
