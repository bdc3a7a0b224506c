use Rattle.xa_handles.specs.Owing.{owes_some}
use Rattle.xa_server_tests.proofs.tests.posted.takes.Goals as goal

pub take_answer-reply-requires : goal.take_answer-reply-requires
take_answer-reply-requires g c = owes_some c.args.handle.now.asker c.owed.result c.owed.ensures c.if-owed-eq0.false
