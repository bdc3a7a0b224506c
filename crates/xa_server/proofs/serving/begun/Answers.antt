use Rattle.std.proofs.lemmas.Result.{err_from_is_err_and}
use Rattle.xa_server.specs.Believed.Served.{NoLoops, place_of}
use Rattle.xa_server.proofs.Failing.{failed_early, history_failed}
use Rattle.xa_server.proofs.serving.begun.Goals as goal

pub returns-in_err-listening-clause-failed : goal.returns-in_err-listening-clause-failed
returns-in_err-listening-clause-failed g c =
    let told = err_from_is_err_and c.from_residual.result c.from_residual.ensures.1 in
    rw (told.1, told.2)
    (failed_early g.R.Disk.Disk g.R.Opens.opened g.R.Opens.refused g.R.Listens c.args.service.now.log_bytes (place_of c.args.service.now)
    (NoLoops c.args.service.now.loops) c.in_err-listening.field-0.0 c.in_err-listening.ensures.failed)

pub returns-in_default-clause-failed : goal.returns-in_default-clause-failed
returns-in_default-clause-failed g c =
    ((c.in_ok-listening.listening, c.in_ok-listening.manager, c.in_ok-listening.ensures.ready), tt)

pub returns-in_err-files-clause-failed : goal.returns-in_err-files-clause-failed
returns-in_err-files-clause-failed g c =
    let told = err_from_is_err_and c.from_residual-in_err-files.result c.from_residual-in_err-files.ensures.1 in
    rw (told.1, told.2)
    (history_failed g.R.Disk.Disk g.R.Opens.opened g.R.Opens.refused g.R.Listens c.args.service.now.log_bytes (place_of c.args.service.now)
    (NoLoops c.args.service.now.loops) c.in_err-files.field-0.0
    (c.in_ok-listening.listening, c.in_ok-listening.manager, c.in_ok-listening.ensures.ready) c.in_err-files.ensures)
