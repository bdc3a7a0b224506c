use Rattle.std.proofs.Common.{ap, rules, subst, sym, is_some, Err, ◌∙◌}
use Rattle.std.specs.Option.{option_map}
use Rattle.std.proofs.lemmas.Result.{err_from_is_err_and}
use Rattle.xa_server.specs.Believed.Served.{AreUsers, NoLoops, place_of}
use Rattle.xa_server.proofs.Failing.{early_failed, end_failed, loops_failed}
use Rattle.xa_server.proofs.serving.serve.Goals as goal

pub returns-in_err-access-clause-failed : goal.returns-in_err-access-clause-failed
returns-in_err-access-clause-failed g c =
    let told = err_from_is_err_and c.from_residual.result c.from_residual.ensures.1 in
    rw (told.1, told.2)
    (early_failed g.R.Disk.Disk g.R.Opens.opened g.R.Opens.refused g.R.Listens c.args.service.now.log_bytes (place_of c.args.service.now)
    (NoLoops c.args.service.now.loops) c.in_err-access.field-0.0 c.in_err-access.ensures.fault)

pub returns-in_err-listener-clause-failed : goal.returns-in_err-listener-clause-failed
returns-in_err-listener-clause-failed g c =
    let told = err_from_is_err_and c.from_residual-in_err-listener.result c.from_residual-in_err-listener.ensures.1 in
    rw (told.1, told.2)
    c.in_err-listener.ensures.failed

pub returns-in_err-told-clause-failed : goal.returns-in_err-told-clause-failed
returns-in_err-told-clause-failed g c =
    let ready = c.in_ok-listener.ensures.ready in
    let told = err_from_is_err_and c.from_residual-in_err-told.result c.from_residual-in_err-told.ensures.1 in
    rw (told.1, told.2)
    (loops_failed g.R.Disk.Disk g.R.Opens.opened g.R.Opens.refused g.R.Listens c.args.service.now.log_bytes (place_of c.args.service.now)
    c.args.service.now.loops c.loops_of-loops.result c.in_err-told.field-0.0
    (ready.0, c.in_ok-listener.manager, ready.1) c.loops_of-loops.ensures
    c.in_err-told.ensures.fault (λ same. c.in_err-told.ensures.loops.0 (ap Err same)))

pub returns-then-not-told-clause-failed : goal.returns-then-not-told-clause-failed
returns-then-not-told-clause-failed g c =
    let ready = c.in_ok-listener.ensures.ready in
    ((ready.0, c.in_ok-listener.manager, ready.1), tt)

pub returns-clause-served : goal.returns-clause-served
returns-clause-served g c = record {
  listener = c.in_ok-listener.ensures.ready.0;
  manager = c.in_ok-listener.manager;
  ready = c.in_ok-listener.ensures.ready.1;
  users = option_map (λ u. u.now) c.as_ref.result;
  users_are = subst (AreUsers (is_some c.args.service.now.users)) (sym c.as_ref.ensures.value) c.in_ok-access.ensures.users;
  loops = c.loops_of-loops.result;
  loops_are = c.loops_of-loops.ensures;
  told = c.in_ok-told.told;
  audited = c.in_ok-told.audited;
  audits = c.in_ok-told.ensures.audits;
  serves = c.in_ok-told.ensures.served;
  whole = search rules;
  settings = c.in_ok-told.ensures.settings ∙ c.settings_of.ensures;
  well = search rules;
}

pub returns-in_err-tell_end-clause-failed : goal.returns-in_err-tell_end-clause-failed
returns-in_err-tell_end-clause-failed g c =
    let ready = c.in_ok-listener.ensures.ready in
    let told = err_from_is_err_and c.from_residual-in_err-tell_end.result c.from_residual-in_err-tell_end.ensures.1 in
    rw (told.1, told.2)
    (end_failed g.R.Disk.Disk g.R.Opens.opened g.R.Opens.refused g.R.Listens c.args.service.now.log_bytes (place_of c.args.service.now)
    (NoLoops c.args.service.now.loops) c.in_err-tell_end.field-0.0
    (ready.0, c.in_ok-listener.manager, ready.1) c.in_err-tell_end.ensures)
