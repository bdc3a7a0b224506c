use Rattle.std.proofs.Common.{subst}
use Rattle.std.proofs.lemmas.Result.{err_from_is_err_and}
use Rattle.xa_server.specs.Believed.Served.{HasOpened, Refuses, never, where_of}
use Rattle.xa_server.proofs.Damaged.{refuses_before}
use Rattle.xa_server.proofs.Failing.{failed_on_files}
use Rattle.xa_server.proofs.Opening.{opened_before}
use Rattle.xa_server.proofs.ready.make_ready.Goals as goal

-- the manager was opened under the settings' name and size, which are those that were asked for
pub returns-clause-ready : goal.returns-clause-ready
returns-clause-ready g c =
    let settings = c.in_ok-settings.settings in
    let manager = c.in_ok-manager.manager in
    let first = c.in_ok-first.first in
    let second = c.in_ok-first.second in
    record {
      first = first;
      second = second;
      files = record { files = c.in_ok-first.ensures.opened; fit = c.in_ok-none_unfit.ensures.fit };
      listening = c.in-Ok.ensures.listens;
      has_opened =
          opened_before g.R.Disk.Disk first c.none_unfit.new.first second c.none_unfit.new.second c.args.name.now c.args.log_bytes manager
          c.none_unfit.ensures.same c.none_unfit.ensures.same_second
          (subst (λ name. HasOpened g.R.Disk.Disk c.none_unfit.new.first c.none_unfit.new.second name c.args.log_bytes manager) c.in_ok-settings.ensures.name
          (subst (λ log_bytes. HasOpened g.R.Disk.Disk c.none_unfit.new.first c.none_unfit.new.second settings.name log_bytes manager)
          c.in_ok-settings.ensures.log_bytes c.in_ok-manager.ensures.opened));
    }

pub returns-in_err-none_unfit-clause-failed : goal.returns-in_err-none_unfit-clause-failed
returns-in_err-none_unfit-clause-failed g c =
    let told =
    err_from_is_err_and c.from_residual-in_err-none_unfit.result
    c.from_residual-in_err-none_unfit.ensures.1 in
    rw (told.1, told.2)
    (failed_on_files g.R.Disk.Disk g.R.Opens.opened g.R.Opens.refused g.R.Listens c.args.log_bytes (record { path = c.args.path.now; name = c.args.name.now; at = where_of c.args.at }) never
    c.in_ok-first.first c.in_ok-first.second c.in_err-none_unfit.field-0.0
    c.in_ok-first.ensures.opened (c.in_err-none_unfit.ensures.failed c.args.name.now))

pub returns-in_err-manager-clause-failed : goal.returns-in_err-manager-clause-failed
returns-in_err-manager-clause-failed g c =
    let told = err_from_is_err_and c.from_residual-in_err-manager.result c.from_residual-in_err-manager.ensures.1 in
    let settings = c.in_ok-settings.settings in
    let first = c.in_ok-first.first in
    let second = c.in_ok-first.second in
    let why = c.in_err-manager.field-0.0 in
    rw (told.1, told.2)
    (failed_on_files g.R.Disk.Disk g.R.Opens.opened g.R.Opens.refused g.R.Listens c.args.log_bytes (record { path = c.args.path.now; name = c.args.name.now; at = where_of c.args.at }) never
    first second why c.in_ok-first.ensures.opened
    (refuses_before g.R.Disk.Disk c.args.path.now c.args.name.now c.args.log_bytes first c.none_unfit.new.first second c.none_unfit.new.second why
    c.none_unfit.ensures.same c.none_unfit.ensures.same_second
    (subst (λ name. Refuses g.R.Disk.Disk c.args.path.now name c.args.log_bytes c.none_unfit.new.first c.none_unfit.new.second why) c.in_ok-settings.ensures.name
    (subst (λ log_bytes. Refuses g.R.Disk.Disk c.args.path.now settings.name log_bytes c.none_unfit.new.first c.none_unfit.new.second why)
    c.in_ok-settings.ensures.log_bytes c.in_err-manager.ensures.failed))))
