use Rattle.std.proofs.Common.{Err, Ok, inl, inr, refl}
use Rattle.std.proofs.lemmas.Result.{err_from_is_err_and}
use Rattle.xa_disk.specs.declared.memory.MemDisk.{MemDisk}
use Rattle.xa_manager.specs.Believed.Opening.{IsBadSetting}
use Rattle.xa_manager.specs.declared.manager.Manager.{Manager}
use Rattle.xa_manager.specs.declared.settings.Settings.{Settings}
use Rattle.xa_play.specs.declared.fault.PlayFault.TheVariants.{Memory}
use Rattle.xa_play.proofs.Ends.{refused_setting, taken_setting}
use Rattle.xa_play.proofs.opening.open_first.Goals as goal

pub returns-in_err-manager-clause-setting : goal.returns-in_err-manager-clause-setting
returns-in_err-manager-clause-setting c =
    let p = err_from_is_err_and c.from_residual.result c.from_residual.ensures.1 in
    rw (p.1, p.2) (refused_setting (Manager MemDisk × Settings) (Manager MemDisk) c.in_err-manager.field-0.0
    (IsBadSetting c.args.settings.name c.args.settings.log_bytes) c.in_err-manager.ensures.setting)

pub returns-in_err-manager-clause-faults : goal.returns-in_err-manager-clause-faults
returns-in_err-manager-clause-faults c =
    let p = err_from_is_err_and c.from_residual.result c.from_residual.ensures.1 in
    rw (p.1, p.2) c.in_err-manager.ensures.faults

pub returns-in_err-kept-clause-setting : goal.returns-in_err-kept-clause-setting
returns-in_err-kept-clause-setting c =
    let p = err_from_is_err_and c.from_residual-in_err-kept.result c.from_residual-in_err-kept.ensures.1 in
    rw (p.1, p.2)
    (taken_setting (Manager MemDisk × Settings) (Manager MemDisk) c.in_ok-manager.manager (Err Memory) (IsBadSetting c.args.settings.name c.args.settings.log_bytes)
    (λ e. cc) c.in_ok-manager.ensures.setting.1)

pub returns-in_err-kept-clause-faults : goal.returns-in_err-kept-clause-faults
returns-in_err-kept-clause-faults c =
    let p = err_from_is_err_and c.from_residual-in_err-kept.result c.from_residual-in_err-kept.ensures.1 in
    rw (p.1, p.2) (inr (inl refl))

pub returns-clause-setting : goal.returns-clause-setting
returns-clause-setting c =
    taken_setting (Manager MemDisk × Settings) (Manager MemDisk) c.in_ok-manager.manager (Ok (c.in_ok-manager.manager, c.in_ok-kept.kept)) (IsBadSetting c.args.settings.name c.args.settings.log_bytes)
    (λ e. cc) c.in_ok-manager.ensures.setting.1
