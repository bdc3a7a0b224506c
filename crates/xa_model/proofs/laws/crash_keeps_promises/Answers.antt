use Rattle.xa_model.proofs.CrashLists.{keeps_prepared, keeps_completed, since_boot, boot_lists}
use Rattle.xa_model.proofs.laws.crash_keeps_promises.Goals as goal

pub returns-clause-prepared : goal.returns-clause-prepared
returns-clause-prepared c = keeps_prepared

pub returns-clause-completed : goal.returns-clause-completed
returns-clause-completed c = keeps_completed

pub returns-clause-boot : goal.returns-clause-boot
returns-clause-boot c = since_boot

pub returns-clause-opened : goal.returns-clause-opened
returns-clause-opened c = boot_lists
