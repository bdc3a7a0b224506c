use Rattle.xa_manager.proofs.Refusing.{none_missing}
use Rattle.xa_manager.proofs.opening.missing_fault.Goals as goal

pub returns-in-Neither : goal.returns-in-Neither
returns-in-Neither c = record { some = tt; other = tt; none = λ read first second found. none_missing first second c.missing.result (c.missing.ensures first second found) c.in-Neither.is }
