use Rattle.std.proofs.Common.{refl}
use Rattle.xa_model.proofs.examples.worked_recovery.Goals as goal

pub returns-clause-recovered : goal.returns-clause-recovered
returns-clause-recovered c = refl

pub returns-clause-read_only : goal.returns-clause-read_only
returns-clause-read_only c = refl

pub returns-clause-boots : goal.returns-clause-boots
returns-clause-boots c = refl

pub returns-clause-found : goal.returns-clause-found
returns-clause-found c = refl

pub returns-clause-gone : goal.returns-clause-gone
returns-clause-gone c = refl

pub returns-clause-heuristics : goal.returns-clause-heuristics
returns-clause-heuristics c = refl

pub returns-clause-scans : goal.returns-clause-scans
returns-clause-scans c = refl

pub returns-clause-room : goal.returns-clause-room
returns-clause-room c = refl

pub returns-clause-full : goal.returns-clause-full
returns-clause-full c = refl

pub returns-clause-refused : goal.returns-clause-refused
returns-clause-refused c = refl

pub returns-clause-again : goal.returns-clause-again
returns-clause-again c = refl
