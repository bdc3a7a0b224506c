use Rattle.xa_model.proofs.Scans.{listed_ascends, scan_lists_first, scan_lists_all, scan_is_answered}
use Rattle.xa_model.proofs.laws.scan_lists_all.Goals as goal

pub returns-clause-ascends : goal.returns-clause-ascends
returns-clause-ascends c = listed_ascends

pub returns-clause-first : goal.returns-clause-first
returns-clause-first c = scan_lists_first

pub returns-clause-whole : goal.returns-clause-whole
returns-clause-whole c = scan_lists_all

pub returns-clause-answered : goal.returns-clause-answered
returns-clause-answered c = scan_is_answered
