use Rattle.xa_log.proofs.Rows.{row_greater, row_unsealed, row_stale, row_ties, row_one, row_second, row_faults, row_damages, row_first, row_left, row_own, row_unfits}
use Rattle.xa_log.proofs.worked.worked_pairs.Goals as goal

pub returns : goal.returns
returns c = record { greater = row_greater; unsealed = row_unsealed; stale = row_stale; ties = row_ties; one_log = row_one; second_format = row_second; faults = row_faults; damages = row_damages; lost_first = row_first; left_behind = row_left; own_records = row_own; unfits = row_unfits }
