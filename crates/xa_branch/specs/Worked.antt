-- Worked rows: the state of a branch, computed on the definitions alone.
use Rattle.std.specs.Prelude.{◌≡◌, true, false, Some, None, []}
use Rattle.xa_codes.specs.declared.codes.TheConstants.{XA_RBROLLBACK, XA_RBOTHER, XA_RBCOMMFAIL}
use Rattle.xa_codes.specs.declared.direction.Direction.TheVariants as direction
use Rattle.xa_xid.specs.Triple.{Triple}
use Rattle.xa_model.specs.State.{State as ModelState, InDoubt, Completed, known_as, known_in}
use Rattle.xa_model.specs.Associations.{begun, joined, suspended, ended, failed, hang_up_by}
use Rattle.xa_model.specs.Phases.{rolled_back, committed, doomed, prepared, decided_by, forgotten}
use Rattle.xa_model.specs.History.{fresh}
use Rattle.xa_model.specs.Logging.{prepared_count}
use Rattle.xa_model.specs.Worked.{xarm, xid}
use Rattle.xa_branch.specs.declared.state.State.TheVariants.{RollbackOnly, Active, Suspended, Idle, Prepared, HeurCommitted, HeurRolledBack}
use Rattle.xa_branch.specs.State.{state_of}

abbrev pub a : Triple
a = xid 0xaa []

-- a new manager, whose session 1 begins a branch, and then ends or suspends its work, or lets it migrate
abbrev pub first : ModelState
first = fresh xarm 1073741824

abbrev pub at_work : ModelState
at_work = (begun first 1 a).after

abbrev pub resting : ModelState
resting = suspended at_work 1 false a

abbrev pub migrated : ModelState
migrated = suspended at_work 1 true a

-- the session ends its work, the branch is prepared, and the operator completes it
abbrev pub doubtful : ModelState
doubtful = prepared (ended at_work 1 a) a

abbrev pub carried_out : ModelState
carried_out = decided_by doubtful direction.Commit a

abbrev pub undone : ModelState
undone = decided_by doubtful direction.Rollback a

pub record WorkedStates : Type 0 where
  pub when_unknown : state_of first a ≡ None
  pub when_begun : state_of at_work a ≡ Some Active
  pub when_suspended : state_of resting a ≡ Some Suspended
  pub when_loose : state_of migrated a ≡ Some Suspended
  pub when_joined : state_of (joined resting 2 a).after a ≡ Some Active
  pub when_ended : state_of (ended at_work 1 a) a ≡ Some Idle
  pub when_ended_loose : state_of (ended migrated 2 a) a ≡ Some Idle
  pub when_failed : state_of (failed at_work 1 a).after a ≡ Some (RollbackOnly XA_RBROLLBACK)
  pub when_doomed : state_of (doomed at_work a) a ≡ Some (RollbackOnly XA_RBOTHER)
  pub when_hung_up : state_of (hang_up_by at_work 1).after a ≡ Some (RollbackOnly XA_RBCOMMFAIL)
  pub when_rolled_back : state_of (rolled_back at_work a) a ≡ None
  pub when_committed : state_of (committed at_work a) a ≡ None
  pub when_prepared :
      (state_of doubtful a ≡ Some Prepared) × (prepared_count doubtful ≡ 1) × (known_as doubtful a ≡ InDoubt)
  pub when_decided :
      (state_of carried_out a ≡ Some HeurCommitted) × (prepared_count carried_out ≡ 0)
      × (known_as carried_out a ≡ Completed direction.Commit)
  pub when_undone :
      (state_of undone a ≡ Some HeurRolledBack) × (prepared_count undone ≡ 0)
      × (known_as undone a ≡ Completed direction.Rollback)
  pub when_forgotten : (state_of (forgotten carried_out a) a ≡ None) × (known_in (forgotten carried_out a) ≡ 0)
  pub when_in_doubt_ends : (state_of (committed doubtful a) a ≡ None) × (state_of (rolled_back doubtful a) a ≡ None)
